-- Which area is live, and what a stop leaves while its end is repaired.
use Rattle.std.proofs.Common.{◌≡◌, ⊎_elim, ℕ, ◌+◌, ◌<◌, List, [], ◌∷◌, ◌++◌, length, get_or, take, drop, eqb, true, refl, sym, ◌∙◌, ap, subst, arith, take-append-drop}
use Rattle.std.proofs.lemmas.Bool.{cond-true, cases_order, eq-eqb, lt-ltb}
use Rattle.std.proofs.lemmas.List.{drop_more, length-take-le}
use Rattle.disk_trait.specs.declared.area.Area.{Area}
use Rattle.disk_trait.specs.declared.area.Area.TheVariants.{Zero, One}
use Rattle.disk_trait.specs.Areas.{Areas, area_of, other_area}
use Rattle.disk_trait.proofs.Laws.{same_areas}
use Rattle.disk_trait.specs.Disk.{OnArea}
use Rattle.gate_areas.specs.Sealed.{BatchList, Open, Fault, is_open, sealed_of}
use Rattle.gate_areas.specs.Found.{Damaged, found_in, found_of, counts_for_nothing, KeepsFound}
use Rattle.gate_areas.specs.Scan.{EndsAt}
use Rattle.gate_areas.specs.Choice.{ChoiceIs, ChoiceEnds}
use Rattle.gate_areas.specs.Fronts.{IsFront, batches_before}
use Rattle.gate_areas.specs.Rest.{IsLive, AtRest}
use Rattle.gate_areas.specs.Steps.{Repairing, Repairs}
use Rattle.gate_areas.specs.declared.choose.Choice.{Choice}
use Rattle.gate_areas.specs.declared.choose.Choice.TheVariants as choice
use Rattle.gate_areas.proofs.Found.{lives}
use Rattle.gate_areas.proofs.Fronts.{shut_front}
use Rattle.gate_areas.proofs.Rest.{before_is, at_rest, before}

-- what an area stands for that ends at a gate
pub sealed_ends : (generation gate : ℕ) (bytes : List ℕ) (ends : EndsAt generation gate bytes) → sealed_of bytes ≡ Open generation ends.batches
sealed_ends generation gate bytes ends =
    let here : drop gate bytes ≡ get_or bytes gate 0 ∷ drop (gate + 1) bytes = drop_more bytes gate 0 ends.within in
    ap sealed_of (sym (take-append-drop gate bytes) ∙ ap (λ (l : List ℕ). take gate bytes ++ l) here)
    ∙ shut_front generation gate (get_or bytes gate 0) (take gate bytes) (drop (gate + 1) bytes) ends.batches ends.front (ap is_open (sym here) ∙ ends.shut)

-- an open area 0 and a fault of area 1
pub second_broken : (generation gate place : ℕ) (areas : Areas) → EndsAt generation gate areas.zero → sealed_of areas.one ≡ Fault place → found_of areas ≡ Damaged One place
second_broken generation gate place areas ends broken =
    ap (λ s. found_in s (sealed_of areas.one)) (sealed_ends generation gate areas.zero ends) ∙ ap (λ s. found_in (Open generation ends.batches) s) broken

-- two open areas
pub both_open : (read : Choice) (areas : Areas) (g gate h end : ℕ) → EndsAt g gate areas.zero → EndsAt h end areas.one
    → (g ≡ h → read ≡ choice.Damaged One 9) → (h < g → read ≡ choice.Live (record { area = Zero; generation = g; gate = gate })) → (g < h → read ≡ choice.Live (record { area = One; generation = h; gate = end })) → ChoiceEnds read areas
both_open read areas g gate h end zero one same first second = ⊎_elim
    (λ is. subst (λ c. ChoiceEnds c areas) (sym (same is))
    (ap (λ s. found_in s (sealed_of areas.one)) (sealed_ends g gate areas.zero zero) ∙ ap (λ s. found_in (Open g zero.batches) s) (sealed_ends h end areas.one one)
    ∙ cond-true (eqb g h) _ _ (eq-eqb g h is)))
    (⊎_elim
    (λ less. subst (λ c. ChoiceEnds c areas) (sym (second less))
    (one, ap (counts_for_nothing h) (sealed_ends g gate areas.zero zero) ∙ lt-ltb g h less))
    (λ more. subst (λ c. ChoiceEnds c areas) (sym (first more))
    (zero, ap (counts_for_nothing g) (sealed_ends h end areas.one one) ∙ lt-ltb h g more)))
    (cases_order g h)

-- the live area, by its bytes
pub is_live : (area : Area) (generation gate : ℕ) (areas : Areas) → EndsAt generation gate (area_of area areas)
    → counts_for_nothing generation (sealed_of (area_of (other_area area) areas)) ≡ true → IsLive area generation gate areas
is_live area generation gate areas ends alone =
    let same : batches_before gate (area_of area areas) ≡ ends.batches = before_is generation gate (take gate (area_of area areas)) (area_of area areas) ends.batches refl ends.front in
    record {
      front = subst (λ (bs : BatchList). IsFront generation gate (take gate (area_of area areas)) bs) (sym same) ends.front;
      within = ends.within;
      shut = ends.shut;
      alone = alone;
      found = lives generation _ area areas (sealed_ends generation gate (area_of area areas) ends ∙ ap (λ (bs : BatchList). Open generation bs) (sym same)) alone;
    }

pub choice_is : (read : Choice) (areas : Areas) → ChoiceEnds read areas → ChoiceIs read areas
choice_is choice.New areas is = is
choice_is (choice.Live live) areas is = is_live live.area live.generation live.gate areas is.0 is.1
choice_is (choice.Damaged area place) areas is = is

-- while the end of the live area is repaired
module _ (area : Area) (generation gate : ℕ) (given : Areas) (live : IsLive area generation gate given) where
  alone_still : (image : Areas) → area_of (other_area area) image ≡ area_of (other_area area) given → counts_for_nothing generation (sealed_of (area_of (other_area area) image)) ≡ true
  alone_still image elsewhere = ap (λ (l : List ℕ). counts_for_nothing generation (sealed_of l)) elsewhere ∙ live.alone

  pub repairing : (image : Areas) → OnArea area (Repairing gate) given image → KeepsFound area given image
  repairing image step = record {
    found = ⊎_elim
        (λ same. ap found_of (same_areas area image given same step.elsewhere))
        (λ gated. lives generation _ area image
        (ap sealed_of gated.1 ∙ shut_front generation gate gated.0 (take gate (area_of area given)) [] _ live.front refl) (alone_still image step.elsewhere)
        ∙ sym live.found)
        step.here;
    elsewhere = step.elsewhere;
  }

  pub repaired : (after : Areas) → OnArea area (Repairs gate) given after → AtRest area generation gate after × (batches_before gate (area_of area after) ≡ batches_before gate (area_of area given))
  repaired after step =
      let long : length (take gate (area_of area given)) ≡ gate = length-take-le gate (area_of area given) (omega (arith, live.within)) in (
        at_rest area generation gate after (take gate (area_of area given)) _ step.here long live.front (alone_still after step.elsewhere),
        before area generation gate after (take gate (area_of area given)) _ step.here long live.front (alone_still after step.elsewhere),
      )
