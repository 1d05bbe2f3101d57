-- What the areas stand for while a new area is made beside another.
use Rattle.std.proofs.Common.{◌≡◌, inl, inr, ⊎_elim, ℕ, ◌<◌, List, ◌∷◌, Bool, true, false, cond, eqb, ltb, refl, sym, ◌∙◌, ap, subst}
use Rattle.std.proofs.lemmas.Bool.{lt-ltb}
use Rattle.disk_trait.specs.declared.area.Area.{Area}
use Rattle.disk_trait.specs.declared.area.Area.TheVariants.{Zero, One}
use Rattle.disk_trait.specs.Areas.{Areas, area_of, other_area}
use Rattle.disk_trait.proofs.Laws.{same_areas}
use Rattle.disk_trait.specs.Disk.{OnArea}
use Rattle.gate_areas.specs.Sealed.{BatchList, Sealed, Blank, Open, Fault, sealed_of, OPEN}
use Rattle.gate_areas.specs.Found.{Found, Live, Damaged, found_in, found_of, counts_for_nothing, HasRoom, TakesOver}
use Rattle.gate_areas.specs.Steps.{Making}
use Rattle.gate_areas.proofs.Found.{lives}

-- what is found, by one area and the other
abbrev found_by : Area → (here there : Sealed) → Found
found_by Zero here there = found_in here there
found_by One here there = found_in there here

found_by_is : (area : Area) (areas : Areas) → found_of areas ≡ found_by area (sealed_of (area_of area areas)) (sealed_of (area_of (other_area area) areas))
found_by_is Zero areas = refl
found_by_is One areas = refl

-- Where there is room, nothing is lost where this area is made blank, and the other counts for nothing.
record IsFree (area : Area) (generation : ℕ) (here there : Sealed) : Type 0 where
  blanked : found_by area Blank there ≡ found_by area here there
  counts : counts_for_nothing generation there ≡ true

both_zero : (same less : Bool) (g h generation : ℕ) (bs cs : BatchList) → HasRoom Zero generation (cond same (Damaged One 9) (cond less (Live Zero g bs) (Live One h cs)))
    → (Live One h cs ≡ (cond same (Damaged One 9) (cond less (Live Zero g bs) (Live One h cs)))) × (h < generation)
both_zero true less g h generation bs cs room = absurd room
both_zero false true g h generation bs cs room = absurd (cc room.0)
both_zero false false g h generation bs cs room = (refl, room.1)

both_one : (same less : Bool) (g h generation : ℕ) (bs cs : BatchList) → HasRoom One generation (cond same (Damaged One 9) (cond less (Live Zero h cs) (Live One g bs)))
    → (Live Zero h cs ≡ (cond same (Damaged One 9) (cond less (Live Zero h cs) (Live One g bs)))) × (h < generation)
both_one true less g h generation bs cs room = absurd room
both_one false true g h generation bs cs room = (refl, room.1)
both_one false false g h generation bs cs room = absurd (cc room.0)

free : (area : Area) (generation : ℕ) (here there : Sealed) → HasRoom area generation (found_by area here there) → IsFree area generation here there
free Zero generation Blank Blank room = record { blanked = refl; counts = refl }
free Zero generation Blank (Open g bs) room = record { blanked = refl; counts = lt-ltb g generation room.1 }
free Zero generation Blank (Fault place) room = absurd room
free Zero generation (Open g bs) Blank room = absurd (cc room.0)
free Zero generation (Open g bs) (Open h cs) room =
    let both = both_zero (eqb g h) (ltb h g) g h generation bs cs room in
    record { blanked = both.0; counts = lt-ltb h generation both.1 }
free Zero generation (Open g bs) (Fault place) room = absurd room
free Zero generation (Fault place) there room = absurd room
free One generation Blank Blank room = record { blanked = refl; counts = refl }
free One generation Blank (Open g bs) room = record { blanked = refl; counts = lt-ltb g generation room.1 }
free One generation Blank (Fault place) room = absurd room
free One generation (Open g bs) Blank room = absurd (cc room.0)
free One generation (Open g bs) (Open h cs) room =
    let both = both_one (eqb h g) (ltb g h) g h generation bs cs room in
    record { blanked = both.0; counts = lt-ltb h generation both.1 }
free One generation (Open g bs) (Fault place) room = absurd room
free One generation (Fault place) Blank room = absurd room
free One generation (Fault place) (Open h cs) room = absurd room
free One generation (Fault place) (Fault at) room = absurd room

module _ (area : Area) (generation : ℕ) (given : Areas) (room : HasRoom area generation (found_of given)) where
  is_free : IsFree area generation (sealed_of (area_of area given)) (sealed_of (area_of (other_area area) given))
  is_free = free area generation _ _ (subst (HasRoom area generation) (found_by_is area given) room)

  pub alone_beside : (image : Areas) → area_of (other_area area) image ≡ area_of (other_area area) given
      → counts_for_nothing generation (sealed_of (area_of (other_area area) image)) ≡ true
  alone_beside image elsewhere = ap (λ (l : List ℕ). counts_for_nothing generation (sealed_of l)) elsewhere ∙ is_free.counts

  blank_same : (image : Areas) → sealed_of (area_of area image) ≡ Blank → area_of (other_area area) image ≡ area_of (other_area area) given → found_of image ≡ found_of given
  blank_same image blank elsewhere =
      found_by_is area image
      ∙ ap (λ (s : Sealed). found_by area s (sealed_of (area_of (other_area area) image))) blank
      ∙ ap (λ (l : List ℕ). found_by area Blank (sealed_of l)) elsewhere
      ∙ is_free.blanked ∙ sym (found_by_is area given)

  -- while an area is made, nothing changes, or the new area is live
  pub making : (text : List ℕ) (batches : BatchList) → sealed_of (OPEN ∷ text) ≡ Open generation batches → (image : Areas)
      → OnArea area (Making text) given image → TakesOver area (Live area generation batches) given image
  making text batches is image step = record {
    found = ⊎_elim
        (λ same. inl (ap found_of (same_areas area image given same step.elsewhere)))
        (⊎_elim
        (λ blank. inl (blank_same image blank step.elsewhere))
        (λ made. inr (lives generation batches area image (ap sealed_of made ∙ is) (alone_beside image step.elsewhere))))
        step.here;
    elsewhere = step.elsewhere;
  }
