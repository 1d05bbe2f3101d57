-- An area at rest: batches, and a closed gate, which is its last byte. The other area counts for nothing.
use Rattle.std.proofs.Common.{◌≡◌, ◌⊎◌, inl, inr, ⊎_elim, ℕ, ◌+◌, ◌<◌, ◌^◌, List, [], ◌∷◌, ◌++◌, length, take, drop, true, false, refl, sym, ◌∙◌, ap, subst, arith, append_assoc, length-append}
use Rattle.std.specs.Int.{w64, to_be_bytes}
use Rattle.std.proofs.lemmas.Bool.{cases_Bool, eqb-true}
use Rattle.std.proofs.lemmas.Nat.{from_be_bytes-to_be_bytes_8}
use Rattle.std.proofs.lemmas.List.{take_at, drop_at, length-take-le}
use Rattle.disk_trait.specs.declared.area.Area.{Area}
use Rattle.disk_trait.specs.Areas.{Areas, area_of, other_area}
use Rattle.disk_trait.specs.Disk.{OnArea}
use Rattle.gate_areas.specs.Sealed.{BatchList, Open, is_open, spelled_number, sealed_of, CLOSED, OPEN}
use Rattle.gate_areas.specs.Frames.{frame_of}
use Rattle.gate_areas.specs.Fronts.{IsFront, batches_of, batches_before}
use Rattle.gate_areas.specs.Found.{Live, found_of, counts_for_nothing}
use Rattle.gate_areas.specs.Rest.{AtRest}
use Rattle.gate_areas.specs.Steps.{Sealing, Seals}
use Rattle.gate_areas.proofs.Found.{lives}
use Rattle.gate_areas.proofs.Fronts.{grown, shut_front}

pub closed_shut : (rest : List ℕ) → is_open (CLOSED ∷ rest) ≡ false
closed_shut [] = refl
closed_shut (b ∷ rest) = refl

pub open_is : (gate : ℕ) (rest : List ℕ) → is_open (gate ∷ rest) ≡ true → gate ≡ OPEN
open_is gate [] is = cc
open_is gate (b ∷ rest) is = eqb-true gate OPEN is

-- batches before a gate, where the front is known
pub before_is : (generation gate : ℕ) (front bytes : List ℕ) (batches : BatchList) → take gate bytes ≡ front → IsFront generation gate front batches → batches_before gate bytes ≡ batches
before_is generation gate front bytes batches is is_front =
    ap (λ (l : List ℕ). batches_of (sealed_of (l ++ CLOSED ∷ []))) is
    ∙ ap batches_of (shut_front generation gate CLOSED front [] batches is_front refl)

-- an area of a front and a closed gate is at rest
module _ (area : Area) (generation gate : ℕ) (areas : Areas) (front : List ℕ) (batches : BatchList)
    (is : area_of area areas ≡ front ++ CLOSED ∷ []) (long : length front ≡ gate) (is_front : IsFront generation gate front batches)
    (alone : counts_for_nothing generation (sealed_of (area_of (other_area area) areas)) ≡ true) where
  taken : take gate (area_of area areas) ≡ front
  taken = ap (λ (l : List ℕ). take gate l) is ∙ take_at front (CLOSED ∷ []) gate long

  pub before : batches_before gate (area_of area areas) ≡ batches
  before = before_is generation gate front (area_of area areas) batches taken is_front

  pub at_rest : AtRest area generation gate areas
  at_rest = record {
    front = subst (λ (l : List ℕ). IsFront generation gate l (batches_before gate (area_of area areas))) (sym taken)
        (subst (λ (bs : BatchList). IsFront generation gate front bs) (sym before) is_front);
    within = omega (arith, ap length is, length-append front (CLOSED ∷ []));
    closed = ap (λ (l : List ℕ). drop gate l) is ∙ drop_at front (CLOSED ∷ []) gate long;
    alone = alone;
    found = lives generation _ area areas
        (ap sealed_of is ∙ shut_front generation gate CLOSED front [] batches is_front refl ∙ ap (λ (bs : BatchList). Open generation bs) (sym before)) alone;
  }

-- a frame behind an open gate is one batch more
module _ (generation gate : ℕ) (front payload : List ℕ) (batches : BatchList) (small : length payload < 2 ^ 64) (is_front : IsFront generation gate front batches) where
  body : List ℕ
  body = to_be_bytes w64 (length payload) ++ payload

  number : spelled_number (to_be_bytes w64 (length payload) ++ payload) ≡ length payload
  unfolding spelled_number
  number = from_be_bytes-to_be_bytes_8 (length payload) small

  pub sealed_front : IsFront generation (gate + 9 + length payload) (front ++ OPEN ∷ (to_be_bytes w64 (length payload) ++ payload)) (batches ++ (gate, payload) ∷ [])
  sealed_front =
      subst (λ (n : ℕ). IsFront generation (gate + 9 + n) (front ++ OPEN ∷ (to_be_bytes w64 (length payload) ++ payload)) (batches ++ (gate, payload) ∷ [])) number
      (grown generation gate front batches (to_be_bytes w64 (length payload) ++ payload) is_front (omega (arith, number)))

  pub framed : front ++ OPEN ∷ frame_of payload ≡ (front ++ OPEN ∷ (to_be_bytes w64 (length payload) ++ payload)) ++ CLOSED ∷ []
  framed = sym (append_assoc front (OPEN ∷ (to_be_bytes w64 (length payload) ++ payload)) (CLOSED ∷ []))

  -- whatever gate stands before the frame
  pub gated : (other : ℕ) → (sealed_of (front ++ other ∷ frame_of payload) ≡ Open generation batches) ⊎ (sealed_of (front ++ other ∷ frame_of payload) ≡ Open generation (batches ++ (gate, payload) ∷ []))
  gated other = ⊎_elim
      (λ opened. inr (ap (λ (k : ℕ). sealed_of (front ++ k ∷ frame_of payload)) (open_is other (frame_of payload) opened) ∙ ap sealed_of framed
      ∙ shut_front generation (gate + 9 + length payload) CLOSED (front ++ OPEN ∷ (to_be_bytes w64 (length payload) ++ payload)) [] (batches ++ (gate, payload) ∷ []) sealed_front refl))
      (λ shut. inl (shut_front generation gate other front (frame_of payload) batches is_front shut))
      (cases_Bool (is_open (other ∷ frame_of payload)))

-- while a batch is sealed at the end of an area at rest, and after it
module _ (area : Area) (generation gate : ℕ) (given : Areas) (payload : List ℕ) (small : length payload < 2 ^ 64) (rests : AtRest area generation gate given) where
  old : List ℕ
  old = area_of area given

  alone_still : (image : Areas) → area_of (other_area area) image ≡ area_of (other_area area) given → counts_for_nothing generation (sealed_of (area_of (other_area area) image)) ≡ true
  alone_still image elsewhere = ap (λ (l : List ℕ). counts_for_nothing generation (sealed_of l)) elsewhere ∙ rests.alone

  pub sealing : (image : Areas) → OnArea area (Sealing gate (frame_of payload)) given image
      → (found_of image ≡ Live area generation (batches_before gate (area_of area given))) ⊎ (found_of image ≡ Live area generation (batches_before gate (area_of area given) ++ (gate, payload) ∷ []))
  sealing image step = elim step.here [
    | inl behind ↦ inl (lives generation _ area image (ap sealed_of behind.1 ∙ shut_front generation gate CLOSED (take gate (area_of area given)) behind.0 _ rests.front (closed_shut behind.0)) (alone_still image step.elsewhere))
    | inr gates ↦ ⊎_elim
        (λ is. inl (lives generation _ area image (ap sealed_of gates.1 ∙ is) (alone_still image step.elsewhere)))
        (λ is. inr (lives generation _ area image (ap sealed_of gates.1 ∙ is) (alone_still image step.elsewhere)))
        (gated generation gate (take gate (area_of area given)) payload _ small rests.front gates.0)
  ]

  pub sealing_stays : (image : Areas) → OnArea area (Sealing gate (frame_of payload)) given image → take gate (area_of area image) ≡ take gate (area_of area given)
  sealing_stays image step = elim step.here [
    | inl behind ↦ ap (λ (l : List ℕ). take gate l) behind.1 ∙ take_at (take gate (area_of area given)) (CLOSED ∷ behind.0) gate (length-take-le gate (area_of area given) rests.within)
    | inr gates ↦ ap (λ (l : List ℕ). take gate l) gates.1 ∙ take_at (take gate (area_of area given)) (gates.0 ∷ frame_of payload) gate (length-take-le gate (area_of area given) rests.within)
  ]

  module _ (after : Areas) (step : OnArea area (Seals gate (frame_of payload)) given after) where
    is : area_of area after ≡ (take gate (area_of area given) ++ OPEN ∷ (to_be_bytes w64 (length payload) ++ payload)) ++ CLOSED ∷ []
    is = step.here ∙ framed generation gate (take gate (area_of area given)) payload _ small rests.front

    long : length (take gate (area_of area given) ++ OPEN ∷ (to_be_bytes w64 (length payload) ++ payload)) ≡ gate + 9 + length payload
    long = omega (arith, length-append (take gate (area_of area given)) (OPEN ∷ (to_be_bytes w64 (length payload) ++ payload)), length-take-le gate (area_of area given) rests.within)

    pub sealed_before : batches_before (gate + 9 + length payload) (area_of area after) ≡ batches_before gate (area_of area given) ++ (gate, payload) ∷ []
    sealed_before = before area generation (gate + 9 + length payload) after _ _ is long (sealed_front generation gate (take gate (area_of area given)) payload _ small rests.front) (alone_still after step.elsewhere)

    pub sealed_rest : AtRest area generation (gate + 9 + length payload) after
    sealed_rest = at_rest area generation (gate + 9 + length payload) after _ _ is long (sealed_front generation gate (take gate (area_of area given)) payload _ small rests.front) (alone_still after step.elsewhere)
