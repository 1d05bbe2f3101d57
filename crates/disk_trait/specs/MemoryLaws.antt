-- Why a disk in memory keeps the laws of a disk. These proofs stand here, since an `impl` takes them from specs/ alone.
use Rattle.std.specs.Prelude.{◌≡◌, ℕ, ◌+◌, ◌-◌, ◌≤◌, min, List, [], ◌∷◌, ◌++◌, length, take, drop, replicate, Some, refl}
use Rattle.std.proofs.Common.{inl, inr, sym, ◌∙◌, ap, subst, arith, append_assoc, length-append, length-take, length-drop}
use Rattle.std.proofs.lemmas.Bool.{cases_lt}
use Rattle.std.proofs.lemmas.List.{take-append-le, take_all, take_min, drop_at, drop_all, length-replicate}
use Rattle.disk_trait.specs.declared.area.Area.{Area}
use Rattle.disk_trait.specs.declared.area.Area.TheVariants.{Zero, One}
use Rattle.disk_trait.specs.declared.plan.Image.{Image}
use Rattle.disk_trait.specs.declared.plan.Image.TheVariants.{Kept, Dropped, Byte}
use Rattle.disk_trait.specs.Areas.{Areas, area_of, with_area}
use Rattle.disk_trait.specs.Disk.{overwritten, Torn, Cut, OnArea}
use Rattle.disk_trait.specs.Memory.{Change, standing, no_bytes, MayLeave, LeftSince, picked_write, picked_cut}
use Rattle.disk_trait.specs.Memory.Change.{Wrote, Missed, WasCut, Synced, Restarted}

-- a write that did nothing is torn, too
pub torn_nothing : (area : Area) (from n : ℕ) (areas : Areas) → OnArea area (Torn from n) areas areas
torn_nothing area from n areas = record {
  here = record { before = take_min from (area_of area areas); after = refl; no_shorter = omega arith; no_longer = omega arith };
  elsewhere = refl;
}

-- and a cut that did nothing may have been one
pub cut_nothing : (area : Area) (len : ℕ) (areas : Areas) → OnArea area (Cut len) areas areas
cut_nothing area len areas = record { here = inl refl; elsewhere = refl }

-- a step on one area leads to these areas with the new bytes in it
pub on_area : (area : Area) (step : List ℕ → List ℕ → Type 0) (areas : Areas) (bytes : List ℕ) → step (area_of area areas) bytes → OnArea area step areas (with_area area bytes areas)
on_area Zero step areas bytes done = record { here = done; elsewhere = refl }
on_area One step areas bytes done = record { here = done; elsewhere = refl }

-- a write that is done is one of those that a stop may have torn
pub written_is_torn : (from n : ℕ) (bytes old : List ℕ) → length bytes ≡ n → Torn from n old (overwritten from bytes old)
written_is_torn from n bytes old long = record {
  before =
      let front : length (take from old) ≡ min from (length old) = length-take from old in
      ap (λ (l : List ℕ). take (min from (length old)) l) (append_assoc (take from old) bytes (drop (from + length bytes) old))
      ∙ take-append-le (min from (length old)) (take from old) (bytes ++ drop (from + length bytes) old) (omega arith)
      ∙ take_all (min from (length old)) (take from old) (omega arith);
  after = elim (cases_lt (length old) from) [
    | inl past ↦ drop_all (from + n) (overwritten from bytes old) (omega (arith, sizes)) ∙ sym (drop_all (from + n) old (omega arith))
    | inr within ↦
        let front : length (take from old ++ bytes) ≡ from + n = omega (arith, length-append (take from old) bytes, length-take from old) in
        drop_at (take from old ++ bytes) (drop (from + length bytes) old) (from + n) front ∙ ap (λ (k : ℕ). drop (from + k) old) long
  ];
  no_shorter = omega (arith, sizes);
  no_longer = omega (arith, sizes);
}
  where
    sizes : length (overwritten from bytes old) ≡ min from (length old) + length bytes + (length old - (from + length bytes))
    sizes = simp (length-append, length-take, length-drop)

-- each area of an image is a choice of its own: an area of one image beside the other area of another
mixed_step : (on area : Area) (step : List ℕ → List ℕ → Type 0) (before_a before_b a b : Areas) → OnArea on step before_a a → OnArea on step before_b b
    → OnArea on step (with_area area (area_of area before_a) before_b) (with_area area (area_of area a) b)
mixed_step Zero Zero step before_a before_b a b from_a from_b = record { here = from_a.here; elsewhere = from_b.elsewhere }
mixed_step Zero One step before_a before_b a b from_a from_b = record { here = from_b.here; elsewhere = from_a.elsewhere }
mixed_step One Zero step before_a before_b a b from_a from_b = record { here = from_b.here; elsewhere = from_a.elsewhere }
mixed_step One One step before_a before_b a b from_a from_b = record { here = from_a.here; elsewhere = from_b.elsewhere }

mixed_pin : (on area : Area) (a b reads : Areas) → area_of on a ≡ area_of on reads → area_of on b ≡ area_of on reads → area_of on (with_area area (area_of area a) b) ≡ area_of on reads
mixed_pin Zero Zero a b reads is_a is_b = is_a
mixed_pin Zero One a b reads is_a is_b = is_b
mixed_pin One Zero a b reads is_a is_b = is_b
mixed_pin One One a b reads is_a is_b = is_a

mixed_same : (area : Area) (a b c : Areas) → a ≡ c → b ≡ c → with_area area (area_of area a) b ≡ c
mixed_same Zero a b c is_a is_b = λ i. record { zero = (is_a i).zero; one = (is_b i).one }
mixed_same One a b c is_a is_b = λ i. record { zero = (is_b i).zero; one = (is_a i).one }

mixed : (image : Image) (history : List Change) (area : Area) (a b : Areas) → MayLeave image history a → MayLeave image history b → MayLeave image history (with_area area (area_of area a) b)
mixed image [] area a b is_a is_b = mixed_same area a b no_bytes is_a is_b
mixed image (Wrote on from bytes ∷ earlier) area a b from_a from_b = (
  with_area area (area_of area from_a.0) from_b.0,
  mixed image earlier area from_a.0 from_b.0 from_a.1 from_b.1,
  mixed_step on area (Torn from (length bytes)) from_a.0 from_b.0 a b from_a.2 from_b.2,
)
mixed image (Missed on from n ∷ earlier) area a b from_a from_b = (
  with_area area (area_of area from_a.0) from_b.0,
  mixed image earlier area from_a.0 from_b.0 from_a.1 from_b.1,
  mixed_step on area (Torn from n) from_a.0 from_b.0 a b from_a.2 from_b.2,
)
mixed image (WasCut on len ∷ earlier) area a b from_a from_b = (
  with_area area (area_of area from_a.0) from_b.0,
  mixed image earlier area from_a.0 from_b.0 from_a.1 from_b.1,
  mixed_step on area (Cut len) from_a.0 from_b.0 a b from_a.2 from_b.2,
)
mixed image (Synced on ∷ earlier) area a b from_a from_b = (mixed image earlier area a b from_a.0 from_b.0, mixed_pin on area a b (standing image earlier).reads from_a.1 from_b.1)
mixed image (Restarted ∷ earlier) area a b is_a is_b = mixed_same area a b (standing image earlier).picked is_a is_b

-- an area that was put in
area_of-with_area : (area : Area) (bytes : List ℕ) (areas : Areas) → area_of area (with_area area bytes areas) ≡ bytes
area_of-with_area Zero bytes areas = refl
area_of-with_area One bytes areas = refl

picked_is_torn : (image : Image) (from : ℕ) (bytes old : List ℕ) → Torn from (length bytes) old (picked_write image from bytes old)
picked_is_torn Kept from bytes old = written_is_torn from (length bytes) bytes old refl
picked_is_torn Dropped from bytes old = record { before = take_min from old; after = refl; no_shorter = omega arith; no_longer = omega arith }
picked_is_torn (Byte b) from bytes old = written_is_torn from (length bytes) (replicate (length bytes) b) old (length-replicate (length bytes) b)

picked_is_cut : (image : Image) (len : ℕ) (old : List ℕ) → Cut len old (picked_cut image len old)
picked_is_cut Kept len old = inr refl
picked_is_cut Dropped len old = inl refl
picked_is_cut (Byte b) len old = inr refl

-- what reads give, and what the plan picks, are images of the model
pub standing_may_be_left : (image : Image) (history : List Change) → MayLeave image history (standing image history).reads × MayLeave image history (standing image history).picked
standing_may_be_left image [] = (refl, refl)
standing_may_be_left image (Wrote area from bytes ∷ earlier) =
    let s = standing image earlier in
    let was = standing_may_be_left image earlier in (
      (s.reads, was.0, on_area area (Torn from (length bytes)) s.reads _ (written_is_torn from (length bytes) bytes (area_of area s.reads) refl)),
      (s.picked, was.1, on_area area (Torn from (length bytes)) s.picked _ (picked_is_torn image from bytes (area_of area s.picked))),
    )
standing_may_be_left image (Missed area from n ∷ earlier) =
    let s = standing image earlier in
    let was = standing_may_be_left image earlier in ((s.reads, was.0, torn_nothing area from n s.reads), (s.picked, was.1, torn_nothing area from n s.picked))
standing_may_be_left image (WasCut area len ∷ earlier) =
    let s = standing image earlier in
    let was = standing_may_be_left image earlier in (
      (s.reads, was.0, on_area area (Cut len) s.reads _ (inr refl)),
      (s.picked, was.1, on_area area (Cut len) s.picked _ (picked_is_cut image len (area_of area s.picked))),
    )
standing_may_be_left image (Synced area ∷ earlier) =
    let s = standing image earlier in
    let was = standing_may_be_left image earlier in (
      (was.0, refl),
      (mixed image earlier area s.reads s.picked was.0 was.1, area_of-with_area area (area_of area s.reads) s.picked),
    )
standing_may_be_left image (Restarted ∷ earlier) = (refl, refl)

-- the laws of the clock
pub memory_counts_now : (image : Image) (history : List Change) (t : ℕ) (areas : Areas) → MayLeave image history areas → LeftSince image history t areas
memory_counts_now image [] t areas left = left
memory_counts_now image (change ∷ earlier) t areas left = inl left

pub memory_only_now : (image : Image) (history : List Change) (areas : Areas) → LeftSince image history (length history) areas → MayLeave image history areas
memory_only_now image [] areas left = left
memory_only_now image (change ∷ earlier) areas (inl left) = left
memory_only_now image (change ∷ earlier) areas (inr past) = absurd (omega (arith, past.0))

pub memory_since_earlier : (image : Image) (history : List Change) (s t : ℕ) (areas : Areas) → s ≤ t → LeftSince image history t areas → LeftSince image history s areas
memory_since_earlier image [] s t areas le left = left
memory_since_earlier image (change ∷ earlier) s t areas le (inl left) = inl left
memory_since_earlier image (change ∷ earlier) s t areas le (inr past) = inr (omega (arith, past.0), memory_since_earlier image earlier s t areas le past.1)

-- what is told is what reads give
pub told_is : (reads areas : Areas) → Some reads ≡ Some areas → reads ≡ areas
told_is reads areas told = cc

pub reads_are_left : (image : Image) (history : List Change) (areas : Areas) → Some (standing image history).reads ≡ Some areas → MayLeave image history areas
reads_are_left image history areas told = subst (MayLeave image history) (told_is (standing image history).reads areas told) (standing_may_be_left image history).0

pub told_length : (reads areas : Areas) (area : Area) → Some reads ≡ Some areas → length (area_of area reads) ≡ length (area_of area areas)
told_length reads areas area told = ap (λ (a : Areas). length (area_of area a)) (told_is reads areas told)
