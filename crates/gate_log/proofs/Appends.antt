-- What an append and a switch keep, at each moment, at Ok and after a fault.
use Rattle.std.proofs.Common.{◌≡◌, inl, inr, ⊎_elim, ℕ, ◌+◌, ◌-◌, ◌≤◌, ◌^◌, List, [], ◌∷◌, ◌++◌, length, take, Option, Some, None, is_some, refl, sym, ◌∙◌, ap, subst, arith, length-take}
use Rattle.std.specs.Option.{option_map}
use Rattle.disk_trait.specs.declared.area.Area.{Area}
use Rattle.disk_trait.specs.Areas.{Areas, area_of, other_area}
use Rattle.disk_trait.specs.Disk.{DiskView, WhereTold, EachImage, OnArea, Leads, IsSettled, ComesFrom, LeavesOnly}
use Rattle.disk_trait.proofs.Laws.{widens, now, other_twice}
use Rattle.gate_areas.specs.Sealed.{BatchList, CLOSED, sealed_of}
use Rattle.gate_areas.specs.Fronts.{IsFront, batches_of}
use Rattle.gate_areas.specs.Found.{Found, Live, found_of, HasRoom, TakesOver}
use Rattle.gate_areas.specs.LiveBatches.{live_batches, Begins, SealsOne, IsNext, AddsOne}
use Rattle.gate_areas.specs.Steps.{KeepsFront}
use Rattle.gate_areas.specs.declared.live.LiveArea.{LiveArea}
use Rattle.gate_log.specs.Content.{batches_told, with_batch, found_told, switched_found, IsFoundAsOr, IsBeforeOrAfter, AreaStays}
use Rattle.gate_log.specs.Kept.{IsKept}
use Rattle.gate_log.proofs.Keeps.{keeps_rest, told_is, same_partial, found_is, log_found}

-- what stands before a gate is read from the bytes before it
same_before : (live : LiveArea) (given areas : Areas) → take live.gate (area_of live.area areas) ≡ take live.gate (area_of live.area given) → live_batches live areas ≡ live_batches live given
same_before live given areas same = ap (λ (l : List ℕ). batches_of (sealed_of (l ++ CLOSED ∷ []))) same

begins_still : (live : LiveArea) (given areas : Areas) → take live.gate (area_of live.area areas) ≡ take live.gate (area_of live.area given) → Begins live given → Begins live areas
begins_still live given areas same begins = record {
  front = subst (λ (bs : BatchList). IsFront live.generation live.gate (take live.gate (area_of live.area areas)) bs) (sym (same_before live given areas same))
      (subst (λ (l : List ℕ). IsFront live.generation live.gate l (live_batches live given)) (sym same) begins.front);
  within = omega (arith, ap length same, begins.within, length-take live.gate (area_of live.area areas), length-take live.gate (area_of live.area given));
}

-- the bytes before the last gate stay
abbrev pub FrontStays : LiveArea → (before after : Areas) → Type 0
FrontStays live before after = take live.gate (area_of live.area after) ≡ take live.gate (area_of live.area before)

-- A call that failed: the front of the live area stays, and each image is found as before or as one thing more.
module _ (old new : DiskView) (live : LiveArea) (kept : IsKept old live None) (stays : LeavesOnly old new (ComesFrom (FrontStays live) old))
    (counts_now : (t : ℕ) (image : Areas) → t ≤ new.moment → new.may_leave image → new.left_since t image)
    (an_image : (areas : Areas) → new.reads ≡ Some areas → new.may_leave areas) where
  comes : (areas : Areas) → new.reads ≡ Some areas → ComesFrom (FrontStays live) old areas
  comes areas told = now stays counts_now areas (an_image areas told)

  -- the content is the same
  pub still_told : batches_told new live ≡ batches_told old live
  still_told = same_partial (live_batches live) (live_batches live) new.reads old.reads stays.told
      (λ areas given told was.
      let from = comes areas told in
      let same : from.given ≡ given = cc (was, from.was_given) in
      same_before live from.given areas from.stepped ∙ ap (λ (a : Areas). live_batches live a) same)

  -- and what was said of it at each moment is so of each image
  pub still_images : (P : Option BatchList → Areas → Type 0) → LeavesOnly old new (P (batches_told old live)) → EachImage new (P (batches_told new live))
  still_images P run image left = subst (λ (content : Option BatchList). P content image) (sym still_told) (now run counts_now image left)

  module _ (other : Option Found) (either : LeavesOnly old new (IsFoundAsOr live (batches_told old live) other)) where
    -- and the log keeps what a faulted log does
    pub keeps_faulted : (count : ℕ) → count ≡ new.faults → IsKept new live (Some count)
    keeps_faulted count counts = record {
      headed = kept.headed;
      limit = kept.limit;
      begins = λ areas told. let from = comes areas told in begins_still live from.given areas from.stepped (kept.begins from.given from.was_given);
      rests = λ none. absurd (cc);
      settled = λ none. absurd (cc);
      last = λ none. absurd (cc);
      counted = λ k is. let same : k ≡ count = cc in omega (arith, same, counts);
      in_doubt = λ k is. ∣ (other, still_images (λ content. IsFoundAsOr live content other) either) ∣₁;
    }

-- an append
module _ (old new : DiskView) (live : LiveArea) (payload : List ℕ) where
  module _ (run : LeavesOnly old new (ComesFrom (SealsOne live payload) old)) where
    pub append_moments : LeavesOnly old new (IsBeforeOrAfter live (batches_told old live) (live.gate, payload))
    append_moments = widens run (λ image from. ⊎_elim
        (λ is. inl (found_is old live from.given image from.was_given is))
        (λ is. inr (ap (λ (content : Option BatchList). found_told live (with_batch (live.gate, payload) content)) (told_is old live from.given from.was_given) ∙ ap (λ (f : Found). Some f) (sym is)))
        from.stepped.stands)

    pub append_stays : LeavesOnly old new (ComesFrom (OnArea live.area (KeepsFront live.gate)) old)
    append_stays = widens run (λ image from. record { given = from.given; was_given = from.was_given; stepped = from.stepped.stays })

    pub append_front : LeavesOnly old new (ComesFrom (FrontStays live) old)
    append_front = widens run (λ image from. record { given = from.given; was_given = from.was_given; stepped = from.stepped.stays.here })

  module _ (next : LiveArea) (leads : Leads (AddsOne live payload next) old new) where
    pub appended_told : is_some new.reads ≡ is_some old.reads → batches_told new next ≡ with_batch (live.gate, payload) (batches_told old live)
    appended_told told =
        same_partial (live_batches next) (λ areas. live_batches live areas ++ (live.gate, payload) ∷ []) new.reads old.reads told
        (λ areas given is was.
        let from = leads areas is in
        let same : from.given ≡ given = cc (was, from.was_given) in
        from.stepped.more ∙ ap (λ (a : Areas). live_batches live a ++ (live.gate, payload) ∷ []) same)
        ∙ twice old.reads
      where
        twice : (reads : Option Areas) → option_map (λ areas. live_batches live areas ++ (live.gate, payload) ∷ []) reads ≡ with_batch (live.gate, payload) (option_map (live_batches live) reads)
        twice None = refl
        twice (Some areas) = refl

    pub keeps_sealed : IsKept old live None → IsNext live payload next → IsSettled new → new.lengths next.area ≡ next.gate + 1 → next.gate + 1 ≤ 2 ^ 63 - 1 → IsKept new next None
    keeps_sealed kept is_next settled last limit = keeps_rest new next (λ areas told. (leads areas told).stepped.rests) settled last (omega (arith, is_next.gate, kept.headed)) limit

-- a switch
module _ (old new : DiskView) (live : LiveArea) (area : Area) (is : area ≡ other_area live.area) (kept : IsKept old live None) (first : List ℕ) where
  pub switch_room : WhereTold old (λ areas. HasRoom area (live.generation + 1) (found_of areas))
  switch_room areas told = subst (HasRoom area (live.generation + 1)) (sym (kept.rests refl areas told).found)
      (sym (ap other_area is ∙ other_twice live.area), omega arith)

  module _ (run : LeavesOnly old new (ComesFrom (TakesOver area (Live area (live.generation + 1) ((17, first) ∷ []))) old)) where
    old_stays : (before after : Areas) → area_of (other_area area) after ≡ area_of (other_area area) before → area_of live.area after ≡ area_of live.area before
    old_stays before after = subst (λ (a : Area). area_of a after ≡ area_of a before) (ap other_area is ∙ other_twice live.area)

    pub switch_moments : LeavesOnly old new (IsFoundAsOr live (batches_told old live) (Some (switched_found live first)))
    switch_moments = widens run (λ image from. ⊎_elim
        (λ same. inl (log_found old live None kept refl from.given from.was_given ∙ ap (λ (f : Found). Some f) (sym same)))
        (λ new. inr (ap (λ (f : Found). Some f) (ap (λ (a : Area). Live a (live.generation + 1) ((17, first) ∷ [])) (sym is) ∙ sym new)))
        from.stepped.found)

    pub switch_stays : LeavesOnly old new (ComesFrom (AreaStays live.area) old)
    switch_stays = widens run (λ image from. record { given = from.given; was_given = from.was_given; stepped = old_stays from.given image from.stepped.elsewhere })

    pub switch_front : LeavesOnly old new (ComesFrom (FrontStays live) old)
    switch_front = widens switch_stays (λ image from. record { given = from.given; was_given = from.was_given; stepped = ap (λ (l : List ℕ). take live.gate l) from.stepped })
