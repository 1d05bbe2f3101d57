-- One more batch.
--     stands_here           the batch at a place, with those behind it
--     goes_on, gives_none   its records apply, or one doesn't
use Rattle.std.proofs.Common.{◌≡◌, ℕ, zero, suc, ◌+◌, List, [], ◌∷◌, drop, slice_get, Some, None, Result, Ok, Err, sym, ap, ◌∙◌, add-one}
use Rattle.std.proofs.lemmas.Option.{same_Some}
use Rattle.item_changes.specs.Items.{Items}
use Rattle.gate_areas.specs.Sealed.{BatchList}
use Rattle.log_history.specs.Replayed.{after_payload, or_fault, replayed_on}

stands_suc : {X : Type 0} (xs : List X) (i : ℕ) (x : X) → slice_get xs i ≡ Some x → drop i xs ≡ x ∷ drop (suc i) xs
stands_suc [] i x e = cc
stands_suc (y ∷ xs) zero x e = ap (λ z. z ∷ xs) (same_Some y x e)
stands_suc (y ∷ xs) (suc i) x e = stands_suc xs i x e

pub stands_here : {X : Type 0} (xs : List X) (i : ℕ) (x : X) → slice_get xs i ≡ Some x → drop i xs ≡ x ∷ drop (i + 1) xs
stands_here xs i x e = rw add-one (stands_suc xs i x e)

module _ (batches : BatchList) (i gate : ℕ) (payload : List ℕ) (at : slice_get batches i ≡ Some (gate, payload)) where
  module _ (items : Items) (all : Result Items ℕ) (so_far : replayed_on (Ok items) (drop i batches) ≡ all) where
    next : replayed_on (or_fault gate (after_payload items payload)) (drop (i + 1) batches) ≡ all
    next = ap (replayed_on (Ok items)) (sym (stands_here batches i (gate, payload) at)) ∙ so_far

    pub goes_on : (more : Items) → after_payload items payload ≡ Some more → replayed_on (Ok more) (drop (i + 1) batches) ≡ all
    goes_on more e = ap (λ o. replayed_on (or_fault gate o) (drop (i + 1) batches)) (sym e) ∙ next

    pub gives_none : after_payload items payload ≡ None → all ≡ Err (gate + 9)
    gives_none e = sym next ∙ ap (λ o. replayed_on (or_fault gate o) (drop (i + 1) batches)) e
