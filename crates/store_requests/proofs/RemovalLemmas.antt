-- Changes noted one after the other.
use Rattle.std.proofs.Common.{◌≡◌, ℕ, zero, suc, ◌+◌, arith, List, [], ◌∷◌, ◌++◌, take, sym, ap, ◌∙◌, Some}
use Rattle.std.specs.Prelude.{slice_get}
use Rattle.std.proofs.lemmas.List.{append_assoc, map-append}
use Rattle.clone_values.specs.KeyTree.{KeyTree}
use Rattle.idb_calls.specs.Deltas.{DeltaTree, Remove}
use Rattle.store_requests.specs.Runs.{removals}
use Rattle.store_requests.specs.declared.changes.StoreNames.{StoreNames}

take_one : {A : Type 0} (xs : List A) (i : ℕ) (x : A) → slice_get xs i ≡ Some x → take (suc i) xs ≡ take i xs ++ x ∷ []
take_one [] i x at = cc
take_one (y ∷ ys) zero x at = cc
take_one (y ∷ ys) (suc i) x at = ap (λ zs. y ∷ zs) (take_one ys i x at)

pub one_more : (names : StoreNames) (before : List DeltaTree) (keys : List KeyTree) (i : ℕ) (k : KeyTree) → slice_get keys i ≡ Some k
    → (before ++ removals names (take i keys)) ++ Remove names.database names.store k ∷ [] ≡ before ++ removals names (take (suc i) keys)
one_more names before keys i k at =
    append_assoc before (removals names (take i keys)) (Remove names.database names.store k ∷ [])
    ∙ ap (λ ds. before ++ ds) (sym (map-append (Remove names.database names.store) (take i keys) (k ∷ [])) ∙ ap (removals names) (sym (take_one keys i k at)))

pub one_noted : (names : StoreNames) (before changes new : List DeltaTree) (keys : List KeyTree) (i : ℕ) (db store : List ℕ) (k q : KeyTree) → new ≡ changes ++ Remove db store k ∷ []
    → db ≡ names.database → store ≡ names.store → k ≡ q → Some q ≡ slice_get keys i → changes ≡ before ++ removals names (take i keys) → new ≡ before ++ removals names (take (i + 1) keys)
one_noted names before changes new keys i db store k q noted in_db in_store is at so_far =
    let next : suc i ≡ i + 1 = omega arith in
    noted ∙ ap (λ d. changes ++ Remove d store k ∷ []) in_db ∙ ap (λ s. changes ++ Remove names.database s k ∷ []) in_store
    ∙ ap (λ p. changes ++ Remove names.database names.store p ∷ []) is ∙ ap (λ cs. cs ++ Remove names.database names.store q ∷ []) so_far
    ∙ one_more names before keys i q (sym at) ∙ ap (λ n. before ++ removals names (take n keys)) next
