-- Reading members one after the other, as a loop does.
use Rattle.std.proofs.Common.{◌≡◌, ℕ, suc, ◌-◌, ◌+◌, ◌≤◌, ◌<◌, List, [], ◌∷◌, ◌++◌, length, drop, min, Option, Some, None, refl, sym, ap, ◌∙◌, append_assoc, arith}
use Rattle.std.proofs.lemmas.List.{append-nil, drop_all}
use Rattle.value_bytes.specs.declared.error.SpellingError.{SpellingError}
use Rattle.value_bytes.specs.declared.error.SpellingError.TheVariants as error
use Rattle.value_bytes.specs.Steps.{◌>>=◌, IsUnspelled, many_at}

-- what was read before, and what is still read
abbrev pub with_front : {A : Type 0} → List A → Option (List A × List ℕ) → Option (List A × List ℕ)
with_front front read = read >>= λ x. Some (front ++ x.0, x.1)

module _ {A : Type 0} (r : List ℕ → Option (A × List ℕ)) (count i : ℕ) (bytes : List ℕ) (total : Option (List A × List ℕ)) where
  regroup : (front : List A) (n : A) (read : Option (List A × List ℕ)) → with_front front (read >>= λ x. Some (n ∷ x.0, x.1)) ≡ with_front (front ++ n ∷ []) read
  regroup front n (Some x) = ap (λ (ns : List A). Some (ns, x.1)) (simp append_assoc)
  regroup front n None = refl

  pub goes_on : (front : List A) (n : A) (after : List ℕ) → i < count → r bytes ≡ Some (n, after)
      → with_front front (many_at r (count - i) bytes) ≡ total → with_front (front ++ n ∷ []) (many_at r (count - (i + 1)) after) ≡ total
  unfolding many_at
  goes_on front n after lt h so_far =
      let k : count - i ≡ suc (count - (i + 1)) = omega arith in
      let one : with_front front (many_at r (count - i) bytes) ≡ with_front (front ++ n ∷ []) (many_at r (count - (i + 1)) after) = rw (k, h) (regroup front n (many_at r (count - (i + 1)) after)) in
      sym one ∙ so_far

  pub ends : (e : SpellingError) (front : List A) → i < count → IsUnspelled e (r bytes) → with_front front (many_at r (count - i) bytes) ≡ total → IsUnspelled e total
  unfolding many_at
  ends error.NoMemory front lt h so_far = tt
  ends error.NotInGrammar front lt h so_far =
      let k : count - i ≡ suc (count - (i + 1)) = omega arith in
      let one : with_front front (many_at r (count - i) bytes) ≡ None = rw (k, h) refl in
      sym so_far ∙ one

  pub is_done : (front : List A) → count ≤ i → with_front front (many_at r (count - i) bytes) ≡ total → total ≡ Some (front, bytes)
  unfolding many_at
  is_done front le so_far =
      let k : count - i ≡ 0 = omega arith in
      let one : with_front front (many_at r (count - i) bytes) ≡ Some (front, bytes) = rw k (ap (λ (ns : List A). Some (ns, bytes)) (append-nil front)) in
      sym so_far ∙ one

-- a count of what was passed, and of what is left, once nothing is left
pub all_counted : {A : Type 0} (f : List A → ℕ) (xs : List A) (i size total : ℕ) → f [] ≡ 0 → length xs ≤ i → size ≤ 18446744073709551615 → min (size + f (drop i xs)) 18446744073709551615 ≡ total → size ≡ total
all_counted f xs i size total none le fits e = let gone : f (drop i xs) ≡ 0 = ap f (drop_all i xs le) ∙ none in omega arith
