-- Lists of entries, seen through a function of their keys.
--     sorted_mapped, find_mapped, put_mapped, without_mapped
--     below_at            a key below all of a list is below each
--     find_removed        what is found once an entry is taken out
use Rattle.std.proofs.Common.{◌≡◌, ℕ, zero, suc, true, false, List, [], ◌∷◌, refl, sym, ap, ◌∙◌, Some, None, map}
use Rattle.std.specs.Prelude.{cond, not, ◌&&◌, T, slice_get, remove}
use Rattle.std.specs.declared.cmp.Ordering.{Ordering}
use Rattle.std.specs.declared.cmp.Ordering.TheVariants.{Less, Equal, Greater}
use Rattle.std.specs.Ordering.{is_lt, is_eq, eq_by_cmp, on}
use Rattle.std.specs.Cmp.{IsTotalOrder}
use Rattle.std.specs.FinMap.{find, put, is_sorted}
use Rattle.std.specs.FinMap.Entries.{below_all, by_order}
use Rattle.sorted_table.specs.Tables.{without}
use Rattle.sorted_table.proofs.Laws.{is_less, first, second}

module _ {K J X : Type 0} (f : K → J) (R : J → J → Ordering) where
  abbrev pub entry : K × X → J × X
  entry e = (f e.0, e.1)

  below_mapped : (x : K) (es : List (K × X)) → below_all (on f R) x es ≡ below_all R (f x) (map entry es)
  below_mapped x [] = refl
  below_mapped x (e ∷ es) = ap (λ b. is_lt (R (f x) (f e.0)) && b) (below_mapped x es)

  pub sorted_mapped : (es : List (K × X)) → is_sorted (on f R) es ≡ is_sorted R (map entry es)
  sorted_mapped [] = refl
  sorted_mapped (e ∷ es) = λ i. below_mapped e.0 es i && sorted_mapped es i

  pub find_mapped : (k : K) (es : List (K × X)) → find (on f R) k es ≡ find R (f k) (map entry es)
  find_mapped k [] = refl
  find_mapped k (e ∷ es) = ap (λ r. cond (is_eq (R (f k) (f e.0))) (Some e.1) r) (find_mapped k es)

  pub put_mapped : (k : K) (v : X) (es : List (K × X)) → map entry (put (on f R) k v es) ≡ put R (f k) v (map entry es)
  put_mapped k v [] = refl
  put_mapped k v (e ∷ es) =
      elim (R (f k) (f e.0)) as (λ o. map entry (by_order o ((k, v) ∷ e ∷ es) ((e.0, v) ∷ es) (e ∷ put (on f R) k v es)) ≡ by_order o ((f k, v) ∷ entry e ∷ map entry es) ((f e.0, v) ∷ map entry es) (entry e ∷ put R (f k) v (map entry es))) [
        | Less ↦ refl
        | Equal ↦ refl
        | Greater ↦ ap (λ r. entry e ∷ r) (put_mapped k v es)
      ]

  pub without_mapped : (k : K) (es : List (K × X)) → map entry (without (on f R) k es) ≡ without R (f k) (map entry es)
  without_mapped k [] = refl
  without_mapped k (e ∷ es) =
      elim (eq_by_cmp R (f k) (f e.0)) as (λ b. map entry (cond (not b) (e ∷ without (on f R) k es) (without (on f R) k es)) ≡ cond (not b) (entry e ∷ without R (f k) (map entry es)) (without R (f k) (map entry es))) [
        | true ↦ without_mapped k es
        | false ↦ ap (λ r. entry e ∷ r) (without_mapped k es)
      ]

module _ {K X : Type 0} (R : K → K → Ordering) where
  pub below_at : (x : K) (es : List (K × X)) (i : ℕ) (d : K × X) → T (below_all R x es) → slice_get es i ≡ Some d → R x d.0 ≡ Less
  below_at x [] i d h e = cc
  below_at x (c ∷ es) zero d h e = let same : c ≡ d = cc in ap (λ y. R x y.0) (sym same) ∙ is_less _ (first _ _ h)
  below_at x (c ∷ es) (suc i) d h e = below_at x es i d (second _ _ h) e

  module _ (o : IsTotalOrder R) where
    -- a key that ties with one below all of a list is not found there
    missed : (x q : K) (es : List (K × X)) → R q x ≡ Equal → T (below_all R x es) → find R q es ≡ None
    missed x q [] e h = refl
    missed x q (d ∷ es) e h = ap (λ r. cond (is_eq r) (Some d.1) (find R q es)) (o.congr q x d.0 e ∙ is_less _ (first _ _ h)) ∙ missed x q es e (second _ _ h)

    -- what is found once an entry is taken out
    pub find_removed : (q : K) (es : List (K × X)) (i : ℕ) (d : K × X) → T (is_sorted R es) → slice_get es i ≡ Some d → find R q (remove es i) ≡ cond (eq_by_cmp R q d.0) None (find R q es)
    find_removed q [] i d h e = cc
    find_removed q (c ∷ es) zero d h e =
        let same : c ≡ d = cc in
        elim (R q c.0) as (λ r. R q c.0 ≡ r → find R q es ≡ cond (is_eq r) None (cond (is_eq r) (Some c.1) (find R q es))) [
          | Less ↦ λ p. refl
          | Equal ↦ λ p. missed c.0 q es p (first _ _ h)
          | Greater ↦ λ p. refl
        ] refl ∙ ap (λ y. cond (eq_by_cmp R q y.0) None (find R q (c ∷ es))) same
    find_removed q (c ∷ es) (suc i) d h e =
        let rest = find_removed q es i d (second _ _ h) e in
        elim (R q c.0) as (λ r. R q c.0 ≡ r → cond (is_eq r) (Some c.1) (find R q (remove es i)) ≡ cond (eq_by_cmp R q d.0) None (cond (is_eq r) (Some c.1) (find R q es))) [
          | Less ↦ λ p. rest
          | Equal ↦ λ p. sym (ap (λ r. cond (is_eq r) None (Some c.1)) (o.congr q c.0 d.0 p ∙ below_at c.0 es i d (first _ _ h) e))
          | Greater ↦ λ p. rest
        ] refl
