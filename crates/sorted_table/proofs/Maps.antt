-- The lists of std's finite maps.
--     entries_remove      removing a key leaves out what ties with it
use Rattle.std.proofs.Common.{◌≡◌, Bool, true, false, cond, not, List, None, Ordering, is_eq, refl, sym, ap, ◌∙◌}
use Rattle.std.specs.Ordering.{eq_by_cmp}
use Rattle.std.specs.Cmp.{IsTotalOrder}
use Rattle.std.specs.FinMap as map
use Rattle.std.specs.FinMap.{FinMap, IsAntisymmetric, find, entries_sorted, get-entries, get-remove}
use Rattle.std.specs.FinMap.Entries.{is_sorted-where_key, find-where_key, same_entries}
use Rattle.std.proofs.lemmas.Cmp.{alike_right, eq_by_cmp_equiv}
use Rattle.sorted_table.specs.Tables.{without}

turned : {A : Type 0} (b : Bool) (x y : A) → cond b x y ≡ cond (not b) y x
turned true x y = refl
turned false x y = refl

module _ {K V : Type 0} {R : K → K → Ordering} (o : IsTotalOrder R) where
  find_without : (q k : K) (es : List (K × V)) → cond (eq_by_cmp R q k) None (find R q es) ≡ find R q (without R k es)
  find_without q k es = ap (λ b. cond b None (find R q es)) ((eq_by_cmp_equiv o).symm q k) ∙ turned _ None (find R q es)
      ∙ sym (find-where_key R (λ x. not (eq_by_cmp R k x)) q (λ x t. ap (λ r. not (is_eq r)) (sym (alike_right o q x k t))) es)

  pub entries_remove : IsAntisymmetric R → (m : FinMap R V) (k : K) → map.entries (map.remove m k) ≡ without R k (map.entries m)
  entries_remove same m k = same_entries R o same _ _ (entries_sorted (map.remove m k)) (is_sorted-where_key R _ (map.entries m) (entries_sorted m))
      (λ q. sym (get-entries (map.remove m k) q) ∙ get-remove o m k q ∙ ap (cond (eq_by_cmp R q k) None) (get-entries m q) ∙ find_without q k (map.entries m))
