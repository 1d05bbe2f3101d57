-- To delete the range of one key is to remove its record.
use Rattle.std.proofs.Common.{◌≡◌, Bool, true, false, ◌&&◌, not, cond, None, refl, sym, ap, ◌∙◌}
use Rattle.std.specs.declared.cmp.Ordering.{Ordering}
use Rattle.std.specs.declared.cmp.Ordering.TheVariants.{Less, Equal, Greater}
use Rattle.std.specs.Ordering.{is_eq, eq_by_cmp, ordering_reverse}
use Rattle.std.specs.FinMap as finite
use Rattle.clone_values.specs.KeyTree.{KeyTree}
use Rattle.key_order.specs.KeyOrder.{key_cmp}
use Rattle.key_order.proofs.Laws.{key_cmp_total, key_cmp_same}
use Rattle.idb_keys.specs.KeyRange.{admits, includes, range_of_one}
use Rattle.index_tables.specs.RecordRows.{Records}
use Rattle.object_stores.specs.Store.{Store}
use Rattle.object_stores.specs.Changed.{outside_range, without_range, store_without_record}

both_ways : (r : Ordering) → (admits false (ordering_reverse r) && admits false r) ≡ is_eq r
both_ways Less = refl
both_ways Equal = refl
both_ways Greater = refl

includes_one : (key q : KeyTree) → includes (range_of_one key) q ≡ eq_by_cmp key_cmp q key
includes_one key q = ap (λ r. admits false r && admits false (key_cmp q key)) (key_cmp_total.antisymm key q) ∙ both_ways (key_cmp q key)

turned : {A : Type 0} (b : Bool) (x y : A) → cond (not b) x y ≡ cond b y x
turned true x y = refl
turned false x y = refl

one_gone : (records : Records) (key : KeyTree) → outside_range records (range_of_one key) ≡ finite.remove records key
one_gone records key = finite.same_map key_cmp_total key_cmp_same _ _ (λ q.
    finite.get-retain_keys records (λ k. not (includes (range_of_one key) k)) q (λ x e. ap (λ y. not (includes (range_of_one key) y)) (sym (key_cmp_same q x e)))
    ∙ turned (includes (range_of_one key) q) (finite.get records q) None
    ∙ ap (λ b. cond b None (finite.get records q)) (includes_one key q)
    ∙ sym (finite.get-remove key_cmp_total records key q))

pub record_gone : (store : Store) (key : KeyTree) → without_range store (range_of_one key) ≡ store_without_record store key
record_gone store key = ap (λ rs. record store { records = rs }) (one_gone store.records key)
