-- What stays as it should be through each change.
--     stored_insert, stored_remove      records that may be stored, and one more or less
--     fine_records                      other records of the same store
--     fine_insert, fine_remove, fine_empty      a record comes or goes;  all go
--     fine_index, fine_no_index         an index comes, or goes
use Rattle.std.specs.Prelude.{◌≡◌, ℕ, true, false, cond, Some, None, refl}
use Rattle.std.proofs.Common.{sym, ◌∙◌, subst}
use Rattle.std.specs.Ordering.{is_eq}
use Rattle.std.specs.Cmp.{Equal-is}
use Rattle.std.specs.FinMap.{get, insert, remove, empty, get-insert, get-remove, get-empty}
use Rattle.clone_values.specs.Tree.{Tree}
use Rattle.clone_values.specs.KeyTree.{KeyTree}
use Rattle.key_order.specs.KeyOrder.{key_cmp}
use Rattle.key_order.proofs.Laws.{key_cmp_total, key_cmp_same}
use Rattle.idb_schema.specs.declared.definitions.IndexInfo.{IndexInfo}
use Rattle.idb_schema.specs.Definitions.{IsIndexInfo, index_named}
use Rattle.idb_schema.proofs.Laws.{with_one_more, with_one_less}
use Rattle.index_tables.specs.RecordRows.{Records}
use Rattle.index_tables.specs.Unique.{broken_key, is_broken}
use Rattle.range_reads.specs.Contents.{info_with_index, info_without_index}
use Rattle.store_contents.specs.Store.{Content}
use Rattle.store_contents.specs.IsStore.{IsStored, AreStored, IsStoreContent}
use Rattle.object_stores.proofs.Indexes.{fine_with, fine_without}
use Rattle.object_stores.proofs.Off.{same_some, not_none}

pub stored_insert : (m : Records) (k : KeyTree) (v : Tree) → AreStored m → IsStored k v → AreStored (insert m k v)
stored_insert m k v all here q w e =
    elim (is_eq (key_cmp q k)) as (λ b. is_eq (key_cmp q k) ≡ b → cond b (Some v) (get m q) ≡ Some w → IsStored q w) [
      | true ↦ λ t is. subst (λ (u : Tree). IsStored q u) (same_some v w is) (subst (λ (j : KeyTree). IsStored j v) (sym (key_cmp_same q k ((Equal-is _).0 t))) here)
      | false ↦ λ t is. all q w is
    ] refl (sym (get-insert key_cmp_total m k v q) ∙ e)

pub stored_remove : (m : Records) (k : KeyTree) → AreStored m → AreStored (remove m k)
stored_remove m k all q w e =
    elim (is_eq (key_cmp q k)) as (λ b. cond b None (get m q) ≡ Some w → IsStored q w) [
      | true ↦ λ is. absurd (not_none w (sym is))
      | false ↦ λ is. all q w is
    ] (sym (get-remove key_cmp_total m k q) ∙ e)

pub stored_empty : AreStored empty
stored_empty q w e = absurd (not_none w (sym e ∙ get-empty key_cmp q))

module _ (old : Content) (fine : IsStoreContent old) where
  pub fine_records : (records : Records) → AreStored records → is_broken old.info.indexes records ≡ false → IsStoreContent (record old { records = records })
  fine_records records all unique = record { info = fine.info; records = all; unique = unique }

  pub fine_insert : (k : KeyTree) (v : Tree) → IsStored k v → is_broken old.info.indexes (insert old.records k v) ≡ false → IsStoreContent (record old { records = insert old.records k v })
  fine_insert k v here unique = fine_records (insert old.records k v) (stored_insert old.records k v fine.records here) unique

  pub fine_index : (index : IndexInfo) → IsIndexInfo index → index_named old.info.indexes index.name ≡ None → broken_key index old.records ≡ None → IsStoreContent (record old { info = info_with_index old.info index })
  fine_index index fits new none = record {
    info = with_one_more old.info fine.info index fits new;
    records = fine.records;
    unique = fine_with old.info.indexes index old.records fine.unique none;
  }

  pub fine_no_index : (place : ℕ) → IsStoreContent (record old { info = info_without_index old.info place })
  fine_no_index place = record {
    info = with_one_less old.info fine.info place;
    records = fine.records;
    unique = fine_without old.info.indexes place old.records fine.unique;
  }
