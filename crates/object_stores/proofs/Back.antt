-- What each change leaves can be undone.
--     added_back, added_can             a record that came
--     removed_back, removed_can         one that went
--     replaced_back, replaced_can       one that got another value
--     revalued_can                      one whose other value gives the same rows
use Rattle.std.specs.Prelude.{◌≡◌, List, Some, None}
use Rattle.std.proofs.Common.{refl, sym, ap, ◌∙◌}
use Rattle.std.specs.FinMap.{get, insert, remove}
use Rattle.clone_values.specs.Tree.{Tree}
use Rattle.clone_values.specs.KeyTree.{KeyTree}
use Rattle.idb_schema.specs.declared.definitions.StoreInfo.{StoreInfo}
use Rattle.index_tables.specs.Rows.{RowTree}
use Rattle.range_reads.specs.Contents.{rows_in_indexes}
use Rattle.store_contents.specs.Store.{Content}
use Rattle.object_stores.proofs.Logged.{out_again, in_again, over_back, gone, there}

module _ (old new : Content) (k : KeyTree) (v : Tree) (info : new.info ≡ old.info) where
  rows_now : (w : Tree) (rows : List (List RowTree)) → rows ≡ rows_in_indexes old.info.indexes k w → rows ≡ rows_in_indexes new.info.indexes k w
  rows_now w rows are = are ∙ ap (λ (i : StoreInfo). rows_in_indexes i.indexes k w) (sym info)

  module _ (records : new.records ≡ insert old.records k v) where
    pub added_back : (j : KeyTree) → j ≡ k → get old.records k ≡ None → record new { records = remove new.records j } ≡ old
    added_back j same absent = λ i. record { info = info i; records = (ap (λ m. remove m j) records ∙ ap (remove (insert old.records k v)) same ∙ out_again old.records k v absent) i }

    pub added_can : (j : KeyTree) → j ≡ k → (rows : List (List RowTree)) → rows ≡ rows_in_indexes old.info.indexes k v → (w : Tree) × (get new.records j ≡ Some w) × (rows ≡ rows_in_indexes new.info.indexes j w)
    added_can j same rows are = (
      v,
      ap (get new.records) same ∙ ap (λ m. get m k) records ∙ there old.records k v,
      rows_now v rows are ∙ ap (λ j. rows_in_indexes new.info.indexes j v) (sym same),
    )

    pub replaced_back : (w : Tree) → get old.records k ≡ Some w → (u : Tree) → u ≡ w → record new { records = insert new.records k u } ≡ old
    replaced_back w was u same = λ i. record { info = info i; records = (ap (λ m. insert m k u) records ∙ ap (insert (insert old.records k v) k) same ∙ over_back old.records k w v was) i }

    pub replaced_can : (w : Tree) (rows new_rows : List (List RowTree)) → rows ≡ rows_in_indexes old.info.indexes k w → new_rows ≡ rows_in_indexes old.info.indexes k v
        → (u : Tree) → u ≡ w → (x : Tree) × (get new.records k ≡ Some x) × (new_rows ≡ rows_in_indexes new.info.indexes k x) × (rows ≡ rows_in_indexes new.info.indexes k u)
    replaced_can w rows new_rows were are u same = (
      v,
      ap (λ m. get m k) records ∙ there old.records k v,
      rows_now v new_rows are,
      rows_now w rows were ∙ ap (rows_in_indexes new.info.indexes k) (sym same),
    )

    pub revalued_can : (w : Tree) → rows_in_indexes old.info.indexes k w ≡ rows_in_indexes old.info.indexes k v → (u : Tree) → u ≡ w
        → (x : Tree) × (get new.records k ≡ Some x) × (rows_in_indexes new.info.indexes k x ≡ rows_in_indexes new.info.indexes k u)
    revalued_can w same u is = (
      v,
      ap (λ m. get m k) records ∙ there old.records k v,
      sym (rows_now v (rows_in_indexes old.info.indexes k w) same) ∙ rows_now w (rows_in_indexes old.info.indexes k w) refl ∙ ap (rows_in_indexes new.info.indexes k) (sym is),
    )

  module _ (records : new.records ≡ remove old.records k) where
    pub removed_back : get old.records k ≡ Some v → record new { records = insert new.records k v } ≡ old
    removed_back was = λ i. record { info = info i; records = (ap (λ m. insert m k v) records ∙ in_again old.records k v was) i }

    pub removed_can : (rows : List (List RowTree)) → rows ≡ rows_in_indexes old.info.indexes k v → (get new.records k ≡ None) × (rows ≡ rows_in_indexes new.info.indexes k v)
    removed_can rows are = (ap (λ m. get m k) records ∙ gone old.records k v, rows_now v rows are)
