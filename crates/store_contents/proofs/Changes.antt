-- What putting a record in, replacing one and taking one out ask of the tables, and make of them.
--     put_fits, put_steps           the rows can be added, and keep the tables in step
--     replace_steps                 the same of rows that take the place of others
--     take_fits, take_steps         the same of rows that go
use Rattle.std.proofs.Common.{◌≡◌, ℕ, ◌+◌, ◌≤◌, List, length, sym, ap, subst, Some, None, arith}
use Rattle.std.proofs.lemmas.List.{length-map}
use Rattle.std.specs.FinMap as finite
use Rattle.clone_values.specs.Tree.{Tree}
use Rattle.clone_values.specs.KeyTree.{KeyTree}
use Rattle.idb_schema.specs.declared.definitions.IndexInfo.{IndexInfo}
use Rattle.index_tables.specs.Rows.{RowTree, IndexRows}
use Rattle.index_tables.specs.RecordRows.{Records, rows_of_record}
use Rattle.store_contents.specs.Contents.{rows_in_indexes, rows_among}
use Rattle.store_contents.specs.Matches.{InStep}
use Rattle.store_contents.specs.Walks.{AllChanged, Adds, Removes, Replaces, CanAdd, paired}
use Rattle.store_contents.proofs.Matching.{can_add, added_in_step, removed_in_step, replaced_in_step, counted_within}

module _ (is : List IndexInfo) (records : Records) (spare : ℕ) (os : List IndexRows) (k : KeyTree) (h : InStep is os records spare) where
  enough : (value : Tree) (rows : List (List RowTree)) → rows ≡ rows_in_indexes is k value → length os ≤ length rows
  enough value rows are = omega (arith, counted_within is os records spare h, ap length are, length-map {B = List RowTree} is (λ index. rows_of_record index k value))

  module _ (value : Tree) (rows : List (List RowTree)) (are : rows ≡ rows_in_indexes is k value) where
    pub put_fits : rows_among rows ≤ spare → AllChanged CanAdd rows os os
    put_fits room = subst (λ rs. AllChanged CanAdd rs os os) (sym are) (can_add k value records spare is os h (subst (λ rs. rows_among rs ≤ spare) are room))

    pub put_steps : finite.get records k ≡ None → (left : ℕ) → left + rows_among rows ≤ spare → (ns : List IndexRows) → AllChanged Adds rows os ns → InStep is ns (finite.insert records k value) left
    put_steps absent left room ns added =
        added_in_step records k value absent spare left is os ns h (subst (λ rs. left + rows_among rs ≤ spare) are room) (subst (λ rs. AllChanged Adds rs os ns) are added)

    pub take_fits : length os ≤ length rows
    take_fits = enough value rows are

    pub take_steps : finite.get records k ≡ Some value → (ns : List IndexRows) → AllChanged Removes rows os ns → InStep is ns (finite.remove records k) spare
    take_steps there ns gone = removed_in_step records k value there spare is os ns h (subst (λ rs. AllChanged Removes rs os ns) are gone)

    module _ (old : Tree) (old_rows : List (List RowTree)) (were : old_rows ≡ rows_in_indexes is k old) where
      pub replace_steps : finite.get records k ≡ Some old → (left : ℕ) → left + rows_among rows ≤ spare → (ns : List IndexRows) → AllChanged Replaces (paired old_rows rows) os ns → InStep is ns (finite.insert records k value) left
      replace_steps there left room ns put =
          replaced_in_step records k value old there spare left is os ns h (subst (λ rs. left + rows_among rs ≤ spare) are room)
          (subst (λ rs. AllChanged Replaces (paired (rows_in_indexes is k old) rs) os ns) are (subst (λ rs. AllChanged Replaces (paired rs rows) os ns) were put))
