-- What undoes a change, and what an undoing needs.
--     undone                the content of a store as it was before a change
--     past_of               the content before each of these changes, the oldest first
--     IsUndoable, CanUndo   what a change left is there;  each change can be undone, from the newest on
--     needed_records, needed_rows       the spare places that the undoing needs
--     HasSpare, AreRoomy    the tables have these, those of the changes included
use Rattle.std.specs.Prelude.{◌≡◌, ℕ, ◌+◌, ◌<◌, ◌≤◌, List, [], ◌∷◌, ◌++◌, length, Some, None, ⊤}
use Rattle.std.specs.FinMap as finite
use Rattle.clone_values.specs.Tree.{Tree}
use Rattle.clone_values.specs.View.{key_tree_of, tree_of}
use Rattle.index_tables.specs.RecordRows.{index_rows}
use Rattle.range_reads.specs.Contents.{rows_in_indexes, rows_among, row_sets, info_without_last, info_with_index_at}
use Rattle.store_contents.specs.Store.{Content}
use Rattle.store_contents.specs.IsStore.{IsStoreContent}
use Rattle.object_stores.specs.declared.changes.Change.{Change}
use Rattle.object_stores.specs.declared.changes.Change.TheVariants as change

-- the content as it was before the change
abbrev pub undone : {T R W : Type 0} → Change T R W → Content → Content
undone (change.Added key rows) content = record content { records = finite.remove content.records (key_tree_of key) }
undone (change.Removed key value rows) content = record content { records = finite.insert content.records (key_tree_of key) (tree_of value) }
undone (change.Replaced key value rows new_rows) content = record content { records = finite.insert content.records (key_tree_of key) (tree_of value) }
undone (change.Revalued key value) content = record content { records = finite.insert content.records (key_tree_of key) (tree_of value) }
undone (change.Cleared emptied removed rows) content = record content { records = emptied.records }
undone change.IndexAdded content = record content { info = info_without_last content.info }
undone (change.IndexDropped dropped) content = record content { info = info_with_index_at content.info dropped.place dropped.index }

-- the changes are given from the newest on
abbrev pub past_of : {T R W : Type 0} → List (Change T R W) → Content → List Content
past_of [] content = []
past_of (c ∷ log) content = past_of log (undone c content) ++ undone c content ∷ []

-- what the change left is there, and what it kept fits
abbrev pub IsUndoable : {T R W : Type 0} → Change T R W → Content → Type 0
IsUndoable (change.Added key rows) content = (value : Tree) × (finite.get content.records (key_tree_of key) ≡ Some value) × (rows ≡ rows_in_indexes content.info.indexes (key_tree_of key) value)
IsUndoable (change.Removed key value rows) content = (finite.get content.records (key_tree_of key) ≡ None) × (rows ≡ rows_in_indexes content.info.indexes (key_tree_of key) (tree_of value))
IsUndoable (change.Replaced key value rows new_rows) content = (new : Tree) × (finite.get content.records (key_tree_of key) ≡ Some new) × (new_rows ≡ rows_in_indexes content.info.indexes (key_tree_of key) new) × (rows ≡ rows_in_indexes content.info.indexes (key_tree_of key) (tree_of value))
IsUndoable (change.Revalued key value) content = (new : Tree) × (finite.get content.records (key_tree_of key) ≡ Some new) × (rows_in_indexes content.info.indexes (key_tree_of key) new ≡ rows_in_indexes content.info.indexes (key_tree_of key) (tree_of value))
IsUndoable (change.Cleared emptied removed rows) content = emptied.rows ≡ row_sets content.info.indexes emptied.records
IsUndoable change.IndexAdded content = 0 < length content.info.indexes
IsUndoable (change.IndexDropped dropped) content = (dropped.place ≤ length content.info.indexes) × (dropped.rows ≡ index_rows dropped.index content.records) × (length content.info.indexes < dropped.width)

-- the content and each one before it are as they should be, and each change can be undone in its place
abbrev pub CanUndo : {T R W : Type 0} → List (Change T R W) → Content → Type 0
CanUndo [] content = IsStoreContent content
CanUndo (c ∷ log) content = IsStoreContent content × IsUndoable c content × CanUndo log (undone c content)

-- how many records come back into the table as it is now
abbrev pub needed_records : {T R W : Type 0} → List (Change T R W) → ℕ
needed_records [] = 0
needed_records (change.Removed key value rows ∷ log) = 1 + needed_records log
needed_records (change.Cleared emptied removed rows ∷ log) = 0
needed_records (c ∷ log) = needed_records log

-- and how many rows
abbrev pub needed_rows : {T R W : Type 0} → List (Change T R W) → ℕ
needed_rows [] = 0
needed_rows (change.Removed key value rows ∷ log) = rows_among rows + needed_rows log
needed_rows (change.Replaced key value rows new_rows ∷ log) = rows_among rows + needed_rows log
needed_rows (change.Cleared emptied removed rows ∷ log) = 0
needed_rows (c ∷ log) = needed_rows log

-- the tables have the spare places that these changes need
abbrev pub HasSpare : {T R W : Type 0} → List (Change T R W) → ℕ → ℕ → Type 0
HasSpare log record_spare row_spare = (needed_records log ≤ record_spare) × (needed_rows log ≤ row_spare)

-- and the tables that are kept with the changes have those that the older ones need
abbrev pub AreRoomy : {T R W : Type 0} → List (Change T R W) → Type 0
AreRoomy [] = ⊤
AreRoomy (change.Cleared emptied removed rows ∷ log) = (removed ≡ needed_records log) × (rows ≡ needed_rows log) × HasSpare log emptied.record_spare emptied.row_spare × AreRoomy log
AreRoomy (change.IndexDropped dropped ∷ log) = (needed_rows log ≤ dropped.spare) × AreRoomy log
AreRoomy (c ∷ log) = AreRoomy log
