-- Records and the rows of their indexes, and how many more of each can be added without memory.
--     Indexed               the definition of a store, its records, and the spare places of its tables
--     rows_in_indexes       the rows of one record, index by index;  rows_among: how many these are
--     row_sets              the rows of all records, index by index
--     IsRecordAt            at a place stands the record of a key;  IsGapOf: no record has the key, which would stand there
--     info_with_index, info_without_last, info_without_index, info_with_index_at        definitions with an index more or less
--     records_code          how records are stored
use Rattle.std.specs.Prelude.{◌≡◌, ℕ, ◌+◌, ◌-◌, List, [], ◌∷◌, ◌++◌, length, map, take, slice_get, Some, None}
use Rattle.std.specs.List.{insert, remove}
use Rattle.std.specs.FinMap as finite
use Rattle.std.specs.Coded.{Coded}
use Rattle.clone_values.specs.Tree.{Tree, tree_code}
use Rattle.clone_values.specs.KeyTree.{KeyTree, key_code}
use Rattle.key_order.specs.KeyOrder.{key_cmp}
use Rattle.idb_schema.specs.declared.definitions.IndexInfo.{IndexInfo}
use Rattle.idb_schema.specs.declared.definitions.StoreInfo.{StoreInfo}
use Rattle.sorted_table.specs.Tables.{BelongsAt}
use Rattle.index_tables.specs.Rows.{RowTree, RowSet}
use Rattle.index_tables.specs.RecordRows.{Records, rows_of_record, index_rows}

-- records are stored as the list of their keys and values
abbrev pub records_code : Coded Records
records_code = finite.code key_code tree_code

-- what is kept, the spare places of the table of records, and how many rows more fit into the table of each index
pub record Indexed : Type 0 where
  pub info : StoreInfo
  pub records : Records
  pub record_spare : ℕ
  pub row_spare : ℕ

-- for each index the rows of the record
abbrev pub rows_in_indexes : List IndexInfo → KeyTree → Tree → List (List RowTree)
rows_in_indexes indexes primary value = map (λ index. rows_of_record index primary value) indexes

-- how many rows of all indexes together
abbrev pub rows_among : List (List RowTree) → ℕ
rows_among [] = 0
rows_among (rows ∷ more) = length rows + rows_among more

-- for each index its rows
abbrev pub row_sets : List IndexInfo → Records → List RowSet
row_sets indexes records = map (λ index. index_rows index records) indexes

-- at this place, counted from 0, stands the record of this key and value
pub record IsRecordAt (records : Records) (place : ℕ) (key : KeyTree) (value : Tree) : Type 0 where
  pub stands : slice_get (finite.entries records) place ≡ Some (key, value)
  pub found : finite.get records key ≡ Some value

-- no record has this key, and at this place it would stand
pub record IsGapOf (records : Records) (place : ℕ) (key : KeyTree) : Type 0 where
  pub belongs : BelongsAt key_cmp (finite.entries records) place key
  pub absent : finite.get records key ≡ None

-- the definition with one index more, made last
abbrev pub info_with_index : StoreInfo → IndexInfo → StoreInfo
info_with_index info index = record info { indexes = info.indexes ++ index ∷ [] }

-- the definition without its last index
abbrev pub info_without_last : StoreInfo → StoreInfo
info_without_last info = record info { indexes = take (length info.indexes - 1) info.indexes }

-- the definition without the index at this place
abbrev pub info_without_index : StoreInfo → ℕ → StoreInfo
info_without_index info place = record info { indexes = remove info.indexes place }

-- the definition with an index at this place
abbrev pub info_with_index_at : StoreInfo → ℕ → IndexInfo → StoreInfo
info_with_index_at info place index = record info { indexes = insert info.indexes place index }
