-- The rows of an index, computed from all records (Indexed Database API 3.0, "index", its list of records).
--     Records               values by key, in the order of keys
--     index_keys            the index keys that a value has in an index
--     is_one_of, gives_key  a key is one of a list;  a value, if there is one, has this index key
--     rows_of_record        the rows of one record
--     index_rows            the rows of all records, sorted by index key, then primary key
use Rattle.std.specs.Prelude.{Bool, false, List, [], ◌∷◌, map, Option, Some, None}
use Rattle.std.specs.List.{flat_map, list_any}
use Rattle.std.specs.Ordering.{is_eq}
use Rattle.std.specs.FinMap.{FinMap, entries}
use Rattle.clone_values.specs.Tree.{Tree}
use Rattle.clone_values.specs.KeyTree.{KeyTree}
use Rattle.idb_keys.specs.KeyOrder.{key_cmp}
use Rattle.key_paths.specs.Evaluation.{Extract, one, many, invalid, failure, extracted}
use Rattle.idb_schema.specs.declared.definitions.IndexInfo.{IndexInfo}
use Rattle.index_tables.specs.Rows.{RowTree, RowSet, no_rows, with_rows}

abbrev pub Records : Type 0
Records = FinMap key_cmp Tree

-- a value whose extraction fails or is invalid has none
abbrev pub extracted_keys : Extract → List KeyTree
extracted_keys (one k) = k ∷ []
extracted_keys (many ks) = ks
extracted_keys invalid = []
extracted_keys failure = []

-- the key or keys that the index's path gives on the value
abbrev pub index_keys : IndexInfo → Tree → List KeyTree
index_keys index value = extracted_keys (extracted index.path index.multi value)

-- the key is one of the list
abbrev pub is_one_of : List KeyTree → KeyTree → Bool
is_one_of ks k = list_any (λ j. is_eq (key_cmp k j)) ks

-- the value, if there is one, has this index key
abbrev pub gives_key : IndexInfo → KeyTree → Option Tree → Bool
gives_key index k None = false
gives_key index k (Some value) = is_one_of (index_keys index value) k

-- each index key of the record's value, with the record's own key
abbrev pub rows_of_record : IndexInfo → KeyTree → Tree → List RowTree
rows_of_record index primary value = map (λ k. (k, primary)) (index_keys index value)

-- the rows of all records
abbrev pub index_rows : IndexInfo → Records → RowSet
index_rows index records = with_rows no_rows (flat_map (λ e. rows_of_record index e.0 e.1) (entries records))
