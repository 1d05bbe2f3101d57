-- What a store and its indexes answer (Indexed Database API 3.0, "object store", "index", "object store retrieval operations").
--     members_in            the key and the primary key of each record of a store, or of each row of an index
--     selected              those whose key is in a range;  asked: the range that a caller gives, or else that of all keys
--     limited               the first so many of a list; all of them where no number is given
--     primary_keys, values_in       the primary keys and the values of members
--     first_primary, first_value    of the first one
--     keys_seen, value_seen         two lent keys;  a lent value
use denote.Ref.{Bor}
use Rattle.std.specs.Prelude.{ℕ, ◌==◌, List, [], map, take, slice_get, if◌then◌else◌, Option, option_map, unwrap_or}
use Rattle.std.specs.Option.{option_and_then, option_copied}
use Rattle.std.specs.List.{filter, filter_map}
use Rattle.std.specs.FinMap.{get, entries}
use Rattle.clone_values.specs.Tree.{Tree}
use Rattle.clone_values.specs.KeyTree.{KeyTree}
use Rattle.clone_values.specs.View.{key_tree_of, tree_of}
use Rattle.clone_values.specs.declared.key_types.Key.{Key}
use Rattle.clone_values.specs.declared.value_types.Value.{Value}
use Rattle.idb_keys.specs.KeyRange.{Range, includes, every_key}
use Rattle.idb_keys.specs.declared.names.Over.{Over}
use Rattle.idb_keys.specs.declared.names.Over.TheVariants.{Store, Index}
use Rattle.idb_schema.specs.declared.definitions.IndexInfo.{IndexInfo}
use Rattle.index_tables.specs.RecordRows.{Records, index_rows}
use Rattle.index_tables.specs.Rows.{RowTree, rows_of}

-- a record's own key is both of its keys; an index that isn't there shows nothing
abbrev pub members_in : List IndexInfo → Records → Over → List RowTree
members_in indexes records Store = map (λ e. (e.0, e.0)) (entries records)
members_in indexes records (Index place) = unwrap_or (option_map (λ index. rows_of (index_rows index records)) (slice_get indexes place)) []

-- a range that is left out takes all
abbrev pub asked : Option (Bor Range) → Range
asked range = unwrap_or (option_copied range) every_key

-- the members whose key is in the range, in order
abbrev pub selected : Range → List RowTree → List RowTree
selected range members = filter (λ m. includes range m.0) members

-- 0 is no limit
abbrev pub limited : {A : Type 0} → ℕ → List A → List A
limited limit xs = if limit == 0 then xs else take limit xs

abbrev pub primary_keys : List RowTree → List KeyTree
primary_keys members = map (λ m. m.1) members

abbrev pub values_in : Records → List RowTree → List Tree
values_in records members = filter_map (λ m. get records m.1) members

abbrev pub first_primary : List RowTree → Option KeyTree
first_primary members = slice_get (primary_keys members) 0

abbrev pub first_value : Records → List RowTree → Option Tree
first_value records members = option_and_then (λ k. get records k) (first_primary members)

abbrev pub keys_seen : Bor Key × Bor Key → RowTree
keys_seen e = (key_tree_of e.0.now, key_tree_of e.1.now)

abbrev pub value_seen : Bor Value → Tree
value_seen value = tree_of value.now
