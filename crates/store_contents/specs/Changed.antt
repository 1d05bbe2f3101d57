-- What the changes of a store make of it (Indexed Database API 3.0, "object store operations").
--     store_with_record, store_without_record       a record comes, in place of one of its key;  the record of a key goes
--     without_records       the records of these keys go, one by one
--     without_range         those whose key is in a range go ("delete records from an object store")
--     cleared               all go ("clear an object store")
--     with_current          the generator has another current number
--     store_with_index, store_without_index         an index comes, the last one;  the index at a place goes
use Rattle.std.specs.Prelude.{ℕ, not, List, [], ◌∷◌}
use Rattle.std.specs.FinMap as finite
use Rattle.clone_values.specs.Tree.{Tree}
use Rattle.clone_values.specs.KeyTree.{KeyTree}
use Rattle.idb_keys.specs.KeyRange.{Range, includes}
use Rattle.idb_schema.specs.declared.definitions.IndexInfo.{IndexInfo}
use Rattle.index_tables.specs.RecordRows.{Records}
use Rattle.store_contents.specs.Contents.{info_with_index, info_without_index}
use Rattle.store_contents.specs.Store.{Store}

abbrev pub store_with_record : Store → KeyTree → Tree → Store
store_with_record store key value = record store { records = finite.insert store.records key value }

abbrev pub store_without_record : Store → KeyTree → Store
store_without_record store key = record store { records = finite.remove store.records key }

-- from the left
abbrev pub without_records : Store → List KeyTree → Store
without_records store [] = store
without_records store (key ∷ keys) = without_records (store_without_record store key) keys

-- the records whose key is not in the range
abbrev pub outside_range : Records → Range → Records
outside_range records range = finite.retain_keys records (λ key. not (includes range key))

abbrev pub without_range : Store → Range → Store
without_range store range = record store { records = outside_range store.records range }

abbrev pub cleared : Store → Store
cleared store = record store { records = finite.empty }

abbrev pub with_current : Store → ℕ → Store
with_current store current = record store { current = current }

abbrev pub store_with_index : Store → IndexInfo → Store
store_with_index store index = record store { info = info_with_index store.info index }

abbrev pub store_without_index : Store → ℕ → Store
store_without_index store place = record store { info = info_without_index store.info place }
