-- What the batches of a log give.
--     keeps_unique, are_unbroken    no unique index of a store has two rows of one key;  none in any database
--     is_at_rest            no unique index is broken, and the limits on databases and stores are kept
--     record_applies        each change of a record finds what it names, where it stands, and at its end all is at rest
--     after_record, after_records   the items after a record, and after records in their order; none where one doesn't apply
--     after_payload         the items after a batch; none where the bytes are no batch, or one of its records doesn't apply
--     replayed_on           the items after batches in their order, or the place of the first that gives none
--     replayed              from no databases on
--     records_of_payload, records_in_log    the records of a batch, and those of batches, in their order
use Rattle.std.specs.Prelude.{ℕ, ◌+◌, Bool, not, ◌&&◌, List, [], ◌∷◌, ◌++◌, Option, Some, None, Result, Ok, Err, if◌then◌else◌, unwrap_or}
use Rattle.std.specs.List.{list_all}
use Rattle.std.specs.FinMap as finite
use Rattle.value_bytes.specs.Steps.{◌>>=◌}
use Rattle.index_tables.specs.Unique.{is_broken}
use Rattle.object_stores.specs.Store.{Store}
use Rattle.item_changes.specs.Items.{Database, Items}
use Rattle.item_changes.specs.Effects.{applied_all, all_apply}
use Rattle.idb_databases.specs.Items.{is_within_limits}
use Rattle.gate_areas.specs.Sealed.{BatchList}
use Rattle.record_bytes.specs.declared.records.LogRecord.{LogRecord}
use Rattle.record_bytes.specs.Reading.{records_in_batch}

abbrev pub keeps_unique : Store → Bool
keeps_unique store = not (is_broken store.info.indexes store.records)

abbrev pub stores_keep_unique : Database → Bool
stores_keep_unique d = list_all keeps_unique (finite.values d.stores)

abbrev pub are_unbroken : Items → Bool
are_unbroken items = list_all stores_keep_unique (finite.values items)

abbrev pub is_at_rest : Items → Bool
is_at_rest items = are_unbroken items && is_within_limits items

-- within a record an index may be broken, and the limits passed
abbrev pub record_applies : Items → LogRecord → Bool
record_applies items r = all_apply items r.deltas && is_at_rest (applied_all items r.deltas)

abbrev pub after_record : Items → LogRecord → Option Items
after_record items r = if record_applies items r then Some (applied_all items r.deltas) else None

-- from the left
abbrev pub after_records : Items → List LogRecord → Option Items
after_records items [] = Some items
after_records items (r ∷ rs) = after_record items r >>= λ more. after_records more rs

abbrev pub after_payload : Items → List ℕ → Option Items
after_payload items bytes = records_in_batch bytes >>= λ rs. after_records items rs

-- the items, or the place of a batch that gives none: that of its payload, nine bytes behind its gate
abbrev pub or_fault : ℕ → Option Items → Result Items ℕ
or_fault gate (Some items) = Ok items
or_fault gate None = Err (gate + 9)

-- from the left; behind the first fault nothing counts
abbrev pub replayed_on : Result Items ℕ → BatchList → Result Items ℕ
replayed_on (Err place) batches = Err place
replayed_on (Ok items) [] = Ok items
replayed_on (Ok items) (batch ∷ batches) = replayed_on (or_fault batch.0 (after_payload items batch.1)) batches

abbrev pub replayed : BatchList → Result Items ℕ
replayed batches = replayed_on (Ok finite.empty) batches

-- none where the bytes are no batch
abbrev pub records_of_payload : List ℕ → List LogRecord
records_of_payload bytes = unwrap_or (records_in_batch bytes) []

abbrev pub records_in_log : BatchList → List LogRecord
records_in_log [] = []
records_in_log (batch ∷ batches) = records_of_payload batch.1 ++ records_in_log batches
