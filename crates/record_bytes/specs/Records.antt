-- The grammar of records and batches.
--     recorded              the record of what a transaction did
--     IsRecord, AreRecords  a record that can be logged;  one or more of them
--     SpellsRecord          the grammar of records: these bytes, of such a record
--     SpellsBatch           the grammar of batches: these bytes, of one or more such records, with nothing behind them
use Rattle.std.specs.Prelude.{◌≡◌, ℕ, ◌<◌, ◌≤◌, ◌^◌, List, length}
use Rattle.std.specs.List.{AllByRecursion}
use Rattle.idb_base.specs.Lists.{IsWithinLimit}
use Rattle.idb_calls.specs.declared.traces.TxTrace.{TxTrace}
use Rattle.record_bytes.specs.declared.records.LogRecord.{LogRecord}
use Rattle.record_bytes.specs.Loggable.{IsLoggable}
use Rattle.record_bytes.specs.Spelling.{record_spelling, batch_spelling}

abbrev pub recorded : TxTrace → LogRecord
recorded trace = record { number = trace.number; deltas = trace.deltas }

pub record IsRecord (r : LogRecord) : Type 0 where
  pub number : r.number < 2 ^ 64
  pub count : IsWithinLimit r.deltas
  pub deltas : AllByRecursion IsLoggable r.deltas

pub record AreRecords (rs : List LogRecord) : Type 0 where
  pub some : 1 ≤ length rs
  pub count : IsWithinLimit rs
  pub records : AllByRecursion IsRecord rs

pub record SpellsRecord (word : List ℕ) (r : LogRecord) : Type 0 where
  pub spelled : word ≡ record_spelling r
  pub fits : IsRecord r

pub record SpellsBatch (word : List ℕ) (rs : List LogRecord) : Type 0 where
  pub spelled : word ≡ batch_spelling rs
  pub fits : AreRecords rs
