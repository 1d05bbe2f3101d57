-- All but the last.
--     front_of               the records before the last one
use Rattle.std.specs.Prelude.{◌-◌, List, length, take}
use Rattle.record_bytes.specs.declared.records.LogRecord.{LogRecord}

abbrev pub front_of : List LogRecord → List LogRecord
front_of records = take (length records - 1) records
