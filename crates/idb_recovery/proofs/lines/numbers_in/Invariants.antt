use Rattle.std.proofs.Common.{◌≡◌, ◌++◌, drop, map}
use Rattle.idb_recovery.specs.Lines.{tx_number_of}
use Rattle.idb_recovery.proofs.lines.numbers_in.Given as goal

abbrev pub invariant-loop-record : goal.invariant-loop-record
invariant-loop-record l = l.numbers.items ++ map tx_number_of (drop l.record-index l.records) ≡ map tx_number_of l.records
