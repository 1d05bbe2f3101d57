use Rattle.std.proofs.Common.{◌≡◌}
use Rattle.std.specs.List.{AllByRecursion}
use Rattle.record_bytes.specs.Records.{IsRecord}
use Rattle.log_history.specs.Replayed.{after_records}
use Rattle.log_replay.proofs.records.change_by_records.Given as goal

-- what is left, on what was made so far, is all, on what was there
abbrev pub invariant-loop-logged : goal.invariant-loop-logged
invariant-loop-logged g l = record {
  whole : after_records l.items l.logged-iterator.rest.items ≡ after_records l.initial.items l.fn.records;
  fit : AllByRecursion IsRecord l.logged-iterator.rest.items;
}
