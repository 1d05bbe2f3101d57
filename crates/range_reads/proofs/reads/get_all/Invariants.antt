use Rattle.std.proofs.Common.{◌≡◌, ◌-◌, map, take, drop}
use Rattle.clone_values.specs.View.{tree_of}
use Rattle.indexed_records.specs.Reading.{values_in}
use Rattle.indexed_records.specs.Reading.{members_in}
use Rattle.range_reads.proofs.reads.get_all.Given as goal

abbrev pub invariant-loop-place : goal.invariant-loop-place
invariant-loop-place g l = map tree_of l.items.items ≡ values_in l.records.records (take (l.place - l.start) (drop l.start (members_in l.records.info.indexes l.records.records l.over)))
