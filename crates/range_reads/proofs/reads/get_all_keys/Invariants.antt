use Rattle.std.proofs.Common.{◌≡◌, ◌-◌, map, take, drop}
use Rattle.clone_values.specs.View.{key_tree_of}
use Rattle.indexed_records.specs.Reading.{primary_keys}
use Rattle.indexed_records.specs.Reading.{members_in}
use Rattle.range_reads.proofs.reads.get_all_keys.Given as goal

abbrev pub invariant-loop-place : goal.invariant-loop-place
invariant-loop-place g l = map key_tree_of l.keys.items ≡ primary_keys (take (l.place - l.start) (drop l.start (members_in l.records.info.indexes l.records.records l.over)))
