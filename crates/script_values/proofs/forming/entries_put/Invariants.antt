use Rattle.std.proofs.Common.{◌≡◌, ◌-◌, ◌+◌, ◌*◌, [], ◌++◌, length, map, take, drop}
use Rattle.std.specs.List.{zip, fold}
use Rattle.clone_values.specs.View.{tree_of, prop_of}
use Rattle.clone_values.specs.Sameness.{put_once}
use Rattle.script_values.specs.Evaluating.{entries_put, parts_in}
use Rattle.script_values.proofs.forming.entries_put.Given as goal

abbrev pub invariant-loop-entry : goal.invariant-loop-entry
invariant-loop-entry l = entries_put l.entries (drop (2 * l.entry) l.parts) ≡ entries_put [] l.parts
