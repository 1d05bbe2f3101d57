use Rattle.std.proofs.Common.{◌≡◌, ◌-◌, ◌+◌, ◌*◌, [], ◌++◌, length, map, take, drop}
use Rattle.std.specs.List.{zip, fold}
use Rattle.clone_values.specs.View.{tree_of, prop_of}
use Rattle.clone_values.specs.Sameness.{put_once}
use Rattle.script_values.specs.Evaluating.{entries_put, parts_in}
use Rattle.script_values.proofs.forming.first_of.Given as goal

abbrev pub invariant-loop-place : goal.invariant-loop-place
invariant-loop-place l = l.items ++ take (l.count - l.place) (drop l.place l.parts) ≡ take l.count l.parts
