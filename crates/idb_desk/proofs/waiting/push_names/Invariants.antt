use Rattle.std.proofs.Common.{◌≡◌, ◌++◌, drop}
use Rattle.std.specs.List.{flat_map}
use Rattle.desk_steps.specs.Waiting.{pending_of_name}
use Rattle.idb_desk.proofs.waiting.push_names.Given as goal

abbrev pub invariant-loop-n : goal.invariant-loop-n
invariant-loop-n l = l.lines.items ++ flat_map pending_of_name (drop l.n-index l.names) ≡ l.fn.lines.items ++ flat_map pending_of_name l.names
