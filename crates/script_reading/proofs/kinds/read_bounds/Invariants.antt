use Rattle.std.proofs.Common.{◌≡◌}
use Rattle.serde_json.specs.View.{members_view}
use Rattle.script_reading.specs.Kinds.{range_members}
use Rattle.script_reading.proofs.kinds.read_bounds.Given as goal

abbrev pub invariant-loop-name : goal.invariant-loop-name
invariant-loop-name l = range_members l.range (members_view l.name-iterator) ≡ range_members l.fn.range (members_view l.members.entries)
