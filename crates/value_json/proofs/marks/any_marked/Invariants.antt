use Rattle.std.proofs.Common.{◌≡◌}
use Rattle.serde_json.specs.View.{members_view}
use Rattle.value_json.specs.Marks.{any_marked}
use Rattle.value_json.proofs.marks.any_marked.Given as goal

abbrev pub invariant-loop-name : goal.invariant-loop-name
invariant-loop-name l = any_marked (members_view l.name-iterator) ≡ any_marked (members_view l.members.entries)
