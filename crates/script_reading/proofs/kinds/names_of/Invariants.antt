use Rattle.std.proofs.Common.{◌≡◌, drop, []}
use Rattle.serde_json.specs.View.{items_view}
use Rattle.script_reading.specs.Kinds.{names_behind}
use Rattle.script_reading.proofs.kinds.names_of.Given as goal

abbrev pub invariant-loop-name : goal.invariant-loop-name
invariant-loop-name l = names_behind l.names.items (items_view (drop l.name-index l.name-items)) ≡ names_behind [] (items_view l.name-items)
