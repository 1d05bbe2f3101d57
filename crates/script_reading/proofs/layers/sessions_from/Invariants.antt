use Rattle.std.proofs.Common.{◌≡◌, drop, []}
use Rattle.serde_json.specs.View.{items_view}
use Rattle.script_reading.specs.Layers.{sessions_from}
use Rattle.script_reading.proofs.layers.sessions_from.Given as goal

abbrev pub invariant-loop-json : goal.invariant-loop-json
invariant-loop-json l = sessions_from l.m l.sessions (items_view (drop l.json-index l.json-items)) ≡ sessions_from l.n [] (items_view l.json-items)
