use Rattle.std.proofs.Common.{◌≡◌, drop, []}
use Rattle.serde_json.specs.View.{items_view}
use Rattle.script_reading.specs.Layers.{clients_from}
use Rattle.script_reading.proofs.layers.clients_from.Given as goal

abbrev pub invariant-loop-json : goal.invariant-loop-json
invariant-loop-json l = clients_from l.m l.clients (items_view (drop l.json-index l.json-items)) ≡ clients_from l.n [] (items_view l.json-items)
