use Rattle.std.proofs.Common.{◌≡◌, drop, []}
use Rattle.serde_json.specs.View.{items_view}
use Rattle.script_reading.specs.BlockPlaces.{places_seen}
use Rattle.script_reading.specs.Layers.{stmts_from}
use Rattle.script_reading.proofs.layers.stmts_from.Given as goal

abbrev pub invariant-loop-json : goal.invariant-loop-json
invariant-loop-json l =
    stmts_from (places_seen l.blocks) l.m l.stmts (items_view (drop l.json-index l.json-items)) ≡ stmts_from (places_seen l.blocks) l.n [] (items_view l.json-items)
