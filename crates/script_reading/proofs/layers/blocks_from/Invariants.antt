use Rattle.std.proofs.Common.{◌≡◌, []}
use Rattle.serde_json.specs.View.{members_view}
use Rattle.script_reading.specs.BlockPlaces.{places_seen}
use Rattle.script_reading.specs.Layers.{blocks_from}
use Rattle.script_reading.proofs.layers.blocks_from.Given as goal

abbrev pub invariant-loop-name : goal.invariant-loop-name
invariant-loop-name l =
    blocks_from (places_seen l.blocks) l.m l.found (members_view l.name-iterator) ≡ blocks_from (places_seen l.blocks) l.n [] (members_view l.members.entries)
