use Rattle.std.proofs.Common.{◌≡◌}
use Rattle.serde_json.specs.View.{members_view}
use Rattle.script_reading.specs.BlockPlaces.{places_seen}
use Rattle.script_reading.specs.Layers.{fields_from}
use Rattle.script_reading.proofs.layers.fields_from.Given as goal

abbrev pub invariant-loop-name : goal.invariant-loop-name
invariant-loop-name l =
    fields_from l.op (places_seen l.blocks) l.m l.fields (members_view l.name-iterator) ≡ fields_from l.op (places_seen l.blocks) l.n l.fn.fields (members_view l.members.entries)
