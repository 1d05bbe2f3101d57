use Rattle.std.proofs.Common.{◌≡◌}
use Rattle.serde_json.specs.View.{members_view}
use Rattle.script_reading.specs.BlockPlaces.{places_from, no_places, places_seen}
use Rattle.script_reading.proofs.block_places.places_of.Given as goal

abbrev pub invariant-loop-name : goal.invariant-loop-name
invariant-loop-name l =
    places_from l.place (places_seen l.places) (members_view l.name-iterator) ≡ places_from 0 no_places (members_view l.members.entries)
