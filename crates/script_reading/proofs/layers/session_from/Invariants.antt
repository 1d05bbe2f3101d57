use Rattle.std.proofs.Common.{◌≡◌, None, false}
use Rattle.serde_json.specs.View.{members_view}
use Rattle.script_reading.specs.Layers.{session_from}
use Rattle.script_reading.proofs.layers.session_from.Given as goal

abbrev pub invariant-loop-name : goal.invariant-loop-name
invariant-loop-name l =
    session_from l.m (l.found, l.drop_end) (members_view l.name-iterator) ≡ session_from l.n (None, false) (members_view l.members.entries)
