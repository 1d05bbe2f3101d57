use Rattle.std.proofs.Common.{◌≡◌, None}
use Rattle.serde_json.specs.View.{members_view}
use Rattle.script_reading.specs.Layers.{script_from}
use Rattle.script_reading.proofs.layers.script_from.Given as goal

abbrev pub invariant-loop-name : goal.invariant-loop-name
invariant-loop-name l = script_from l.m l.found (members_view l.name-iterator) ≡ script_from l.n None (members_view l.members.entries)
