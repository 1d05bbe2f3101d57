use Rattle.std.proofs.Common.{◌≡◌, None}
use Rattle.serde_json.specs.View.{members_view}
use Rattle.script_reading.specs.Layers.{client_from}
use Rattle.script_reading.proofs.layers.client_from.Given as goal

abbrev pub invariant-loop-name : goal.invariant-loop-name
invariant-loop-name l = client_from l.m l.found (members_view l.name-iterator) ≡ client_from l.n None (members_view l.members.entries)
