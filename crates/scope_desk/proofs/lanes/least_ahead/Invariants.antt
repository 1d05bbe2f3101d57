use Rattle.std.proofs.Common.{◌≡◌, drop}
use Rattle.scope_desk.specs.Lanes.{least_ahead}
use Rattle.scope_desk.proofs.lanes.least_ahead.Given as goal

abbrev pub invariant-loop-item : goal.invariant-loop-item
invariant-loop-item l = least_ahead l.lanes l.scope l.most ≡ least_ahead l.lanes (drop l.item-index l.scope) l.least
