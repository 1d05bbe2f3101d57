use Rattle.std.proofs.Common.{◌≡◌}
use Rattle.std.specs.FinMap as finite
use Rattle.session_databases.specs.Sessions.{all_inserted}
use Rattle.session_databases.proofs.opening.hold_all.Given as goal

abbrev pub invariant-loop-store : goal.invariant-loop-store
invariant-loop-store g l = l.held ≡ all_inserted l.yielded finite.empty
