use Rattle.std.proofs.Common.{◌≡◌}
use Rattle.std.specs.FinMap as finite
use Rattle.record_changes.specs.Loosened.{meant}
use Rattle.record_changes.proofs.restoring.restore.Given as goal

-- what the databases are meant to be stays
abbrev pub invariant-loop-alloc : goal.invariant-loop-alloc
invariant-loop-alloc g l = meant l.items l.aside ≡ meant l.initial.items l.initial.aside

abbrev pub decreases-loop-alloc : goal.decreases-loop-alloc
decreases-loop-alloc g l = finite.len l.aside
