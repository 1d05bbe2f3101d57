use Rattle.std.proofs.Common.{length}
use Rattle.key_paths.proofs.injection.+ends_at_holder.Given as goal

abbrev pub decreases-ends_at_holder : goal.decreases-ends_at_holder
decreases-ends_at_holder l = length l.s.now
