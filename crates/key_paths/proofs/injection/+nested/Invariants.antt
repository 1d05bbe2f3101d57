use Rattle.std.proofs.Common.{length}
use Rattle.key_paths.proofs.injection.+nested.Given as goal

abbrev pub decreases-nested : goal.decreases-nested
decreases-nested l = length l.s.now
