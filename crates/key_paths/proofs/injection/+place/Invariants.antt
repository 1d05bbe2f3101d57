use Rattle.std.proofs.Common.{◌+◌, ◌*◌, length}
use Rattle.key_paths.proofs.injection.+place.Given as goal

abbrev pub decreases-place : goal.decreases-place
decreases-place l = 2 * length l.s.now + 1

abbrev pub decreases-place_in : goal.decreases-place_in
decreases-place_in l = 2 * length l.s.now
