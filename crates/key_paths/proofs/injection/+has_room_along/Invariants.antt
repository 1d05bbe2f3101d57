use Rattle.std.proofs.Common.{length}
use Rattle.key_paths.proofs.injection.+has_room_along.Given as goal

abbrev pub decreases-has_room_along : goal.decreases-has_room_along
decreases-has_room_along l = length l.s.now
