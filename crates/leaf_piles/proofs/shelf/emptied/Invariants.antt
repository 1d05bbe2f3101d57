use Rattle.std.proofs.Common.{length}
use Rattle.leaf_piles.proofs.shelf.emptied.Given as goal

abbrev pub decreases-loop-block : goal.decreases-loop-block
decreases-loop-block g l = length l.block
