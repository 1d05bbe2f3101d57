use Rattle.std.proofs.Common.{arith}
use Rattle.leaf_blocks.proofs.BlockLemmas.{block_sum}
use Rattle.leaf_blocks.proofs.block.Block.push.Goals as goal

pub push-requires-clause-small : goal.push-requires-clause-small
push-requires-clause-small g c =
    let small = rw (← c.self.view_is) at c.requires.small in
    omega (arith, small, block_sum _ _ _ c.self.invariant)
