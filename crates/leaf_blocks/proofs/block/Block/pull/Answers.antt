use Rattle.std.proofs.Common.{arith}
use Rattle.leaf_blocks.proofs.BlockLemmas.{pull_keeps}
use Rattle.leaf_blocks.proofs.block.Block.pull.Goals as goal

pub invariant_of-self : goal.invariant_of-self
invariant_of-self g c =
    let w = rw (← c.self.view_is) at c.requires in
    pull_keeps _ _ _ _ c.self.invariant _ _ _ _ _ w c.remove-2.ensures.items c.lower.ensures.sizes c.remove.ensures.sizes (omega arith) (omega arith)
