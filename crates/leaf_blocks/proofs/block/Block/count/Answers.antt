use Rattle.std.proofs.Common.{◌∙◌}
use Rattle.leaf_blocks.proofs.BlockLemmas.{block_sum}
use Rattle.leaf_blocks.proofs.block.Block.count.Goals as goal

pub returns : goal.returns
returns g c = rw (← c.self.view_is) (c.total.ensures ∙ block_sum _ _ _ c.self.invariant)
