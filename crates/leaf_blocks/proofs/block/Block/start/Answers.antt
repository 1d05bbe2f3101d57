use Rattle.std.proofs.Common.{◌∙◌}
use Rattle.leaf_blocks.proofs.BlockLemmas.{block_before}
use Rattle.leaf_blocks.proofs.block.Block.start.Goals as goal

pub returns : goal.returns
returns g c = rw (← c.self.view_is) (c.start.ensures.value ∙ block_before _ _ _ c.self.invariant c.args.leaf)
