use Rattle.std.proofs.Common.{[]}
use Rattle.std.proofs.lemmas.List.{get_or_read}
use Rattle.leaf_blocks.proofs.BlockLemmas.{take_keeps}
use Rattle.leaf_blocks.proofs.block.Block.take.Goals as goal

pub invariant_of-self : goal.invariant_of-self
invariant_of-self g c =
    let w = rw (← c.self.view_is) at c.requires.within in
    let o = rw (← c.self.view_is) at c.requires.offset in
    take_keeps _ _ _ _ c.self.invariant _ _ _ _ w o (get_or_read _ _ _ w c.index_mut.ensures.value []) c.remove.ensures.left c.lower.ensures.sizes c.lower.ensures.room
