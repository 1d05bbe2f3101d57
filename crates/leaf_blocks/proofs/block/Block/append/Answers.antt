use Rattle.std.proofs.Common.{arith, []}
use Rattle.std.proofs.lemmas.List.{get_or_read}
use Rattle.leaf_blocks.proofs.BlockLemmas.{block_sum, append_keeps}
use Rattle.leaf_blocks.proofs.block.Block.append.Goals as goal

pub raise-requires-clause-small : goal.raise-requires-clause-small
raise-requires-clause-small g c =
    let small = rw (← c.self.view_is) at c.requires.small in
    omega (arith, small, block_sum _ _ _ c.self.invariant, c.requires.room)

pub invariant_of-self : goal.invariant_of-self
invariant_of-self g c =
    let w = rw (← c.self.view_is) at c.requires.within in
    append_keeps _ _ _ _ c.self.invariant _ _ _ _ _ w (get_or_read _ _ _ w c.index_mut.ensures.value []) c.append.ensures.items c.len.ensures.value c.raise.ensures.sizes c.raise.ensures.room
