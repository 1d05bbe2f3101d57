use Rattle.std.proofs.Common.{[]}
use Rattle.std.proofs.lemmas.List.{get_or_read}
use Rattle.leaf_blocks.proofs.BlockLemmas.{value_keeps}
use Rattle.leaf_blocks.proofs.block.Block+tuple2+K+V.replace.Goals as goal

pub invariant_of-self : goal.invariant_of-self
invariant_of-self g c =
    let w = rw (← c.self.view_is) at c.requires.within in
    value_keeps _ _ _ c.self.invariant _ _ _ _ _ w (get_or_read _ _ _ w c.index_mut.ensures.value []) c.replace.ensures.left
