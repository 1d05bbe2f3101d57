use Rattle.std.proofs.Common.{arith, ◌∙◌}
use Rattle.leaf_blocks.proofs.LeavesLemmas.{split_content}
use Rattle.leaf_blocks.proofs.BlockLemmas.{split_keeps}
use Rattle.leaf_blocks.proofs.block.Block.split.Goals as goal

pub invariant_of-self : goal.invariant_of-self
invariant_of-self g c =
    let w = rw (← c.self.view_is) at c.requires.within in
    let full = rw (← c.self.view_is) at c.requires.full in
    let room = rw (← c.self.view_is) at c.requires.room in
    split_keeps _ _ _ _ c.self.invariant _ _ _ w full room
    (c.put_leaf.ensures.items ∙ split_content 32 c.self.inside.leaves.items c.args.leaf _ _ _ w c.index_mut.ensures.value c.split.ensures.lower c.split.ensures.upper)
    c.split-2.ensures.sizes c.split-2.ensures.room (omega arith)

pub returns : goal.returns
returns g c =
    let w = rw (← c.self.view_is) at c.requires.within in
    rw (← c.self.view_is) (c.put_leaf.ensures.items ∙ split_content 32 c.self.inside.leaves.items c.args.leaf _ _ _ w c.index_mut.ensures.value c.split.ensures.lower c.split.ensures.upper)
