use Rattle.std.proofs.Common.{arith}
use Rattle.leaf_piles.proofs.ShelfLemmas.{out_keeps}
use Rattle.leaf_piles.proofs.shelf.Shelf.leave_out.Goals as goal

pub invariant_of-self : goal.invariant_of-self
invariant_of-self g c =
    let w = rw (← c.self.view_is) at c.requires.within in
    out_keeps _ _ _ _ _ _ c.self.invariant _ _ _ _ _ w c.remove-empty.ensures.items c.remove.ensures.sizes c.remove.ensures.room c.keep_block.ensures.len (omega arith) c.keep_block.ensures.capacity
