use Rattle.std.proofs.Common.{arith, []}
use Rattle.std.proofs.lemmas.List.{get_or_read}
use Rattle.leaf_blocks.specs.Leaves.{leaf_at}
use Rattle.leaf_piles.proofs.ShelfLemmas.{shelf_size, leaf_part, take_keeps}
use Rattle.leaf_piles.proofs.shelf.Shelf.take.Goals as goal

pub lower-requires-clause-part : goal.lower-requires-clause-part
lower-requires-clause-part g c =
    let o = rw (← c.self.view_is) at c.requires.offset in
    omega (arith, o, shelf_size _ _ _ _ _ c.self.invariant c.args.seat.block, leaf_part (leaf_at c.self.inside.blocks.items c.args.seat.block) c.args.seat.leaf)

pub invariant_of-self : goal.invariant_of-self
invariant_of-self g c =
    let spot = rw (← c.self.view_is) at c.requires.spot in
    let o = rw (← c.self.view_is) at c.requires.offset in
    take_keeps _ _ _ _ _ _ c.self.invariant _ _ _ _ spot.block (get_or_read _ _ _ spot.block c.index_mut.ensures.value []) spot.leaf c.lower.ensures.room _ o c.take.ensures.left c.lower.ensures.sizes
