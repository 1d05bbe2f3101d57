use Rattle.std.proofs.Common.{arith, ap, []}
use Rattle.std.proofs.lemmas.List.{get_or_read}
use Rattle.leaf_blocks.specs.Leaves.{items_in}
use Rattle.leaf_piles.proofs.ShelfLemmas.{shelf_sum, block_part, append_keeps}
use Rattle.leaf_piles.proofs.shelf.Shelf.append.Goals as goal

pub raise-requires-clause-small : goal.raise-requires-clause-small
raise-requires-clause-small g c =
    let small = rw (← c.self.view_is) at c.requires.small in
    omega (arith, small, shelf_sum _ _ _ _ _ c.self.invariant, c.requires.room)

pub append-requires-clause-small : goal.append-requires-clause-small
append-requires-clause-small g c =
    let small = rw (← c.self.view_is) at c.requires.small in
    let spot = rw (← c.self.view_is) at c.requires.spot in
    omega (arith, small, block_part c.self.inside.blocks.items c.args.seat.block, ap items_in (get_or_read _ _ _ spot.block c.index_mut.ensures.value []))

pub invariant_of-self : goal.invariant_of-self
invariant_of-self g c =
    let spot = rw (← c.self.view_is) at c.requires.spot in
    append_keeps _ _ _ _ _ _ c.self.invariant _ _ _ _ spot.block (get_or_read _ _ _ spot.block c.index_mut.ensures.value []) spot.leaf c.raise.ensures.room _ _ c.len.ensures.value c.append.ensures.items c.raise.ensures.sizes
