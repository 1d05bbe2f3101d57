use Rattle.std.proofs.Common.{arith, ap, ◌∙◌, [], length}
use Rattle.std.proofs.lemmas.List.{get_or_read}
use Rattle.leaf_blocks.specs.Leaves.{leaf_at}
use Rattle.leaf_piles.proofs.ShelfLemmas.{shelf_size, leaf_part, pull_keeps}
use Rattle.leaf_piles.proofs.shelf.Shelf.pull.Goals as goal

pub lower-requires-clause-part : goal.lower-requires-clause-part
lower-requires-clause-part g c =
    let spot = rw (← c.self.view_is) at c.requires in
    omega (
      arith,
      c.len.ensures.value,
      ap length (c.pull-leaf.ensures.taken ∙ ap (λ b. leaf_at b c.args.seat.leaf) (get_or_read _ _ _ spot.block c.index_mut.ensures.value [])),
      shelf_size _ _ _ _ _ c.self.invariant c.args.seat.block,
      leaf_part (leaf_at c.self.inside.blocks.items c.args.seat.block) c.args.seat.leaf,
    )

pub invariant_of-self : goal.invariant_of-self
invariant_of-self g c =
    let spot = rw (← c.self.view_is) at c.requires in
    pull_keeps _ _ _ _ _ _ c.self.invariant _ _ _ _ spot.block (get_or_read _ _ _ spot.block c.index_mut.ensures.value []) spot.leaf c.lower.ensures.room _ _ c.pull-leaf.ensures.taken c.len.ensures.value c.pull-leaf.ensures.left c.lower.ensures.sizes
