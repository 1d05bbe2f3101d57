use Rattle.std.proofs.Common.{◌≤◌, arith, ap, length, []}
use Rattle.std.proofs.lemmas.List.{get_or_read}
use Rattle.leaf_blocks.specs.Leaves.{before, leaf_at}
use Rattle.leaf_piles.proofs.ShelfLemmas.{shelf_before, shelf_sum, before_part}
use Rattle.leaf_blocks.proofs.Laws.{rank_before}
use Rattle.leaf_piles.proofs.shelf.Shelf.start.Goals as goal

pub overflow_add-result : goal.overflow_add-result
overflow_add-result g c =
    let spot = rw (← c.self.view_is) at c.requires in
    omega (
      arith,
      c.start.ensures,
      c.start-2.ensures,
      ap (λ b. before b c.args.seat.leaf) (get_or_read _ _ _ spot.block c.index.ensures []),
      shelf_before _ _ _ _ _ c.self.invariant c.args.seat.block,
      shelf_sum _ _ _ _ _ c.self.invariant,
      before_part c.self.inside.blocks.items c.args.seat.block c.args.seat.leaf spot.block,
    )

pub returns : goal.returns
returns g c =
    let spot = rw (← c.self.view_is) at c.requires in
    let inner : c.args.seat.leaf ≤ length (leaf_at c.self.inside.blocks.items c.args.seat.block) = omega (arith, spot.leaf) in
    rw (← c.self.view_is) (omega (
      arith,
      c.start.ensures,
      c.start-2.ensures,
      ap (λ b. before b c.args.seat.leaf) (get_or_read _ _ _ spot.block c.index.ensures []),
      shelf_before _ _ _ _ _ c.self.invariant c.args.seat.block,
      rank_before c.self.inside.blocks.items c.args.seat.block c.args.seat.leaf spot.block inner,
    ))
