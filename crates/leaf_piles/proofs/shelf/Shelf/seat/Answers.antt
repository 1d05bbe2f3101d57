use Rattle.std.proofs.Common.{◌<◌, ◌≤◌, length, arith, ap, []}
use Rattle.std.proofs.lemmas.List.{get_or_read}
use Rattle.leaf_blocks.specs.Leaves.{before, leaf_at, items_in}
use Rattle.leaf_piles.proofs.ShelfLemmas.{shelf_sizes, shelf_sum, shelf_before, shelf_size}
use Rattle.leaf_blocks.proofs.Laws.{rank_before, rank_leaf}
use Rattle.leaf_piles.proofs.shelf.Shelf.seat.Goals as goal

pub seat-outer-requires-clause-within : goal.seat-outer-requires-clause-within
seat-outer-requires-clause-within g c =
    let within = rw (← c.self.view_is) at c.requires.within in
    omega (arith, within, shelf_sum _ _ _ _ _ c.self.invariant)

pub returns-clause-place : goal.returns-clause-place
returns-clause-place g c =
    let at : c.seat-outer.result.at < length c.self.inside.blocks.items = omega (arith, c.seat-outer.ensures.at, shelf_sizes _ _ _ _ _ c.self.invariant) in
    let there = get_or_read _ _ _ at c.index.ensures [] in
    let inner : c.seat-inner.result.at < length (leaf_at c.self.inside.blocks.items c.seat-outer.result.at) = omega (arith, c.seat-inner.ensures.at, ap length there) in
    let below : c.seat-inner.result.at ≤ length (leaf_at c.self.inside.blocks.items c.seat-outer.result.at) = omega (arith, inner) in
    rw (← c.self.view_is) (omega (
      arith,
      c.seat-outer.ensures.place,
      c.seat-inner.ensures.place,
      ap (λ b. before b c.seat-inner.result.at) there,
      shelf_before _ _ _ _ _ c.self.invariant c.seat-outer.result.at,
      rank_before c.self.inside.blocks.items c.seat-outer.result.at c.seat-inner.result.at at below,
    ))

pub returns-clause-offset : goal.returns-clause-offset
returns-clause-offset g c =
    let at : c.seat-outer.result.at < length c.self.inside.blocks.items = omega (arith, c.seat-outer.ensures.at, shelf_sizes _ _ _ _ _ c.self.invariant) in
    let there = get_or_read _ _ _ at c.index.ensures [] in
    let inner : c.seat-inner.result.at < length (leaf_at c.self.inside.blocks.items c.seat-outer.result.at) = omega (arith, c.seat-inner.ensures.at, ap length there) in
    rw (← c.self.view_is) (omega (arith, c.seat-inner.ensures.rest, ap (λ b. length (leaf_at b c.seat-inner.result.at)) there, ap length (rank_leaf c.self.inside.blocks.items c.seat-outer.result.at c.seat-inner.result.at [] at inner)))

pub returns-clause-inner : goal.returns-clause-inner
returns-clause-inner g c =
    let at : c.seat-outer.result.at < length c.self.inside.blocks.items = omega (arith, c.seat-outer.ensures.at, shelf_sizes _ _ _ _ _ c.self.invariant) in
    let there = get_or_read _ _ _ at c.index.ensures [] in
    let inner : c.seat-inner.result.at < length (leaf_at c.self.inside.blocks.items c.seat-outer.result.at) = omega (arith, c.seat-inner.ensures.at, ap length there) in
    rw (← c.self.view_is) (λ h. omega (
      arith,
      c.seat-inner.ensures.inner (omega (
        arith,
        c.seat-outer.ensures.inner (omega (arith, h, shelf_sum _ _ _ _ _ c.self.invariant)),
        shelf_size _ _ _ _ _ c.self.invariant c.seat-outer.result.at,
        ap items_in there,
      )),
      ap (λ b. length (leaf_at b c.seat-inner.result.at)) there,
      ap length (rank_leaf c.self.inside.blocks.items c.seat-outer.result.at c.seat-inner.result.at [] at inner),
    ))
