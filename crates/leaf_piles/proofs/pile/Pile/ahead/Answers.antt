use Rattle.std.proofs.Common.{◌≡◌, ◌-◌, suc, arith}
use Rattle.leaf_blocks.proofs.Laws.{fit}
use Rattle.leaf_piles.proofs.PileLemmas.{before_next}
use Rattle.leaf_piles.proofs.pile.Pile.ahead.Goals as goal

pub overflow_sub-width : goal.overflow_sub-width
overflow_sub-width g c =
    let block = rw (← c.self.view_is) at c.requires.block in
    omega (arith, c.width.ensures.value, (fit 64 128 c.self.inside.shelf.blocks (c.args.seat.block - 1) c.self.invariant.filled (omega (arith, block))).0)

pub returns-then-seat-gt0-2-clause-spot : goal.returns-then-seat-gt0-2-clause-spot
returns-then-seat-gt0-2-clause-spot g c =
    let block = rw (← c.self.view_is) at c.requires.block in
    rw (c.seat_of-then-seat-gt0-2.ensures.block, c.seat_of-then-seat-gt0-2.ensures.leaf, ← c.self.view_is) record {
      block = omega (arith, block);
      leaf = omega (arith, c.width.ensures.value, (fit 64 128 c.self.inside.shelf.blocks (c.args.seat.block - 1) c.self.invariant.filled (omega (arith, block))).0);
    }

pub returns-then-seat-gt0-2-clause-prior : goal.returns-then-seat-gt0-2-clause-prior
returns-then-seat-gt0-2-clause-prior g c =
    let block = rw (← c.self.view_is) at c.requires.block in
    let back : suc (c.args.seat.block - 1) ≡ c.args.seat.block = omega (arith, c.if-seat-gt0-2.true) in
    rw (c.seat_of-then-seat-gt0-2.ensures.block, c.seat_of-then-seat-gt0-2.ensures.leaf, ← c.self.view_is)
    (omega (
      arith,
      c.width.ensures.value,
      rw back at (before_next c.self.inside.shelf.blocks (c.args.seat.block - 1)),
      c.if-seat-gt0.false,
      (fit 64 128 c.self.inside.shelf.blocks (c.args.seat.block - 1) c.self.invariant.filled (omega (arith, block))).0,
    ))
