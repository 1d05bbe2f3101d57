use Rattle.std.proofs.Common.{◌+◌, arith}
use Rattle.leaf_blocks.proofs.Laws.{fit}
use Rattle.leaf_piles.proofs.pile.Pile.behind.Goals as goal

pub returns-then-seat-len-clause-spot : goal.returns-then-seat-len-clause-spot
returns-then-seat-len-clause-spot g c =
    rw (c.seat_of-then-seat-len.ensures.block, c.seat_of-then-seat-len.ensures.leaf, ← c.self.view_is) record {
      block = omega (arith, c.len.ensures, c.if-seat-len.true);
      leaf = (fit 64 128 c.self.inside.shelf.blocks (c.args.seat.block + 1) c.self.invariant.filled (omega (arith, c.len.ensures, c.if-seat-len.true))).0;
    }
