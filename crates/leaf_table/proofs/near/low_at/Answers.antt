use Rattle.std.proofs.Common.{inr, subst, ◌≡◌, ◌+◌, arith}
use Rattle.leaf_blocks.specs.Leaves.{joined, before, rank}
use Rattle.leaf_table.specs.Near.{IsToldInFront}
use Rattle.leaf_table.proofs.near.low_at.Goals as goal

pub returns-then-is_in_front : goal.returns-then-is_in_front
returns-then-is_in_front g c =
    let there = rw (c.seat_at.ensures.block, c.seat_at.ensures.leaf, c.seat_at.ensures.offset) at (c.is_in_front.ensures c.if-is_in_front.true) in
    let at : before (joined c.args.pile.now.blocks) (rank c.args.pile.now.blocks c.args.seat.block c.args.seat.leaf) + 0 ≡ c.start.result = omega (arith, c.start.ensures) in
    inr (subst (λ p. IsToldInFront g.K.Ordered.abbreviated (joined (joined c.args.pile.now.blocks)) p c.args.number) at there)
