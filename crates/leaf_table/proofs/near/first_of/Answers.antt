use Rattle.std.proofs.Common.{inr, subst, ◌≡◌, ◌+◌, arith}
use Rattle.leaf_blocks.specs.Leaves.{joined, before, rank}
use Rattle.leaf_table.specs.Near.{IsToldBehind}
use Rattle.leaf_table.proofs.near.first_of.Goals as goal

pub returns-then-is_behind-clause-behind : goal.returns-then-is_behind-clause-behind
returns-then-is_behind-clause-behind g c =
    let there = rw (c.seat_at.ensures.block, c.seat_at.ensures.leaf, c.seat_at.ensures.offset) at (c.is_behind.ensures c.if-is_behind.true) in
    let at : before (joined c.args.pile.now.blocks) (rank c.args.pile.now.blocks c.args.seat.block c.args.seat.leaf) + 0 ≡ c.start.result = omega (arith, c.start.ensures) in
    inr (subst (λ p. IsToldBehind g.K.Ordered.abbreviated (joined (joined c.args.pile.now.blocks)) p c.args.number) at there)
