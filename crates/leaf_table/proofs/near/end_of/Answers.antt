use Rattle.std.proofs.Common.{inr, subst, ◌+◌, ◌-◌, ap, sym}
use Rattle.leaf_blocks.specs.Leaves.{joined}
use Rattle.leaf_table.specs.Near.{IsToldBehind}
use Rattle.leaf_table.proofs.near.end_of.Goals as goal

pub returns-then-is_behind-clause-behind : goal.returns-then-is_behind-clause-behind
returns-then-is_behind-clause-behind g c =
    let there = rw (c.seat_at.ensures.block, c.seat_at.ensures.leaf, c.seat_at.ensures.offset) at (c.is_behind.ensures c.if-is_behind.true) in
    inr (subst (λ p. IsToldBehind g.K.Ordered.abbreviated (joined (joined c.args.pile.now.blocks)) p c.args.number) (ap (λ p. p + (c.size-size.result - 1)) (sym c.start.ensures)) there)
