use Rattle.std.proofs.Common.{arith, ap, ◌∙◌}
use Rattle.leaf_blocks.specs.Leaves.{joined}
use Rattle.leaf_blocks.proofs.Laws.{joined_split}
use Rattle.leaf_piles.proofs.PileLemmas.{left_kept, halve_keeps, few_blocks, half_spot}
use Rattle.leaf_piles.proofs.pile.Pile.make_room.Goals as goal

pub halve-requires-clause-kept : goal.halve-requires-clause-kept
halve-requires-clause-kept g c =
    let spot = rw (← c.self.view_is) at c.requires.spot in
    left_kept _ _ _ _ _ c.self.invariant c.args.seat.block spot.block (omega (arith, c.width.ensures, c.if-width-lt-WIDTH.false))

pub seat_in_half-requires : goal.seat_in_half-requires
seat_in_half-requires g c =
    let spot = rw (← c.self.view_is) at c.requires.spot in
    omega (arith, spot.block, few_blocks 128 c.self.inside.shelf.blocks c.self.invariant.filled, c.self.invariant.counted, c.self.invariant.limit)

pub invariant_of-self : goal.invariant_of-self
invariant_of-self g c =
    let spot = rw (← c.self.view_is) at c.requires.spot in
    halve_keeps _ _ _ _ _ _ c.self.invariant c.args.seat.block spot.block (omega (arith, c.width.ensures, c.if-width-lt-WIDTH.false)) c.halve.ensures.blocks c.halve.ensures.kept

pub returns-clause-leaves : goal.returns-clause-leaves
returns-clause-leaves g c = rw (← c.self.view_is) (ap joined c.halve.ensures.blocks ∙ joined_split 64 c.self.inside.shelf.blocks c.args.seat.block)

pub returns-clause-spot : goal.returns-clause-spot
returns-clause-spot g c =
    let spot = rw (← c.self.view_is) at c.requires.spot in
    rw c.halve.ensures.blocks (half_spot _ _ _ _ _ spot.block spot.leaf (omega (arith, c.width.ensures, c.if-width-lt-WIDTH.false)) c.seat_in_half.ensures.half).spot

pub returns-clause-same : goal.returns-clause-same
returns-clause-same g c =
    let spot = rw (← c.self.view_is) at c.requires.spot in
    rw (c.halve.ensures.blocks, ← c.self.view_is) (half_spot _ _ _ _ _ spot.block spot.leaf (omega (arith, c.width.ensures, c.if-width-lt-WIDTH.false)) c.seat_in_half.ensures.half).same

pub returns-clause-room : goal.returns-clause-room
returns-clause-room g c =
    let spot = rw (← c.self.view_is) at c.requires.spot in
    rw c.halve.ensures.blocks (half_spot _ _ _ _ _ spot.block spot.leaf (omega (arith, c.width.ensures, c.if-width-lt-WIDTH.false)) c.seat_in_half.ensures.half).room
