use Rattle.std.proofs.Common.{arith, ◌∙◌}
use Rattle.leaf_blocks.specs.Leaves.{joined, rank}
use Rattle.leaf_blocks.proofs.Laws.{excess_out, rank_below}
use Rattle.std.proofs.lemmas.List.Edits.{length-remove}
use Rattle.leaf_piles.proofs.PileLemmas.{settled_keeps}
use Rattle.leaf_piles.proofs.Joining.{pulled, pulled_count, pulled_items, pulled_shorter}
use Rattle.leaf_piles.proofs.pile.Pile.leave_out.Goals as goal

pub keep-requires : goal.keep-requires
keep-requires g c =
    let spot = rw (← c.self.view_is) at c.requires.spot in
    omega (arith, c.self.invariant.room, c.self.invariant.counted, rank_below c.self.inside.shelf.blocks c.args.seat.block c.args.seat.leaf spot.block spot.leaf)

pub overflow_sub-self : goal.overflow_sub-self
overflow_sub-self g c =
    let spot = rw (← c.self.view_is) at c.requires.spot in
    omega (arith, c.self.invariant.counted, rank_below c.self.inside.shelf.blocks c.args.seat.block c.args.seat.leaf spot.block spot.leaf)

pub settle-requires-clause-shorter : goal.settle-requires-clause-shorter
settle-requires-clause-shorter g c =
    let spot = rw (← c.self.view_is) at c.requires.spot in
    pulled_shorter _ _ _ _ spot c.pull-empty.ensures.blocks c.self.invariant.filled

pub settle-requires-clause-small : goal.settle-requires-clause-small
settle-requires-clause-small g c =
    let spot = rw (← c.self.view_is) at c.requires.spot in
    let small = rw (← c.self.view_is) at c.requires.small in
    omega (arith, small, pulled_items _ _ _ _ spot c.pull-empty.ensures.blocks)

pub invariant_of-self : goal.invariant_of-self
invariant_of-self g c =
    let spot = rw (← c.self.view_is) at c.requires.spot in
    let none = rw (← c.self.view_is) at c.requires.empty in
    let below = rank_below c.self.inside.shelf.blocks c.args.seat.block c.args.seat.leaf spot.block spot.leaf in
    settled_keeps _ _ _ _ _ _ c.self.invariant _ _ _ _ (c.settle.ensures.leaves ∙ pulled _ _ _ _ spot c.pull-empty.ensures.blocks) c.settle.ensures.filled
    (omega (arith, c.settle.ensures.kept, c.pull-empty.ensures.kept, pulled_count _ _ _ _ spot c.pull-empty.ensures.blocks))
    (length-remove (joined c.self.inside.shelf.blocks) (rank c.self.inside.shelf.blocks c.args.seat.block c.args.seat.leaf) below)
    (excess_out (joined c.self.inside.shelf.blocks) _ none) c.keep.ensures.len (omega (arith, c.self.invariant.counted, below)) c.keep.ensures.capacity

pub returns-clause-leaves : goal.returns-clause-leaves
returns-clause-leaves g c =
    let spot = rw (← c.self.view_is) at c.requires.spot in
    rw (← c.self.view_is) (c.settle.ensures.leaves ∙ pulled _ _ _ _ spot c.pull-empty.ensures.blocks)
