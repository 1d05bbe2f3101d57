use Rattle.std.proofs.Common.{arith, add-one, ◌∙◌, length, suc, ◌<◌}
use Rattle.leaf_blocks.specs.Leaves.{joined, rank}
use Rattle.leaf_blocks.proofs.Laws.{excess_join, length_join, rank_below}
use Rattle.leaf_piles.proofs.PileLemmas.{settled_keeps}
use Rattle.leaf_piles.proofs.Joining.{pulled_items, spot_one, room_one, joined_two, count_two, items_two, shorter_two}
use Rattle.leaf_piles.proofs.pile.Pile.join.Goals as goal

pub append-requires-clause-spot : goal.append-requires-clause-spot
append-requires-clause-spot g c =
    let spot = rw (← c.self.view_is) at c.requires.spot in
    let next = rw (← c.self.view_is) at c.requires.behind in
    let order = rw (← c.self.view_is) at c.requires.next in
    spot_one _ _ _ _ _ _ spot next order c.pull-upper.ensures.blocks

pub append-requires-clause-room : goal.append-requires-clause-room
append-requires-clause-room g c =
    let spot = rw (← c.self.view_is) at c.requires.spot in
    let next = rw (← c.self.view_is) at c.requires.behind in
    let order = rw (← c.self.view_is) at c.requires.next in
    let few = rw (← c.self.view_is) at c.requires.few in
    room_one _ _ _ _ _ _ spot next order c.pull-upper.ensures.blocks _ c.pull-upper.ensures.taken few

pub append-requires-clause-small : goal.append-requires-clause-small
append-requires-clause-small g c =
    let next = rw (← c.self.view_is) at c.requires.behind in
    let small = rw (← c.self.view_is) at c.requires.small in
    omega (arith, small, pulled_items _ _ _ _ next c.pull-upper.ensures.blocks)

pub keep-requires : goal.keep-requires
keep-requires g c =
    let next = rw (← c.self.view_is) at c.requires.behind in
    omega (arith, c.self.invariant.room, c.self.invariant.counted, rank_below c.self.inside.shelf.blocks c.args.next.block c.args.next.leaf next.block next.leaf)

pub overflow_sub-self : goal.overflow_sub-self
overflow_sub-self g c =
    let next = rw (← c.self.view_is) at c.requires.behind in
    omega (arith, c.self.invariant.counted, rank_below c.self.inside.shelf.blocks c.args.next.block c.args.next.leaf next.block next.leaf)

pub settle-requires-clause-shorter : goal.settle-requires-clause-shorter
settle-requires-clause-shorter g c =
    let spot = rw (← c.self.view_is) at c.requires.spot in
    let next = rw (← c.self.view_is) at c.requires.behind in
    let order = rw (← c.self.view_is) at c.requires.next in
    shorter_two _ _ _ _ _ _ spot next order c.pull-upper.ensures.blocks _ c.pull-upper.ensures.taken _ c.append.ensures.blocks c.self.invariant.filled

pub settle-requires-clause-small : goal.settle-requires-clause-small
settle-requires-clause-small g c =
    let spot = rw (← c.self.view_is) at c.requires.spot in
    let next = rw (← c.self.view_is) at c.requires.behind in
    let order = rw (← c.self.view_is) at c.requires.next in
    let small = rw (← c.self.view_is) at c.requires.small in
    omega (arith, small, items_two _ _ _ _ _ _ spot next order c.pull-upper.ensures.blocks _ c.pull-upper.ensures.taken _ c.append.ensures.blocks)

pub invariant_of-self : goal.invariant_of-self
invariant_of-self g c =
    let spot = rw (← c.self.view_is) at c.requires.spot in
    let next = rw (← c.self.view_is) at c.requires.behind in
    let order = rw (← c.self.view_is) at c.requires.next in
    let few = rw (← c.self.view_is) at c.requires.few in
    let below : suc (rank c.self.inside.shelf.blocks c.args.seat.block c.args.seat.leaf) < length (joined c.self.inside.shelf.blocks) =
    omega (arith, order, rank_below c.self.inside.shelf.blocks c.args.next.block c.args.next.leaf next.block next.leaf) in
    settled_keeps _ _ _ _ _ _ c.self.invariant _ _ _ _ (c.settle.ensures.leaves ∙ joined_two _ _ _ _ _ _ spot next order c.pull-upper.ensures.blocks _ c.pull-upper.ensures.taken _ c.append.ensures.blocks) c.settle.ensures.filled
    (omega (arith, c.settle.ensures.kept, c.append.ensures.kept, c.pull-upper.ensures.kept, count_two _ _ _ _ _ _ spot next order c.pull-upper.ensures.blocks _ c.pull-upper.ensures.taken _ c.append.ensures.blocks))
    (length_join (joined c.self.inside.shelf.blocks) (rank c.self.inside.shelf.blocks c.args.seat.block c.args.seat.leaf) below)
    (excess_join (joined c.self.inside.shelf.blocks) _ below (rw add-one at few)) c.keep.ensures.len (omega (arith, c.self.invariant.counted, below)) c.keep.ensures.capacity

pub returns-clause-leaves : goal.returns-clause-leaves
returns-clause-leaves g c =
    let spot = rw (← c.self.view_is) at c.requires.spot in
    let next = rw (← c.self.view_is) at c.requires.behind in
    let order = rw (← c.self.view_is) at c.requires.next in
    rw (← c.self.view_is) (c.settle.ensures.leaves ∙ joined_two _ _ _ _ _ _ spot next order c.pull-upper.ensures.blocks _ c.pull-upper.ensures.taken _ c.append.ensures.blocks)
