use Rattle.std.proofs.Common.{arith, ap, sym, ◌∙◌, [], length, set, insert}
use Rattle.std.proofs.lemmas.List.Edits.{length-insert}
use Rattle.leaf_blocks.specs.Leaves.{joined, rank, leaf_at}
use Rattle.leaf_blocks.proofs.Laws.{excess_most, rank_leaf, rank_set}
use Rattle.leaf_piles.proofs.PileLemmas.{leaf_keeps}
use Rattle.leaf_piles.proofs.pile.Pile.put.Goals as goal

pub one_more-self-inside-requires : goal.one_more-self-inside-requires
one_more-self-inside-requires g c =
    let small = rw (← c.self.view_is) at c.requires.small in
    omega (arith, small, excess_most (joined c.self.inside.shelf.blocks), c.self.invariant.exceeds)

pub put-requires-clause-offset : goal.put-requires-clause-offset
put-requires-clause-offset g c =
    let spot = rw (← c.self.view_is) at c.requires.spot in
    let here = rank_leaf c.self.inside.shelf.blocks c.args.seat.block c.args.seat.leaf [] spot.block spot.leaf in
    let o = rw (← c.self.view_is) at c.requires.offset in
    omega (arith, o, ap length here)

pub put-requires-clause-room : goal.put-requires-clause-room
put-requires-clause-room g c =
    let spot = rw (← c.self.view_is) at c.requires.spot in
    let here = rank_leaf c.self.inside.shelf.blocks c.args.seat.block c.args.seat.leaf [] spot.block spot.leaf in
    let room = rw (← c.self.view_is) at c.requires.room in
    omega (arith, room, ap length here)

pub invariant_of-self : goal.invariant_of-self
invariant_of-self g c =
    let spot = rw (← c.self.view_is) at c.requires.spot in
    let here = rank_leaf c.self.inside.shelf.blocks c.args.seat.block c.args.seat.leaf [] spot.block spot.leaf in
    let o = rw (← c.self.view_is) at c.requires.offset in
    leaf_keeps _ _ _ _ _ _ c.self.invariant _ _ _ _ spot c.put.ensures.blocks c.put.ensures.kept
    (omega (arith, c.one_more-self-inside.ensures, c.size.ensures.value, ap length here, length-insert (leaf_at (leaf_at c.self.inside.shelf.blocks c.args.seat.block) c.args.seat.leaf) c.args.seat.offset c.args.item (omega (arith, o, ap length here))))

pub returns-clause-leaves : goal.returns-clause-leaves
returns-clause-leaves g c =
    let spot = rw (← c.self.view_is) at c.requires.spot in
    let here = rank_leaf c.self.inside.shelf.blocks c.args.seat.block c.args.seat.leaf [] spot.block spot.leaf in
    rw (← c.self.view_is) (ap joined c.put.ensures.blocks ∙ rank_set c.self.inside.shelf.blocks c.args.seat.block c.args.seat.leaf _ spot.block spot.leaf
    ∙ ap (λ l. set (joined c.self.inside.shelf.blocks) (rank c.self.inside.shelf.blocks c.args.seat.block c.args.seat.leaf) (insert l c.args.seat.offset c.args.item)) (sym here))
