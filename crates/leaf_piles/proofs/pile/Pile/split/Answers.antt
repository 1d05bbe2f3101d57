use Rattle.std.proofs.Common.{arith, ap, ◌∙◌, [], length}
use Rattle.leaf_blocks.specs.Leaves.{joined, rank, leaf_at}
use Rattle.leaf_blocks.proofs.Laws.{excess_at, length_split, rank_leaf, rank_split}
use Rattle.leaf_piles.proofs.PileLemmas.{split_keeps, spot_set}
use Rattle.leaf_piles.proofs.pile.Pile.split.Goals as goal

pub split-requires-clause-full : goal.split-requires-clause-full
split-requires-clause-full g c =
    let spot = rw (← c.self.view_is) at c.requires.spot in
    let here = rank_leaf c.self.inside.shelf.blocks c.args.seat.block c.args.seat.leaf [] spot.block spot.leaf in
    let full = rw (← c.self.view_is) at c.requires.full in
    omega (arith, full, ap length here)

pub overflow_sub-self : goal.overflow_sub-self
overflow_sub-self g c =
    let full = rw (← c.self.view_is) at c.requires.full in
    omega (arith, full, excess_at (joined c.self.inside.shelf.blocks) (rank c.self.inside.shelf.blocks c.args.seat.block c.args.seat.leaf), c.self.invariant.exceeds)

pub invariant_of-self : goal.invariant_of-self
invariant_of-self g c =
    let spot = rw (← c.self.view_is) at c.requires.spot in
    let full = rw (← c.self.view_is) at c.requires.full in
    let room = rw (← c.self.view_is) at c.requires.room in
    split_keeps _ _ _ _ _ _ c.self.invariant _ _ _ _ _ _ spot c.split.ensures.blocks c.split.ensures.kept room full c.take_free-upper.ensures.len (omega arith)
    (omega (arith, full, excess_at (joined c.self.inside.shelf.blocks) (rank c.self.inside.shelf.blocks c.args.seat.block c.args.seat.leaf), c.self.invariant.exceeds)) (omega arith)

pub returns-clause-leaves : goal.returns-clause-leaves
returns-clause-leaves g c =
    let spot = rw (← c.self.view_is) at c.requires.spot in
    rw (← c.self.view_is) (ap joined c.split.ensures.blocks ∙ rank_split 32 c.self.inside.shelf.blocks c.args.seat.block c.args.seat.leaf spot.block spot.leaf)

pub returns-clause-lower : goal.returns-clause-lower
returns-clause-lower g c =
    let spot = rw (← c.self.view_is) at c.requires.spot in
    rw c.split.ensures.blocks (spot_set c.self.inside.shelf.blocks c.args.seat.block c.args.seat.leaf _ spot.block
    (omega (arith, spot.leaf, length_split 32 (leaf_at c.self.inside.shelf.blocks c.args.seat.block) c.args.seat.leaf spot.leaf)))

pub returns-clause-upper : goal.returns-clause-upper
returns-clause-upper g c =
    let spot = rw (← c.self.view_is) at c.requires.spot in
    rw c.split.ensures.blocks (spot_set c.self.inside.shelf.blocks c.args.seat.block _ _ spot.block
    (omega (arith, spot.leaf, length_split 32 (leaf_at c.self.inside.shelf.blocks c.args.seat.block) c.args.seat.leaf spot.leaf)))
