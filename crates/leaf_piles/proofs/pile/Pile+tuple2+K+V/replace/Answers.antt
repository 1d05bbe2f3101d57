use Rattle.std.proofs.Common.{arith, ap, sym, ◌∙◌, [], length, set}
use Rattle.leaf_blocks.specs.Leaves.{joined, rank, leaf_at}
use Rattle.sorted_table.specs.Tables.{value_there, with_value}
use Rattle.sorted_table.proofs.Laws.{length_value}
use Rattle.leaf_blocks.proofs.Laws.{rank_leaf, rank_set}
use Rattle.leaf_piles.proofs.PileLemmas.{leaf_keeps}
use Rattle.leaf_piles.proofs.pile.Pile+tuple2+K+V.replace.Goals as goal

pub replace-requires-clause-offset : goal.replace-requires-clause-offset
replace-requires-clause-offset g c =
    let spot = rw (← c.self.view_is) at c.requires.spot in
    let here = rank_leaf c.self.inside.shelf.blocks c.args.seat.block c.args.seat.leaf [] spot.block spot.leaf in
    let o = rw (← c.self.view_is) at c.requires.offset in
    omega (arith, o, ap length here)

pub invariant_of-self : goal.invariant_of-self
invariant_of-self g c =
    let spot = rw (← c.self.view_is) at c.requires.spot in
    let here = rank_leaf c.self.inside.shelf.blocks c.args.seat.block c.args.seat.leaf [] spot.block spot.leaf in
    leaf_keeps _ _ _ _ _ _ c.self.invariant _ _ _ _ spot c.replace.ensures.blocks c.replace.ensures.kept
    (omega (arith, ap length here, length_value (leaf_at (leaf_at c.self.inside.shelf.blocks c.args.seat.block) c.args.seat.leaf) c.args.seat.offset c.args.value))

pub returns-clause-given : goal.returns-clause-given
returns-clause-given g c =
    let spot = rw (← c.self.view_is) at c.requires.spot in
    let here = rank_leaf c.self.inside.shelf.blocks c.args.seat.block c.args.seat.leaf [] spot.block spot.leaf in
    rw (← c.self.view_is) (ap (λ l. value_there l c.args.seat.offset) here ∙ c.replace.ensures.given)

pub returns-clause-leaves : goal.returns-clause-leaves
returns-clause-leaves g c =
    let spot = rw (← c.self.view_is) at c.requires.spot in
    let here = rank_leaf c.self.inside.shelf.blocks c.args.seat.block c.args.seat.leaf [] spot.block spot.leaf in
    rw (← c.self.view_is) (ap joined c.replace.ensures.blocks ∙ rank_set c.self.inside.shelf.blocks c.args.seat.block c.args.seat.leaf _ spot.block spot.leaf
    ∙ ap (λ l. set (joined c.self.inside.shelf.blocks) (rank c.self.inside.shelf.blocks c.args.seat.block c.args.seat.leaf) (with_value l c.args.seat.offset c.args.value)) (sym here))
