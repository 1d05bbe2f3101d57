use Rattle.std.proofs.Common.{arith, ap, sym, ◌∙◌, [], length, set, remove, slice_get}
use Rattle.std.proofs.lemmas.List.Edits.{length-remove}
use Rattle.leaf_blocks.specs.Leaves.{joined, rank, leaf_at}
use Rattle.leaf_blocks.proofs.Laws.{excess_at, rank_leaf, rank_set}
use Rattle.leaf_piles.proofs.PileLemmas.{leaf_keeps}
use Rattle.leaf_piles.proofs.pile.Pile.take.Goals as goal

pub one_less-self-inside-requires-clause-part : goal.one_less-self-inside-requires-clause-part
one_less-self-inside-requires-clause-part g c =
    omega (arith, c.size.ensures.value, excess_at (joined c.self.inside.shelf.blocks) (rank c.self.inside.shelf.blocks c.args.seat.block c.args.seat.leaf), c.self.invariant.exceeds)

pub take-requires-clause-offset : goal.take-requires-clause-offset
take-requires-clause-offset g c =
    let spot = rw (← c.self.view_is) at c.requires.spot in
    let here = rank_leaf c.self.inside.shelf.blocks c.args.seat.block c.args.seat.leaf [] spot.block spot.leaf in
    let o = rw (← c.self.view_is) at c.requires.offset in
    omega (arith, o, ap length here)

pub invariant_of-self : goal.invariant_of-self
invariant_of-self g c =
    let spot = rw (← c.self.view_is) at c.requires.spot in
    let here = rank_leaf c.self.inside.shelf.blocks c.args.seat.block c.args.seat.leaf [] spot.block spot.leaf in
    let o = rw (← c.self.view_is) at c.requires.offset in
    leaf_keeps _ _ _ _ _ _ c.self.invariant _ _ _ _ spot c.take.ensures.blocks c.take.ensures.kept
    (omega (arith, c.one_less-self-inside.ensures, c.size.ensures.value, ap length here, length-remove (leaf_at (leaf_at c.self.inside.shelf.blocks c.args.seat.block) c.args.seat.leaf) c.args.seat.offset (omega (arith, o, ap length here))))

pub returns-clause-taken : goal.returns-clause-taken
returns-clause-taken g c =
    let spot = rw (← c.self.view_is) at c.requires.spot in
    let here = rank_leaf c.self.inside.shelf.blocks c.args.seat.block c.args.seat.leaf [] spot.block spot.leaf in
    rw (← c.self.view_is) (ap (λ l. slice_get l c.args.seat.offset) here ∙ c.take.ensures.taken)

pub returns-clause-leaves : goal.returns-clause-leaves
returns-clause-leaves g c =
    let spot = rw (← c.self.view_is) at c.requires.spot in
    let here = rank_leaf c.self.inside.shelf.blocks c.args.seat.block c.args.seat.leaf [] spot.block spot.leaf in
    rw (← c.self.view_is) (ap joined c.take.ensures.blocks ∙ rank_set c.self.inside.shelf.blocks c.args.seat.block c.args.seat.leaf _ spot.block spot.leaf
    ∙ ap (λ l. set (joined c.self.inside.shelf.blocks) (rank c.self.inside.shelf.blocks c.args.seat.block c.args.seat.leaf) (remove l c.args.seat.offset)) (sym here))
