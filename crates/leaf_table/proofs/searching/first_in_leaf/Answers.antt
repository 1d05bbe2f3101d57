use Rattle.std.proofs.Common.{arith, ap, length}
use Rattle.leaf_blocks.specs.Leaves.{joined, rank}
use Rattle.leaf_table.proofs.PutLemmas.{put_small}
use Rattle.leaf_blocks.proofs.Laws.{rank_below, leaf_within}
use Rattle.leaf_table.proofs.Within.{near_split, leaf_stays, leaf_split, leaf_length}
use Rattle.leaf_table.proofs.searching.first_in_leaf.Goals as goal

pub first_in-requires : goal.first_in-requires
first_in-requires g c = rw c.leaf.ensures.items (leaf_stays _ (joined c.args.pile.now.blocks) (rank c.args.pile.now.blocks c.args.seat.block c.args.seat.leaf) (rank_below c.args.pile.now.blocks c.args.seat.block c.args.seat.leaf c.requires.leaf.spot.block c.requires.leaf.spot.leaf) c.requires.stays)

pub returns-clause-split : goal.returns-clause-split
returns-clause-split g c = leaf_split _ (joined c.args.pile.now.blocks) (rank c.args.pile.now.blocks c.args.seat.block c.args.seat.leaf) (rank_below c.args.pile.now.blocks c.args.seat.block c.args.seat.leaf c.requires.leaf.spot.block c.requires.leaf.spot.leaf) c.requires.stays c.args.low c.args.end c.first_in.result c.requires.leaf.first c.requires.leaf.last
    (near_split (g.C.Cut.passes c.args.cut.now) g.K.Ordered.abbreviated _ (g.met.C.Cut.in_front c.args.cut.now) (g.met.C.Cut.behind c.args.cut.now) _ _ _ c.requires.stays c.requires.near) (rw c.leaf.ensures.items at c.first_in.ensures.split)

pub returns-clause-cost : goal.returns-clause-cost
returns-clause-cost g c = omega (arith, c.first_in.ensures.cost, ap length c.leaf.ensures.items, leaf_length (joined c.args.pile.now.blocks) (rank c.args.pile.now.blocks c.args.seat.block c.args.seat.leaf) (rank_below c.args.pile.now.blocks c.args.seat.block c.args.seat.leaf c.requires.leaf.spot.block c.requires.leaf.spot.leaf))

pub overflow_add-result : goal.overflow_add-result
overflow_add-result g c =
    omega (arith, c.requires.leaf.first, (rw c.leaf.ensures.items at c.first_in.ensures.split).within, leaf_within (joined c.args.pile.now.blocks) (rank c.args.pile.now.blocks c.args.seat.block c.args.seat.leaf) (rank_below c.args.pile.now.blocks c.args.seat.block c.args.seat.leaf c.requires.leaf.spot.block c.requires.leaf.spot.leaf), put_small (joined c.args.pile.now.blocks) c.requires.filled c.leaf.ensures.few)
