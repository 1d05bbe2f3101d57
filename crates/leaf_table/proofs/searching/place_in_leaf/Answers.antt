use Rattle.std.proofs.Common.{arith, ap, length}
use Rattle.leaf_blocks.specs.Leaves.{joined, leaf_at, rank}
use Rattle.sorted_table.proofs.Laws.{place_within}
use Rattle.leaf_table.proofs.PutLemmas.{put_small}
use Rattle.leaf_blocks.proofs.Laws.{rank_below, leaf_within}
use Rattle.leaf_table.proofs.Within.{near_below, near_above, leaf_sorted, leaf_has, leaf_belongs, leaf_length}
use Rattle.leaf_table.proofs.searching.place_in_leaf.Goals as goal

pub place_in-requires : goal.place_in-requires
place_in-requires g c = rw c.leaf.ensures.items (leaf_sorted g.K.Ordered.order (joined c.args.pile.now.blocks) (rank c.args.pile.now.blocks c.args.seat.block c.args.seat.leaf) (rank_below c.args.pile.now.blocks c.args.seat.block c.args.seat.leaf c.requires.leaf.spot.block c.requires.leaf.spot.leaf) c.requires.sorted)

pub returns-in-Ok-clause-found : goal.returns-in-Ok-clause-found
returns-in-Ok-clause-found g c = leaf_has g.K.Ordered.order (joined c.args.pile.now.blocks) (rank c.args.pile.now.blocks c.args.seat.block c.args.seat.leaf) c.args.low c.args.end c.args.key.now (rank_below c.args.pile.now.blocks c.args.seat.block c.args.seat.leaf c.requires.leaf.spot.block c.requires.leaf.spot.leaf) c.requires.leaf.first c.requires.leaf.last (near_below g.K.Ordered.order g.met.K.Ordered.total g.K.Ordered.abbreviated g.met.K.Ordered.tells _ c.args.key.now _ _ c.requires.sorted c.requires.near) (near_above g.K.Ordered.order g.met.K.Ordered.total g.K.Ordered.abbreviated g.met.K.Ordered.tells _ c.args.key.now _ _ c.requires.sorted c.requires.near) c.in-Ok.place (rw c.leaf.ensures.items at c.in-Ok.ensures.found)

pub returns-in-Err-clause-absent : goal.returns-in-Err-clause-absent
returns-in-Err-clause-absent g c = leaf_belongs g.K.Ordered.order (joined c.args.pile.now.blocks) (rank c.args.pile.now.blocks c.args.seat.block c.args.seat.leaf) c.args.low c.args.end c.args.key.now (rank_below c.args.pile.now.blocks c.args.seat.block c.args.seat.leaf c.requires.leaf.spot.block c.requires.leaf.spot.leaf) c.requires.leaf.first c.requires.leaf.last (near_below g.K.Ordered.order g.met.K.Ordered.total g.K.Ordered.abbreviated g.met.K.Ordered.tells _ c.args.key.now _ _ c.requires.sorted c.requires.near) (near_above g.K.Ordered.order g.met.K.Ordered.total g.K.Ordered.abbreviated g.met.K.Ordered.tells _ c.args.key.now _ _ c.requires.sorted c.requires.near) c.in-Err.place (rw c.leaf.ensures.items at c.in-Err.ensures.absent)

pub returns-in-Ok-clause-cost : goal.returns-in-Ok-clause-cost
returns-in-Ok-clause-cost g c = omega (arith, c.place_in.ensures.cost, ap length c.leaf.ensures.items, leaf_length (joined c.args.pile.now.blocks) (rank c.args.pile.now.blocks c.args.seat.block c.args.seat.leaf) (rank_below c.args.pile.now.blocks c.args.seat.block c.args.seat.leaf c.requires.leaf.spot.block c.requires.leaf.spot.leaf))

pub returns-in-Err-clause-cost : goal.returns-in-Err-clause-cost
returns-in-Err-clause-cost g c = omega (arith, c.place_in.ensures.cost, ap length c.leaf.ensures.items, leaf_length (joined c.args.pile.now.blocks) (rank c.args.pile.now.blocks c.args.seat.block c.args.seat.leaf) (rank_below c.args.pile.now.blocks c.args.seat.block c.args.seat.leaf c.requires.leaf.spot.block c.requires.leaf.spot.leaf))

pub overflow_add-result : goal.overflow_add-result
overflow_add-result g c =
    omega (arith, c.requires.leaf.first, place_within (leaf_at (joined c.args.pile.now.blocks) (rank c.args.pile.now.blocks c.args.seat.block c.args.seat.leaf)) c.in-Ok.place c.args.key.now (rw c.leaf.ensures.items at c.in-Ok.ensures.found), leaf_within (joined c.args.pile.now.blocks) (rank c.args.pile.now.blocks c.args.seat.block c.args.seat.leaf) (rank_below c.args.pile.now.blocks c.args.seat.block c.args.seat.leaf c.requires.leaf.spot.block c.requires.leaf.spot.leaf), put_small (joined c.args.pile.now.blocks) c.requires.filled c.leaf.ensures.few)

pub overflow_add-result-in-Err : goal.overflow_add-result-in-Err
overflow_add-result-in-Err g c =
    omega (arith, c.requires.leaf.first, (rw c.leaf.ensures.items at c.in-Err.ensures.absent).within, leaf_within (joined c.args.pile.now.blocks) (rank c.args.pile.now.blocks c.args.seat.block c.args.seat.leaf) (rank_below c.args.pile.now.blocks c.args.seat.block c.args.seat.leaf c.requires.leaf.spot.block c.requires.leaf.spot.leaf), put_small (joined c.args.pile.now.blocks) c.requires.filled c.leaf.ensures.few)
