use Rattle.std.proofs.Common.{◌-◌, length, ap, take, drop}
use Rattle.leaf_blocks.specs.Leaves.{joined, rank}
use Rattle.leaf_blocks.proofs.Laws.{rank_below}
use Rattle.leaf_table.proofs.Within.{run_is}
use Rattle.leaf_table.proofs.searching.run_from.Goals as goal

pub returns-clause-entries : goal.returns-clause-entries
returns-clause-entries g c = run_is (joined c.args.pile.now.blocks) (rank c.args.pile.now.blocks c.seat-seat.result.block c.seat-seat.result.leaf) c.seat-seat.result.offset c.args.place
    (length c.leaf.result.now - c.seat-seat.result.offset) _ (rank_below c.args.pile.now.blocks c.seat-seat.result.block c.seat-seat.result.leaf c.seat-seat.ensures.spot.block c.seat-seat.ensures.spot.leaf)
    c.seat-seat.ensures.place c.seat-seat.ensures.offset (ap (λ l. take (length c.leaf.result.now - c.seat-seat.result.offset) (drop c.seat-seat.result.offset l)) c.leaf.ensures.items)
