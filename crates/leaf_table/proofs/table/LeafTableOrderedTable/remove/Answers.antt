use Rattle.sorted_table.proofs.Laws.{sorted_remove}
use Rattle.leaf_blocks.specs.Leaves.{joined}
use Rattle.leaf_table.proofs.table.LeafTableOrderedTable.remove.Goals as goal

pub invariant_of-self : goal.invariant_of-self
invariant_of-self g c = record {
  sorted = rw c.take_pair.ensures.left (sorted_remove g.K.Ordered.order (joined (joined c.args.self.now.pile.blocks)) c.args.place c.args.self.now.sorted);
  filled = c.take_pair.ensures.filled;
}
