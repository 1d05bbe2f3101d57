use Rattle.sorted_table.proofs.Laws.{sorted_value}
use Rattle.leaf_blocks.specs.Leaves.{joined}
use Rattle.leaf_table.proofs.table.LeafTableOrderedTable.replace.Goals as goal

pub invariant_of-self : goal.invariant_of-self
invariant_of-self g c = record {
  sorted = rw c.replace_in.ensures.items (sorted_value g.K.Ordered.order (joined (joined c.args.self.now.pile.blocks)) c.args.place c.args.value c.args.self.now.sorted);
  filled = c.replace_in.ensures.filled;
}
