use Rattle.leaf_blocks.proofs.Laws.{most_items, least_items}
use Rattle.leaf_table.proofs.table.LeafTable.leaves.Goals as goal

pub returns-clause-most : goal.returns-clause-most
returns-clause-most g c = rw c.len.ensures.value (most_items 64 _ c.args.self.now.filled)

pub returns-clause-least : goal.returns-clause-least
returns-clause-least g c = rw c.len.ensures.value (least_items 64 _ c.args.self.now.filled)
