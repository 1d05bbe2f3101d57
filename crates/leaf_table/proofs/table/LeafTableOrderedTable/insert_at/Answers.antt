use Rattle.std.proofs.Common.{◌∙◌, sym}
use Rattle.std.specs.FinMap.Entries.{is_sorted-put}
use Rattle.sorted_table.proofs.Laws.{put_at}
use Rattle.leaf_blocks.specs.Leaves.{joined}
use Rattle.leaf_table.proofs.table.LeafTableOrderedTable.insert_at.Goals as goal

pub invariant_of-self : goal.invariant_of-self
invariant_of-self g c = record {
  sorted = rw (c.put_pair.ensures.items ∙ sym (put_at g.met.K.Ordered.total (joined (joined c.args.self.now.pile.blocks)) _ c.args.key c.args.value c.requires.belongs))
      (is_sorted-put g.K.Ordered.order g.met.K.Ordered.total c.args.key c.args.value (joined (joined c.args.self.now.pile.blocks)) c.args.self.now.sorted);
  filled = c.put_pair.ensures.filled;
}

pub returns-clause-entries : goal.returns-clause-entries
returns-clause-entries g c = c.put_pair.ensures.items ∙ sym (put_at g.met.K.Ordered.total (joined (joined c.args.self.now.pile.blocks)) _ c.args.key c.args.value c.requires.belongs)
