use Rattle.sorted_table.proofs.Values.{sorted_value}
use Rattle.sorted_table.proofs.flat.FlatTableOrderedTable.replace.Goals as goal

pub invariant_of-self : goal.invariant_of-self
invariant_of-self g c = record { sorted = rw c.replace_in.ensures.items (sorted_value g.K.Ordered.order c.args.self.now.rows.items c.args.place c.args.value c.args.self.now.sorted) }
