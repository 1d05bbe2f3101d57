use Rattle.std.specs.FinMap.Entries.{is_sorted-put}
use Rattle.sorted_table.proofs.flat.FlatTableOrderedTable.insert_at.Goals as goal

pub invariant_of-self : goal.invariant_of-self
invariant_of-self g c = record { sorted = rw c.put_in.ensures.items (is_sorted-put g.K.Ordered.order g.met.K.Ordered.total c.args.key c.args.value c.args.self.now.rows.items c.args.self.now.sorted) }
