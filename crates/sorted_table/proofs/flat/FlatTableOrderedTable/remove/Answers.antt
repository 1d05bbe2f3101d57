use Rattle.std.proofs.Common.{refl}
use Rattle.std.proofs.lemmas.Option.{slice_get_read}
use Rattle.sorted_table.proofs.Rising.{sorted_remove}
use Rattle.sorted_table.proofs.flat.FlatTableOrderedTable.remove.Goals as goal

pub invariant_of-self : goal.invariant_of-self
invariant_of-self g c = record { sorted = rw c.remove.ensures.items (sorted_remove g.K.Ordered.order c.args.self.now.rows.items c.args.place c.args.self.now.sorted) }

pub returns-clause-taken : goal.returns-clause-taken
returns-clause-taken g c = slice_get_read _ _ _ _ refl c.requires c.remove.ensures.value
