use Rattle.std.proofs.Common.{sym, arith}
use Rattle.sorted_table.proofs.Rising.{has_read}
use Rattle.sorted_table.proofs.Costs.{one_more}
use Rattle.sorted_table.proofs.Values.{past_last}
use Rattle.sorted_table.proofs.halving.place_in.Goals as goal

pub returns-in-Less-clause-cost : goal.returns-in-Less-clause-cost
returns-in-Less-clause-cost g c = one_more _ _ _ _ c.compared.ensures.counted c.place_before.ensures.counted c.place_before.ensures.cost (omega arith)

pub returns-in-Greater-clause-absent : goal.returns-in-Greater-clause-absent
returns-in-Greater-clause-absent g c = past_last g.met.K.Ordered.total _ _ _ c.requires (omega arith) (sym c.in-Greater.ensures.value)

pub returns-in-Equal-clause-found : goal.returns-in-Equal-clause-found
returns-in-Equal-clause-found g c = has_read g.met.K.Ordered.total g.met.K.Ordered.same _ _ _ _ c.requires (omega arith) (sym c.in-Equal.ensures.value)
