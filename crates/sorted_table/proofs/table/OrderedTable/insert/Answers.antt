use Rattle.sorted_table.proofs.Places.{has_not_lacks}
use Rattle.sorted_table.proofs.table.OrderedTable.insert.Goals as goal

-- a key that has an entry is found, and this one isn't
pub unreachable-requires : goal.unreachable-requires
unreachable-requires g c = has_not_lacks g.met.K.Ordered.total _ _ _ c.in-Ok.ensures.found c.requires.absent
