use Rattle.clone_values.proofs.Laws.{stands_from_got}
use Rattle.idb_calls.specs.View.{delta_of}
use Rattle.idb_calls.proofs.deltas.Deltas.at.Goals as goal

pub returns-clause-stands : goal.returns-clause-stands
returns-clause-stands c = stands_from_got delta_of _ _ _ _ _ c.self.view_is c.deref.ensures.value c.get.ensures.lookup.3 c.get.ensures.lookup.1
