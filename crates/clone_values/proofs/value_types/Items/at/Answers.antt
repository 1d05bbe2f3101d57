use Rattle.clone_values.specs.View.{tree_of}
use Rattle.clone_values.proofs.Places.{stands_from_got}
use Rattle.clone_values.proofs.value_types.Items.at.Goals as goal

pub returns-clause-stands : goal.returns-clause-stands
returns-clause-stands c = stands_from_got tree_of _ _ _ _ _ c.self.view_is c.slice.ensures c.get.ensures.lookup.3 c.get.ensures.lookup.1
