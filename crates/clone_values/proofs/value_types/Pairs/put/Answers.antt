use Rattle.clone_values.specs.View.{pair_of}
use Rattle.clone_values.proofs.Places.{map_replaced, replaced_within}
use Rattle.clone_values.proofs.value_types.Pairs.put.Goals as goal

pub invariant_of-self : goal.invariant_of-self
invariant_of-self c = replaced_within pair_of c.replace_held.result _ _ _ _ c.self.invariant c.replace_held.ensures.replaced c.replace_held.ensures.unchanged

pub returns-in-Some-clause-stored : goal.returns-in-Some-clause-stored
returns-in-Some-clause-stored c = rw (← c.in-Some.ensures.place, ← c.self.view_is) (map_replaced pair_of c.replace_held.result _ _ _ _ c.replace_held.ensures.replaced)
