use Rattle.std.proofs.Common.{◌≡◌, ◌∙◌, ℕ, suc, ◌<◌, ◌≤◌, ◌+◌, ◌-◌, length, get_or, map, take, drop, slice_get, slice_set, position, Option, Some, None, Bool, true, false, List, [], ◌∷◌, ◌++◌, ap, sym, refl, subst, add-one, arith}
use Rattle.connection_queues.proofs.StepLemmas.{names_snoc}
use Rattle.connection_queues.proofs.admitting.names_of_schemas.Goals as goal

pub loop-schema-preserved : goal.loop-schema-preserved
loop-schema-preserved c = c.in_ok-put_name.ensures.stored ∙ rw (c.in_ok-n.ensures, c.in_ok-name.ensures, c.name.ensures, c.loop-schema.invariant) (sym (names_snoc [] c.loop-schema.yielded c.in-Some.schema))
