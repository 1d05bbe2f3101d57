use Rattle.std.proofs.Common.{◌≡◌, ◌∙◌, ℕ, suc, ◌<◌, ◌≤◌, ◌+◌, ◌-◌, length, get_or, map, take, drop, slice_get, slice_set, position, Option, Some, None, Bool, true, false, List, [], ◌∷◌, ◌++◌, ap, sym, refl, subst, add-one, arith}
use Rattle.connection_queues.proofs.StepLemmas.{put_there}
use Rattle.connection_queues.proofs.admitting.put_name.Goals as goal

pub returns-clause-stored : goal.returns-clause-stored
returns-clause-stored c = c.in_ok-insert.ensures.items ∙ rw (c.name_gap-place.ensures.place, c.as_str.ensures.value, c.name.ensures, c.deref.ensures.value) (sym (put_there c.args.n c.args.names.now.items))
