use Rattle.std.proofs.Common.{◌≡◌, ◌∙◌, ℕ, suc, ◌<◌, ◌≤◌, ◌+◌, length, get_or, map, take, drop, slice_get, position, Option, Some, None, Bool, true, false, List, [], ◌∷◌, ◌++◌, ap, sym, refl, subst, add-one, arith}
use Rattle.name_queues.specs.Names.{is_unheard}
use Rattle.name_queues.proofs.Lists.{any_at, any_past}
use Rattle.name_queues.proofs.turns.has_unheard.Goals as goal

pub returns-then-is_unheard : goal.returns-then-is_unheard
returns-then-is_unheard c = sym (any_at is_unheard c.args.traffic.now.conns c.loop-place.place c.entry.result c.entry.ensures (sym c.is_unheard.ensures ∙ c.if-is_unheard.true)) ∙ c.loop-place.invariant

pub loop-place-preserved : goal.loop-place-preserved
loop-place-preserved c = rw (add-one c.loop-place.place) (sym (any_past is_unheard c.args.traffic.now.conns c.loop-place.place c.entry.result c.entry.ensures (sym c.is_unheard.ensures ∙ c.if-is_unheard.false)) ∙ c.loop-place.invariant)
