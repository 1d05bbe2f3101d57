use Rattle.std.proofs.Common.{subst}
use Rattle.live_stores.specs.Slots.{slot_now, IsNamedIf}
use Rattle.live_stores.proofs.changing.run_here.Goals as goal

pub returns-in-Stood-clause-named : goal.returns-in-Stood-clause-named
returns-in-Stood-clause-named g c = λ name h. c.run_held.ensures.named name (subst (λ s. IsNamedIf name (slot_now s)) c.in-Stood.is h)

pub returns-in-Made-clause-named : goal.returns-in-Made-clause-named
returns-in-Made-clause-named g c = λ name h. c.run_held-in-Made.ensures.named name (subst (λ s. IsNamedIf name (slot_now s)) c.in-Made.is h)

pub returns-in-Replaced-clause-named : goal.returns-in-Replaced-clause-named
returns-in-Replaced-clause-named g c = λ name h. c.run_held-in-Replaced.ensures.named name (subst (λ s. IsNamedIf name (slot_now s)) c.in-Replaced.is h)
