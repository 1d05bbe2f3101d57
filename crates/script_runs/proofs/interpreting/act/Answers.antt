use Rattle.script_runs.proofs.Steps.{acted, was_refused}
use Rattle.script_runs.proofs.interpreting.act.Goals as goal

pub returns-in_ok-refuse-clause-goes : goal.returns-in_ok-refuse-clause-goes
returns-in_ok-refuse-clause-goes g c = λ depth. was_refused _ _ g.met.W.World.shows _ _ depth _ _ _ _ _ _ _ c.requires (rw c.in-Some.is at c.in_ok-refusal.ensures.did) c.in_ok-refuse.ensures

pub returns-in_default-clause-goes : goal.returns-in_default-clause-goes
returns-in_default-clause-goes g c = λ depth. acted _ _ g.met.W.World.shows _ _ depth _ _ _ _ _ c.requires (rw c.in_default.is at c.in_ok-refusal.ensures.did)
