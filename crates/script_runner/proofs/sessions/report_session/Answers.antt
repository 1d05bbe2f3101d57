use Rattle.std.proofs.Common.{inr}
use Rattle.script_runner.proofs.Running.{ran_unreported}
use Rattle.script_runner.proofs.sessions.report_session.Goals as goal

pub returns-clause-stops : goal.returns-clause-stops
returns-clause-stops g c = inr (ran_unreported c.interruption_laws.ensures.whole _ _ _ _ _ (rw c.in-Ok.is at c.run_on-ran.ensures.runs))
