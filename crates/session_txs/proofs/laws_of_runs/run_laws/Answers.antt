use Rattle.serial_order.specs.SerialRuns.{joined_lines}
use Rattle.script_handlers.specs.Handling.{ScriptReacts, ScriptWrites}
use Rattle.session_txs.specs.Keeping.{begun_state}
use Rattle.session_txs.proofs.Finishing.{goes_on, state_begun, within_as}
use Rattle.session_txs.proofs.laws_of_runs.run_laws.Goals as goal

pub returns : goal.returns
returns c = record {
  made = λ body part new turns placed fits goes. (c.state_laws.ensures.changes (begun_state body part) new (joined_lines turns)
      (goes_on ScriptReacts ScriptWrites (begun_state body part) new turns goes)
      (state_begun body part placed (c.state_laws.ensures.body body.mode body.schema body.names part body.front placed fits.schema fits.shows fits.raised))).2;
  states = λ body part new turns placed fits goes. (c.state_laws.ensures.changes (begun_state body part) new (joined_lines turns)
      (goes_on ScriptReacts ScriptWrites (begun_state body part) new turns goes)
      (state_begun body part placed (c.state_laws.ensures.body body.mode body.schema body.names part body.front placed fits.schema fits.shows fits.raised))).0;
  within = λ body items turns changes kept run. within_as (λ its e alone. c.serial_laws.ensures.within its e alone) body items turns changes kept run;
}
