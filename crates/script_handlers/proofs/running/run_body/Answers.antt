use Rattle.request_lists.specs.Placing.{Stays}
use Rattle.script_handlers.proofs.running.run_body.Goals as goal

pub returns-in_err-env-clause-becomes : goal.returns-in_err-env-clause-becomes
returns-in_err-env-clause-becomes c = Stays
