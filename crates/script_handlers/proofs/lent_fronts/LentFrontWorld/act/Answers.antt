use Rattle.request_lists.specs.Placing.{Stays}
use Rattle.script_handlers.proofs.lent_fronts.LentFrontWorld.act.Goals as goal

pub returns-in_err-ask-clause-moves : goal.returns-in_err-ask-clause-moves
returns-in_err-ask-clause-moves c = Stays
