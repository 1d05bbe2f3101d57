use Rattle.request_lists.specs.Placing.{Stays}
use Rattle.script_handlers.proofs.Fronts.{placed_did, place_refused}
use Rattle.script_handlers.proofs.lent_fronts.LentFront.fulfil.Goals as goal

pub returns-in_err-handler-in-Places-clause-moves :
    goal.returns-in_err-handler-in-Places-clause-moves
returns-in_err-handler-in-Places-clause-moves c = Stays

pub returns-in-Ok-clause-did : goal.returns-in-Ok-clause-did
returns-in-Ok-clause-did c = rw c.in-Places.is (placed_did c.args.self.now _ _ _ _ _ _ _ c.in-Ok.ensures.taken c.in-Ok.ensures.placed c.in_ok-handler-in-Places.ensures)

pub returns-in_ok-name_of-in-Err-clause-did : goal.returns-in_ok-name_of-in-Err-clause-did
returns-in_ok-name_of-in-Err-clause-did c = rw c.in-Places.is (place_refused c.args.self.now _ _ _ c.in-Places.call c.args.env.now c.in-Places.success c.in-Places.error c.in-Places.opens c.in_ok-name_of-in-Err.ensures c.in-Err.ensures.refused c.in-Err.ensures.unchanged)

pub returns-in-Prevents-clause-moves : goal.returns-in-Prevents-clause-moves
returns-in-Prevents-clause-moves c = Stays

pub returns-in-Refused-clause-moves : goal.returns-in-Refused-clause-moves
returns-in-Refused-clause-moves c = Stays
