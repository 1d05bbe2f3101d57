use Rattle.client_ties.proofs.Effects.{sound_run}
use Rattle.client_ties.proofs.Stepping.{tied_fresh, tied_step, step_number, tied_other, tied_none, tied_least}
use Rattle.client_ties.proofs.laws_of_ties.tie_laws.Goals as goal

pub returns-clause-fresh : goal.returns-clause-fresh
returns-clause-fresh c = tied_fresh

pub returns-clause-own : goal.returns-clause-own
returns-clause-own c = tied_step (sound_run c.desk_laws.ensures.numbers)

pub returns-clause-number : goal.returns-clause-number
returns-clause-number c = step_number (sound_run c.desk_laws.ensures.numbers)

pub returns-clause-others : goal.returns-clause-others
returns-clause-others c = tied_other (sound_run c.desk_laws.ensures.numbers)

pub returns-clause-listed : goal.returns-clause-listed
returns-clause-listed c r run = (sound_run c.desk_laws.ensures.numbers r run).same

pub returns-clause-none : goal.returns-clause-none
returns-clause-none c = tied_none (sound_run c.desk_laws.ensures.numbers)

pub returns-clause-least : goal.returns-clause-least
returns-clause-least c r client number t run least at own tied =
    let h = tied_least (sound_run c.desk_laws.ensures.numbers) r client number t run least at own tied in
    (h.tx, h.found, h.stage_is)
