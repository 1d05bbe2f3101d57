use Rattle.list_machine.specs.Seeing.{pulled_reacts, pulled_writes}
use Rattle.machine_laws.specs.Limiting.{WithinLimits}
use Rattle.loggable_changes.proofs.Turns.{opening_loggable, turn_loggable, kept_along, run_loggable, few_enough}
use Rattle.loggable_changes.proofs.laws_of_turns.logging_laws.Goals as goal

pub returns-clause-fresh : goal.returns-clause-fresh
returns-clause-fresh g c front schema before fits = opening_loggable front.mode schema fits

pub returns-clause-turn : goal.returns-clause-turn
returns-clause-turn g c old new step lines t is sound after logged = turn_loggable g.H.Handler.reacts g.H.Handler.writes old new step lines t is sound after logged

pub returns-clause-turn_here : goal.returns-clause-turn_here
returns-clause-turn_here g c old new step lines t is sound after logged =
    turn_loggable (pulled_reacts g.H.Handler.plain g.H.Handler.reacts) (pulled_writes g.H.Handler.plain g.H.Handler.writes) old new step lines t is sound after logged

pub returns-clause-run : goal.returns-clause-run
returns-clause-run g c old new lines goes is within sound logged =
    let reacts = g.H.Handler.reacts in
    let writes = g.H.Handler.writes in (
      run_loggable reacts writes old c.state_laws.ensures.turn sound new lines goes is logged,
      few_enough new.changes (kept_along reacts writes old WithinLimits c.limit_laws.ensures.turn new lines goes within).changes,
    )
