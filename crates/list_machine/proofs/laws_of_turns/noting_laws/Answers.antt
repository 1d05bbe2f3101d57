use Rattle.list_machine.proofs.Leaving.{Below}
use Rattle.list_machine.proofs.Noting.{turn_noted}
use Rattle.list_machine.proofs.laws_of_turns.noting_laws.Goals as goal

pub returns-clause-turn : goal.returns-clause-turn
returns-clause-turn g c old new lines t noted can =
    let below : Below = record { storing_leaves = c.leaving_laws.ensures.storing; deleting_leaves = c.leaving_laws.ensures.deleting; clearing_leaves = c.leaving_laws.ensures.clearing } in
    turn_noted below g.H.Handler.reacts g.H.Handler.writes old new lines t noted can
