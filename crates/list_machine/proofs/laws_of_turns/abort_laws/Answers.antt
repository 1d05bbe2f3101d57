use Rattle.list_machine.specs.declared.steps.Step.TheVariants.{Aborted}
use Rattle.list_machine.proofs.Aborting.{abort_leaves, turn_ends, goes_keeps, run_aborted}
use Rattle.list_machine.proofs.laws_of_turns.abort_laws.Goals as goal

pub returns-clause-turn : goal.returns-clause-turn
returns-clause-turn g c old new error lines t =
    let ends = turn_ends g.H.Handler.reacts g.H.Handler.writes old (Aborted error) new lines t in
    (ends.1.database, ends.1.changes)

pub returns-clause-run : goal.returns-clause-run
returns-clause-run g c old last error lines r =
    let ends = run_aborted g.H.Handler.reacts g.H.Handler.writes old last error lines r in
    (ends.database, ends.changes)

pub returns-clause-before : goal.returns-clause-before
returns-clause-before g c old new lines t =
    let keeps = goes_keeps g.H.Handler.reacts g.H.Handler.writes old new lines t in
    (keeps.before, keeps.name)

pub returns-clause-at_once : goal.returns-clause-at_once
returns-clause-at_once g c old new error lines a =
    let ends = abort_leaves g.H.Handler.reacts g.H.Handler.writes old error new lines a in
    (ends.1.database, ends.1.changes)
