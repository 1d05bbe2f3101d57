use Rattle.list_machine.specs.Seeing.{pulled_reacts, pulled_writes}
use Rattle.list_machine.proofs.Laws.{Below}
use Rattle.machine_laws.proofs.Laws.{KeyLaws}
use Rattle.entry_runs.specs.Courses.{state_with}
use Rattle.live_tx.proofs.Stands.{stands_after}
use Rattle.live_tx.proofs.turning.turn.Goals as goal

pub returns-clause-stands : goal.returns-clause-stands
returns-clause-stands g c =
    let below : Below = record { storing_leaves = c.leaving_laws.ensures.storing; deleting_leaves = c.leaving_laws.ensures.deleting; clearing_leaves = c.leaving_laws.ensures.clearing } in
    let laws : KeyLaws = record { formed = c.conversion_laws.ensures.key; shallow = c.conversion_laws.ensures.shallow } in
    stands_after (pulled_reacts g.H.Handler.plain g.H.Handler.reacts) (pulled_writes g.H.Handler.plain g.H.Handler.writes) below laws
    (state_with c.args.front.now c.args.course.now) c.turn_any.result (state_with c.turn_any.new.front c.turn_any.new.course)
    (g.H.Handler.lines c.args.notes.now) (g.H.Handler.lines c.turn_any.new.notes) c.args.told.now c.turn_any.new.told
    c.requires c.turn_any.ensures.turned c.turn_any.ensures.attended c.turn_any.ensures.fit
