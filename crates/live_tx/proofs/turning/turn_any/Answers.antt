use Rattle.std.proofs.Common.{sym, ◌∙◌, ap}
use Rattle.list_machine.specs.Seeing.{pulled_reacts, pulled_writes}
use Rattle.live_tx.specs.Turning.{error_of_phase}
use Rattle.live_tx.proofs.Turns.{turn_aborted}
use Rattle.live_tx.proofs.turning.turn_any.Goals as goal

pub returns-in-Some-clause-turned : goal.returns-in-Some-clause-turned
returns-in-Some-clause-turned g c whole = turn_aborted
    (pulled_reacts g.H.Handler.plain g.H.Handler.reacts) (pulled_writes g.H.Handler.plain g.H.Handler.writes)
    c.args.front.now c.abort_turn.new.front c.args.course.now c.abort_turn.new.course c.abort_turn.result c.in-Some.error
    (g.H.Handler.lines c.args.notes.now) (g.H.Handler.lines c.abort_turn.new.notes) c.args.told.now c.abort_turn.new.told
    (ap error_of_phase (sym c.phase.ensures) ∙ sym c.in-Some.ensures) (c.abort_turn.ensures.step whole) c.abort_turn.ensures.course (c.abort_turn.ensures.told whole)
