use Rattle.std.proofs.Common.{subst}
use Rattle.list_machine.specs.Seeing.{pulled_reacts, pulled_writes}
use Rattle.entry_runs.specs.Courses.{state_with}
use Rattle.live_tx.specs.Turning.{FirstChanged}
use Rattle.live_tx.proofs.Steps.{change_turn, change_stops, changed_attended, changed_fit}
use Rattle.live_tx.proofs.turning.turn_change.Goals as goal

pub returns-in-Ok-None-clause-turned : goal.returns-in-Ok-None-clause-turned
returns-in-Ok-None-clause-turned g c whole = change_turn
    (pulled_reacts g.H.Handler.plain g.H.Handler.reacts) (pulled_writes g.H.Handler.plain g.H.Handler.writes)
    c.args.front.now c.take_first.new.self c.args.course.now c.change_first.new.course (g.H.Handler.lines c.args.notes.now) c.args.told.now
    c.requires.goes_on (subst (λ o. FirstChanged (state_with c.args.front.now c.args.course.now) o c.change_first.new.course) c.in-Ok-None.field-0-is c.in-Ok-None.ensures.came) c.take_first.ensures.left

pub returns-in-Ok-None-clause-attended : goal.returns-in-Ok-None-clause-attended
returns-in-Ok-None-clause-attended g c did = changed_attended
    (pulled_reacts g.H.Handler.plain g.H.Handler.reacts) (pulled_writes g.H.Handler.plain g.H.Handler.writes)
    c.args.front.now c.take_first.new.self c.args.course.now c.change_first.new.course (g.H.Handler.lines c.args.notes.now) c.args.told.now
    c.requires.ready (subst (λ o. FirstChanged (state_with c.args.front.now c.args.course.now) o c.change_first.new.course) c.in-Ok-None.field-0-is c.in-Ok-None.ensures.came) c.take_first.ensures.left

pub returns-in-Ok-None-clause-fit : goal.returns-in-Ok-None-clause-fit
returns-in-Ok-None-clause-fit g c did = changed_fit
    (pulled_reacts g.H.Handler.plain g.H.Handler.reacts) (pulled_writes g.H.Handler.plain g.H.Handler.writes)
    c.args.front.now c.take_first.new.self c.args.course.now c.change_first.new.course (g.H.Handler.lines c.args.notes.now) c.args.told.now
    c.requires.ready (subst (λ o. FirstChanged (state_with c.args.front.now c.args.course.now) o c.change_first.new.course) c.in-Ok-None.field-0-is c.in-Ok-None.ensures.came) c.take_first.ensures.left

pub returns-in-Ok-Some-clause-turned : goal.returns-in-Ok-Some-clause-turned
returns-in-Ok-Some-clause-turned g c whole = change_stops
    (pulled_reacts g.H.Handler.plain g.H.Handler.reacts) (pulled_writes g.H.Handler.plain g.H.Handler.writes)
    c.args.front.now c.abort_turn.new.front c.args.course.now c.change_first.new.course c.abort_turn.new.course c.abort_turn.result
    (g.H.Handler.lines c.args.notes.now) (g.H.Handler.lines c.abort_turn.new.notes) c.args.told.now c.abort_turn.new.told c.requires.goes_on
    c.in-Ok-Some.error (subst (λ o. FirstChanged (state_with c.args.front.now c.args.course.now) o c.change_first.new.course) c.in-Ok-Some.field-0-is c.in-Ok-Some.ensures.came) (c.abort_turn.ensures.step whole) c.abort_turn.ensures.course (c.abort_turn.ensures.told whole)
