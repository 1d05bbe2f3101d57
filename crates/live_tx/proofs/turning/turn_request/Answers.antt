use Rattle.std.proofs.Common.{sym, subst}
use Rattle.list_machine.specs.Seeing.{pulled_reacts, pulled_writes}
use Rattle.entry_runs.specs.Courses.{state_with}
use Rattle.live_tx.specs.declared.next.Next.TheVariants as next
use Rattle.live_tx.specs.Turning.{FirstCame}
use Rattle.live_tx.proofs.Steps.{numbered, taken_attended, taken_own, taken_fit, request_turn, request_stops}
use Rattle.live_tx.proofs.turning.turn_request.Goals as goal

pub answer-requires-clause-numbered : goal.answer-requires-clause-numbered
answer-requires-clause-numbered g c ks within = numbered c.args.front.now.waiting c.in-Some.entry next.Request c.requires.first (λ e. cc) (sym c.in-Some.ensures.taken)

pub answer-requires-clause-attended : goal.answer-requires-clause-attended
answer-requires-clause-attended g c ks within = taken_attended (state_with c.args.front.now c.args.course.now) c.take_first.new.self c.in-Some.entry c.requires.ready (sym c.in-Some.ensures.taken) c.take_first.ensures.left

pub answer-requires-clause-own : goal.answer-requires-clause-own
answer-requires-clause-own g c ks within = taken_own (state_with c.args.front.now c.args.course.now) c.take_first.new.self c.in-Some.entry c.requires.ready (sym c.in-Some.ensures.taken) c.take_first.ensures.left

pub answer-requires-clause-fit : goal.answer-requires-clause-fit
answer-requires-clause-fit g c ks within = (taken_fit (state_with c.args.front.now c.args.course.now) c.take_first.new.self c.in-Some.entry c.requires.ready (sym c.in-Some.ensures.taken) c.take_first.ensures.left).0

pub returns-in-Some-clause-turned : goal.returns-in-Some-clause-turned
returns-in-Some-clause-turned g c whole = request_turn
    (pulled_reacts g.H.Handler.plain g.H.Handler.reacts) (pulled_writes g.H.Handler.plain g.H.Handler.writes)
    c.args.front.now c.answer.new.front c.args.course.now c.request_first.new.course c.answer.new.course c.answer.result
    (g.H.Handler.lines c.args.notes.now) (g.H.Handler.lines c.answer.new.notes) c.args.told.now c.answer.new.told c.requires.goes_on
    c.take_first.new.self c.in-Some.entry c.in-Ok-Some.event (subst (λ o. FirstCame (state_with c.args.front.now c.args.course.now) o c.request_first.new.course) c.in-Ok-Some.field-0-is c.in-Ok-Some.ensures.came) (sym c.in-Some.ensures.taken) c.take_first.ensures.left (c.answer.ensures.answered whole)

pub returns-in-Ok-None-clause-turned : goal.returns-in-Ok-None-clause-turned
returns-in-Ok-None-clause-turned g c whole = request_stops
    (pulled_reacts g.H.Handler.plain g.H.Handler.reacts) (pulled_writes g.H.Handler.plain g.H.Handler.writes)
    c.args.front.now c.abort_turn.new.front c.args.course.now c.request_first.new.course c.abort_turn.new.course c.abort_turn.result
    (g.H.Handler.lines c.args.notes.now) (g.H.Handler.lines c.abort_turn.new.notes) c.args.told.now c.abort_turn.new.told c.requires.goes_on
    (subst (λ o. FirstCame (state_with c.args.front.now c.args.course.now) o c.request_first.new.course) c.in-Ok-None.field-0-is c.in-Ok-None.ensures.came) (c.abort_turn.ensures.step whole) c.abort_turn.ensures.course (c.abort_turn.ensures.told whole)
