use Rattle.std.proofs.Common.{sym, ◌∙◌}
use Rattle.list_machine.specs.Seeing.{pulled_reacts, pulled_writes}
use Rattle.handler_calls.proofs.Laws.{first_is}
use Rattle.entry_runs.specs.Courses.{state_with}
use Rattle.live_tx.specs.declared.next.Next.TheVariants as next
use Rattle.live_tx.proofs.Steps.{kind_first, numbered, taken_attended, taken_own, taken_fit, cursor_turn, cursor_stops}
use Rattle.live_tx.proofs.turning.turn_cursor.Goals as goal

pub turn_taken-requires-clause-kind : goal.turn_taken-requires-clause-kind
turn_taken-requires-clause-kind g c ks within = kind_first c.args.front.now.waiting c.in-Some.entry next.Turn c.requires.first (sym c.in-Some.ensures.taken)

pub turn_taken-requires-clause-attended : goal.turn_taken-requires-clause-attended
turn_taken-requires-clause-attended g c ks within = taken_attended (state_with c.args.front.now c.args.course.now) c.take_first.new.self c.in-Some.entry c.requires.ready (sym c.in-Some.ensures.taken) c.take_first.ensures.left

pub turn_taken-requires-clause-own : goal.turn_taken-requires-clause-own
turn_taken-requires-clause-own g c ks within = taken_own (state_with c.args.front.now c.args.course.now) c.take_first.new.self c.in-Some.entry c.requires.ready (sym c.in-Some.ensures.taken) c.take_first.ensures.left

pub turn_taken-requires-clause-fit : goal.turn_taken-requires-clause-fit
turn_taken-requires-clause-fit g c ks within = taken_fit (state_with c.args.front.now c.args.course.now) c.take_first.new.self c.in-Some.entry c.requires.ready (sym c.in-Some.ensures.taken) c.take_first.ensures.left

pub answer-requires-clause-numbered : goal.answer-requires-clause-numbered
answer-requires-clause-numbered g c ks within = numbered c.args.front.now.waiting c.in-Some.entry next.Turn c.requires.first (λ e. cc) (sym c.in-Some.ensures.taken)

pub returns-in-Ok-clause-turned : goal.returns-in-Ok-clause-turned
returns-in-Ok-clause-turned g c whole = cursor_turn
    (pulled_reacts g.H.Handler.plain g.H.Handler.reacts) (pulled_writes g.H.Handler.plain g.H.Handler.writes)
    c.args.front.now c.answer.new.front c.args.course.now c.turn_taken.new.course c.answer.new.course c.answer.result
    (g.H.Handler.lines c.args.notes.now) (g.H.Handler.lines c.answer.new.notes) c.args.told.now c.answer.new.told c.requires.goes_on
    c.take_first.new.self c.turn_taken.new.front c.in-Some.entry c.in-Ok.event (sym c.in-Some.ensures.taken) (first_is c.args.front.now.waiting c.in-Some.entry (sym c.in-Some.ensures.taken)) c.take_first.ensures.left
    c.in-Ok.ensures.came (c.answer.ensures.answered whole)
