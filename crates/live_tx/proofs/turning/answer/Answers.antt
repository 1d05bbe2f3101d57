use Rattle.std.proofs.Common.{◌≡◌, Some, None, refl, sym, ◌∙◌, ap}
use Rattle.list_machine.specs.Machine.{verdict}
use Rattle.list_machine.specs.Seeing.{pulled_reacts, pulled_writes}
use Rattle.placed_calls.proofs.Laws.{handled_fit}
use Rattle.live_tx.proofs.Turns.{answer_on}
use Rattle.live_tx.proofs.turning.answer.Goals as goal

pub returns-in-None : goal.returns-in-None
returns-in-None g c =
    let handled = c.handle.ensures.handled c.in_default.not-NoMemory in
    let on : verdict c.handle.new.front.phase c.args.event c.handle.result ≡ None =
    let same = c.in_default.how-is in
    let phase = c.phase.ensures in
    let after = c.verdict-after.ensures in
    let is = c.in-None.is in
    cc
    in
    record {
      answered = λ whole. answer_on (pulled_reacts g.H.Handler.plain g.H.Handler.reacts) (pulled_writes g.H.Handler.plain g.H.Handler.writes)
          c.args.front.now c.handle.new.front c.args.course.now c.args.entry c.args.event c.handle.result
          (g.H.Handler.lines c.args.notes.now) (g.H.Handler.lines c.handle.new.notes) c.args.told.now c.push.new.self
          handled on c.in-Ok.ensures.stored;
      attended = λ did. c.handle.ensures.attended;
      fit = λ did. handled_fit (pulled_reacts g.H.Handler.plain g.H.Handler.reacts) (pulled_writes g.H.Handler.plain g.H.Handler.writes)
          c.args.front.now c.args.entry c.args.event c.handle.new.front c.handle.result handled.0 handled.1 c.requires.fit;
      before = refl;
    }
