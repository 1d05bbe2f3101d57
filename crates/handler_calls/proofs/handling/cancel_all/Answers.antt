use Rattle.std.proofs.Common.{sym}
use Rattle.list_machine.specs.Seeing.{pulled_reacts, pulled_writes}
use Rattle.handler_calls.proofs.Telling.{told_to_end, noted_to_end}
use Rattle.handler_calls.proofs.handling.cancel_all.Goals as goal

pub returns-clause-told : goal.returns-clause-told
returns-clause-told g c = told_to_end
    (pulled_reacts g.H.Handler.plain g.H.Handler.reacts) (pulled_writes g.H.Handler.plain g.H.Handler.writes)
    c.args.front.now c.loop-entry.front c.take_first.new.self (g.H.Handler.lines c.args.notes.now) (g.H.Handler.lines c.loop-entry.notes)
    c.take_first.ensures.left (sym c.in_default.ensures.taken) c.loop-entry.invariant.told

pub returns-clause-noted : goal.returns-clause-noted
returns-clause-noted g c = noted_to_end c.loop-entry.front c.loop-entry.told _ (sym c.in_default.ensures.taken) c.loop-entry.invariant.noted
