use Rattle.std.proofs.Common.{sym}
use Rattle.list_machine.specs.Seeing.{pulled_reacts, pulled_writes}
use Rattle.handler_calls.proofs.Telling.{told_of, told_nobody, returned_whole, threw_whole, noted_none}
use Rattle.handler_calls.proofs.handling.tell.Goals as goal

pub returns-in-Returned-clause-told : goal.returns-in-Returned-clause-told
returns-in-Returned-clause-told g c = told_of
    (pulled_reacts g.H.Handler.plain g.H.Handler.reacts) (pulled_writes g.H.Handler.plain g.H.Handler.writes)
    c.args.entry c.in-Some.request c.args.front.now c.handle.new.front _ (g.H.Handler.lines c.args.notes.now) (g.H.Handler.lines c.handle.new.notes)
    c.requires.finished (sym c.in-Some.ensures) (c.in-Returned.ensures.handled (returned_whole c.in-Returned.prevented))

pub returns-in-Threw-clause-told : goal.returns-in-Threw-clause-told
returns-in-Threw-clause-told g c = told_of
    (pulled_reacts g.H.Handler.plain g.H.Handler.reacts) (pulled_writes g.H.Handler.plain g.H.Handler.writes)
    c.args.entry c.in-Some.request c.args.front.now c.handle.new.front _ (g.H.Handler.lines c.args.notes.now) (g.H.Handler.lines c.handle.new.notes)
    c.requires.finished (sym c.in-Some.ensures) (c.in-Threw.ensures.handled threw_whole)

pub returns-clause-told : goal.returns-clause-told
returns-clause-told g c = told_nobody
    (pulled_reacts g.H.Handler.plain g.H.Handler.reacts) (pulled_writes g.H.Handler.plain g.H.Handler.writes)
    c.args.entry c.args.front.now (g.H.Handler.lines c.args.notes.now) (sym c.in-None.ensures) c.requires.finished

pub returns-clause-noted : goal.returns-clause-noted
returns-clause-noted g c = noted_none c.args.entry c.args.told.now (sym c.in-None.ensures)
