use Rattle.office_scenes.specs.Scenes.{done_of_book}
use Rattle.office_moves.proofs.Unstarted.{noted_leads}
use Rattle.std.proofs.Common.{refl, ap}
use Rattle.session_books.specs.States.{SessionBookState}
use Rattle.office_moves.proofs.Telling.{tells_still}
use Rattle.office_moves.proofs.Telling.{at_err}
use Rattle.office_moves.proofs.dropping.drop_tx.Goals as goal

pub returns-clause-leads : goal.returns-clause-leads
returns-clause-leads g c = λ items. noted_leads c.args.number c.in_ok-trace.trace.number c.args.office.now c.end_tx.new.office c.args.notes.now c.end_tx.new.notes (done_of_book c.args.book.now) (done_of_book c.note.new.book) items
    c.in_ok-trace.ensures.leads c.in_ok-trace.ensures.number c.in_ok-note.ensures.noted

pub returns-in_err-trace-clause-stops : goal.returns-in_err-trace-clause-stops
returns-in_err-trace-clause-stops g c = at_err c.from_residual.result (tells_still (done_of_book c.args.book.now) (done_of_book c.args.book.now) refl)

pub returns-in_err-note-clause-stops : goal.returns-in_err-note-clause-stops
returns-in_err-note-clause-stops g c = at_err c.from_residual-in_err-note.result (tells_still (done_of_book c.args.book.now) (done_of_book c.note.new.book) (ap (λ (b : SessionBookState _). done_of_book b) c.in_err-note.ensures.unchanged))
