use Rattle.std.proofs.Common.{◌≡◌, inr, refl, ap, subst, sym, ◌∙◌}
use Rattle.session_books.specs.States.{SessionBookState}
use Rattle.office_moves.specs.Scenes.{done_of_book}
use Rattle.session_driver.specs.Reporting.{report_told}
use Rattle.session_driver.proofs.Ends.{reports_on, risen, stops_on, fault_ends}
use Rattle.session_driver.proofs.Stopping.{stopped_driving}
use Rattle.session_driver.proofs.driver.run_session.Goals as goal

pub returns-in-Ok-told-clause-reports : goal.returns-in-Ok-told-clause-reports
returns-in-Ok-told-clause-reports g c =
    let book = c.open_and_run-ran.new.book in
    let ends = c.in-Ok.ensures.ends in
    let seats = c.in-Ok.ran.seats.items in
    reports_on c.under_way_laws.ensures.legal c.args.session c.args.number c.in-Ok.ran.desk seats (done_of_book book) ends.0 c.in-Ok.ran.opening c.in-Ok-told.report c.args.opened.items book.end (g.D.Disk.shows c.into_parts-disk.result.0)
    ends.1 c.in-Ok.ensures.lines
    (c.in-Ok-told.ensures
    ∙ ap (λ ns. report_told c.in-Ok.ran.desk seats c.in-Ok.ran.opening ns c.into_parts-disk.result.2 c.args.number c.in-Ok.ran.end) c.into_parts-disk.ensures.finished
    ∙ ap (λ ns. report_told c.in-Ok.ran.desk seats c.in-Ok.ran.opening book.finished ns c.args.number c.in-Ok.ran.end) c.into_parts-disk.ensures.committed
    ∙ ap (report_told c.in-Ok.ran.desk seats c.in-Ok.ran.opening book.finished _ c.args.number) c.in-Ok.ensures.end)
    (c.open_and_run-ran.ensures.goes.opening ∙ ap (λ (b : SessionBookState g.row.D.Denot). b.opening) c.new-book.ensures.book) c.into_parts-disk.ensures.cause c.into_parts-disk.ensures.images

pub returns-in-Err-told-clause-stops : goal.returns-in-Err-told-clause-stops
returns-in-Err-told-clause-stops g c =
    let book = c.open_and_run-ran.new.book in
    let ends = c.in-Ok.ensures.ends in
    stops_on c.args.session (done_of_book book) book.end _ (g.D.Disk.shows c.into_parts-disk.result.0) c.args.opened.items
    (c.open_and_run-ran.ensures.goes.opening ∙ ap (λ (b : SessionBookState g.row.D.Denot). b.opening) c.new-book.ensures.book)
    (inr (stopped_driving c.interruption_laws.ensures.between c.args.session c.in-Ok.ran.desk c.in-Ok.ran.seats.items (done_of_book book) ends.0 ends.1.driving)) c.into_parts-disk.ensures.cause
    (risen (g.D.Disk.shows) _ _ book c.into_parts-disk.result.0 c.new-book.ensures.book refl c.open_and_run-ran.ensures.goes c.into_parts-disk.ensures.disk) c.into_parts-disk.ensures.images

pub returns-in-Err-clause-stops : goal.returns-in-Err-clause-stops
returns-in-Err-clause-stops g c =
    let book = c.open_and_run-ran.new.book in
    stops_on c.args.session (done_of_book book) book.end _ (g.D.Disk.shows c.into_parts-disk.result.0) c.args.opened.items
    (c.open_and_run-ran.ensures.goes.opening ∙ ap (λ (b : SessionBookState g.row.D.Denot). b.opening) c.new-book.ensures.book)
    c.in-Err.ensures.stops c.into_parts-disk.ensures.cause
    (risen (g.D.Disk.shows) _ _ book c.into_parts-disk.result.0 c.new-book.ensures.book refl c.open_and_run-ran.ensures.goes c.into_parts-disk.ensures.disk) c.into_parts-disk.ensures.images
