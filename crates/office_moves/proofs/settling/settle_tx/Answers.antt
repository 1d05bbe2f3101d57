use Rattle.std.proofs.Common.{inl, inr, ◌∙◌, ap, []}
use Rattle.log_history.specs.Kept.{with_doubt}
use Rattle.office_scenes.specs.Scenes.{DoneNow, done_of_book}
use Rattle.office_scenes.proofs.Laws.{works_on}
use Rattle.office_moves.proofs.AtEnd.{allowed_so, enters_so, stands_so, doubts_so, sound_so, kept_so, taken_so, finished_so}
use Rattle.session_books.specs.States.{SessionBookState}
use Rattle.office_moves.proofs.AtEnd.{stops_standing, stops_in_doubt}
use Rattle.office_moves.proofs.Telling.{tells_still}
use Rattle.office_moves.proofs.Telling.{at_err}
use Rattle.office_moves.proofs.settling.settle_tx.Goals as goal

pub enter-requires-clause-applies : goal.enter-requires-clause-applies
enter-requires-clause-applies g c κs within =
    let t = c.requires.closed.0 in
    let items = c.requires.closed.1.0 in
    let s = c.requires.closed.1.1 in
    let end = c.args.end in
    enters_so t items c.args.office.now end.trace end.kept s.closed.runs (record { limits = c.limit_laws.ensures.items; one_record = c.resting_laws.ensures.logged; one_commit = c.resting_laws.ensures.one_commit_more; applies = c.applying_laws.ensures.applies; within = c.serial_laws.ensures.within }) c.limit_laws.ensures.left c.telling_laws.ensures.finishes c.resting_laws.ensures.unbroken
    c.args.notes.now (done_of_book c.args.book.now) c.args.number s.number_is s.on c.requires.holds c.is_sound.ensures
    (sound_so t items c.args.office.now c.args.databases.now end.trace end.kept end.left s.closed c.stand_sound.ensures)

pub finish_tx-requires-clause-allowed : goal.finish_tx-requires-clause-allowed
finish_tx-requires-clause-allowed g c =
    let s = c.requires.closed.1.1 in
    let end = c.args.end in
    allowed_so c.requires.closed.0 c.requires.closed.1.0 c.args.office.now end.trace end.kept s.closed.runs c.telling_laws.ensures.finishes c.args.notes.now (done_of_book c.args.book.now) c.args.number s.number_is s.on c.requires.holds

pub doubt_tx-requires-clause-at : goal.doubt_tx-requires-clause-at
doubt_tx-requires-clause-at g c =
    let s = c.requires.closed.1.1 in
    (c.requires.closed.0, (s.number_is, works_on _ c.args.office.now c.args.notes.now (done_of_book c.args.book.now) c.requires.closed.1.0 s.on))

pub returns-clause-leads : goal.returns-clause-leads
returns-clause-leads g c = λ t items is closed.
    let end = c.args.end in
    stands_so t items c.args.office.now end.trace end.kept closed.runs c.resting_laws.ensures.unbroken c.args.notes.now c.finish_tx.new.notes (done_of_book c.args.book.now) (done_of_book c.enter.new.book) c.args.number c.finish_tx.new.office c.keep.new.databases is
    c.in_ok-finish_tx.ensures (sound_so t items c.args.office.now c.args.databases.now end.trace end.kept end.left closed c.stand_sound.ensures)
    (c.in_ok-stands.ensures.stands c.if-not-stands.false) (kept_so t items c.args.office.now c.args.databases.now end.trace end.kept end.left closed c.keep.new.databases c.in_ok-keep.ensures)

pub returns-then-not-stands-clause-leads : goal.returns-then-not-stands-clause-leads
returns-then-not-stands-clause-leads g c = λ t items is closed.
    let end = c.args.end in
    doubts_so t items c.args.office.now end.trace end.kept closed.runs c.args.notes.now c.doubt_tx.new.notes (done_of_book c.args.book.now) (done_of_book c.enter.new.book) c.args.number c.doubt_tx.new.office c.take_back.new.databases is
    c.in_ok-doubt_tx.ensures (c.in_ok-stands.ensures.in_doubt c.if-not-stands.true) (ap (with_doubt []) c.requires.runs) (c.in_ok-stands.ensures.doubted c.if-not-stands.true)
    (taken_so t items c.args.office.now c.args.databases.now end.trace end.kept end.left closed c.take_back.new.databases c.in_ok-take_back.ensures)

pub returns-clause-finishes : goal.returns-clause-finishes
returns-clause-finishes g c =
    let s = c.requires.closed.1.1 in
    finished_so (done_of_book c.args.book.now) (done_of_book c.enter.new.book) c.args.number c.args.end.trace.number (s.closed.runs.number_is ∙ s.number_is) (ap (λ (d : DoneNow). d.finish) (c.in_ok-stands.ensures.stands c.if-not-stands.false)) c.in_ok-stands.ensures.few

pub returns-then-not-stands-clause-finishes : goal.returns-then-not-stands-clause-finishes
returns-then-not-stands-clause-finishes g c =
    let s = c.requires.closed.1.1 in
    finished_so (done_of_book c.args.book.now) (done_of_book c.enter.new.book) c.args.number c.args.end.trace.number (s.closed.runs.number_is ∙ s.number_is) (ap (λ (d : DoneNow). d.finish) (c.in_ok-stands.ensures.doubted c.if-not-stands.true)) c.in_ok-stands.ensures.few

-- where want of memory stops it
pub returns-in_err-stands-clause-stops : goal.returns-in_err-stands-clause-stops
returns-in_err-stands-clause-stops g c = λ t items is closed. at_err c.from_residual.result (inl (tells_still (done_of_book c.args.book.now) (done_of_book c.enter.new.book) (ap (λ (b : SessionBookState _). done_of_book b) c.in_err-stands.ensures.unchanged)))

pub returns-in_err-take_back-clause-stops : goal.returns-in_err-take_back-clause-stops
returns-in_err-take_back-clause-stops g c = λ t items is closed. at_err c.from_residual-in_err-take_back.result (inr (stops_in_doubt t items c.args.office.now c.args.end.trace c.args.end.kept closed.runs (done_of_book c.args.book.now) (done_of_book c.enter.new.book)
    (c.in_ok-stands.ensures.in_doubt c.if-not-stands.true) (ap (with_doubt []) c.requires.runs) (c.in_ok-stands.ensures.doubted c.if-not-stands.true)))

pub returns-in_err-doubt_tx-clause-stops : goal.returns-in_err-doubt_tx-clause-stops
returns-in_err-doubt_tx-clause-stops g c = λ t items is closed. at_err c.from_residual-in_err-doubt_tx.result (inr (stops_in_doubt t items c.args.office.now c.args.end.trace c.args.end.kept closed.runs (done_of_book c.args.book.now) (done_of_book c.enter.new.book)
    (c.in_ok-stands.ensures.in_doubt c.if-not-stands.true) (ap (with_doubt []) c.requires.runs) (c.in_ok-stands.ensures.doubted c.if-not-stands.true)))

pub returns-in_err-keep-clause-stops : goal.returns-in_err-keep-clause-stops
returns-in_err-keep-clause-stops g c = λ t items is closed. at_err c.from_residual-in_err-keep.result (inr (stops_standing t items c.args.office.now c.args.end.trace c.args.end.kept closed.runs (done_of_book c.args.book.now) (done_of_book c.enter.new.book)
    (c.in_ok-stands.ensures.stands c.if-not-stands.false)))

pub returns-in_err-finish_tx-clause-stops : goal.returns-in_err-finish_tx-clause-stops
returns-in_err-finish_tx-clause-stops g c = λ t items is closed. at_err c.from_residual-in_err-finish_tx.result (inr (stops_standing t items c.args.office.now c.args.end.trace c.args.end.kept closed.runs (done_of_book c.args.book.now) (done_of_book c.enter.new.book)
    (c.in_ok-stands.ensures.stands c.if-not-stands.false)))
