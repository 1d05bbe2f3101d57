use Rattle.std.proofs.Common.{inl, inr, List, Some, None, refl, sym, ap, ◌∙◌, subst, []}
use Rattle.idb_base.specs.Lists.{IsWithinLimit}
use Rattle.idb_calls.specs.Deltas.{DeltaTree}
use Rattle.loggable_changes.specs.Logging.{AreLoggable}
use Rattle.item_changes.specs.Items.{Name}
use Rattle.serial_order.specs.FinishEntries.{Deletion}
use Rattle.session_databases.specs.Parts.{AreSoundDatabases}
use Rattle.session_txs.specs.Running.{IsDeletionTrace}
use Rattle.office_scenes.specs.Running.{begun_run}
use Rattle.log_history.specs.Kept.{with_doubt}
use Rattle.office_scenes.specs.Scenes.{done_of_book}
use Rattle.office_scenes.proofs.Laws.{there_at, works_on}
use Rattle.office_moves.proofs.Turning.{loggable_so}
use Rattle.office_moves.proofs.AtEnd.{timed_here, deletion_runs, deletion_left, allowed_so, enters_so, stands_so, doubts_so}
use Rattle.session_books.specs.States.{SessionBookState}
use Rattle.office_moves.proofs.AtEnd.{stops_standing, stops_in_doubt}
use Rattle.office_moves.proofs.Telling.{tells_still}
use Rattle.office_moves.proofs.Telling.{at_err}
use Rattle.office_moves.proofs.settling.settle_deletion.Goals as goal

pub enter-requires-clause-applies : goal.enter-requires-clause-applies
enter-requires-clause-applies g c κs within =
    let t = begun_run c.args.number (Deletion c.args.name) in
    let items = c.args.databases.now in
    let office = c.args.office.now in
    let done = done_of_book c.args.book.now in
    let there = there_at c.showing_laws.ensures.exists (Some t) office c.args.notes.now done items c.args.number c.args.name c.requires.on c.requires.holds in
    let runs = deletion_runs c.args.number c.args.name c.in_ok-trace.trace c.timed-trace.result office items (subst (λ (n : Name). IsDeletionTrace c.args.number n c.in_ok-trace.trace) c.in_ok-named.ensures c.in_ok-trace.ensures) (timed_here office c.desk.result.now c.timed-trace.result c.in_ok-trace.trace c.desk.ensures c.timed-trace.ensures) there in
    let left = deletion_left c.args.number c.args.name c.in_ok-trace.trace c.timed-trace.result office.run.order items (subst (λ (n : Name). IsDeletionTrace c.args.number n c.in_ok-trace.trace) c.in_ok-named.ensures c.in_ok-trace.ensures) (timed_here office c.desk.result.now c.timed-trace.result c.in_ok-trace.trace c.desk.ensures c.timed-trace.ensures) in
    let sound = subst AreSoundDatabases (sym left) (c.part_laws.ensures.sound_without items c.args.name c.stores_are_sound.ensures) in
    enters_so t items office c.timed-trace.result None runs (record { limits = c.limit_laws.ensures.items; one_record = c.resting_laws.ensures.logged; one_commit = c.resting_laws.ensures.one_commit_more; applies = c.applying_laws.ensures.applies; within = c.serial_laws.ensures.within }) c.limit_laws.ensures.left c.telling_laws.ensures.finishes c.resting_laws.ensures.unbroken
    c.args.notes.now done c.args.number refl c.requires.on c.requires.holds.held tt sound

pub enter-requires-clause-loggable : goal.enter-requires-clause-loggable
enter-requires-clause-loggable g c κs within = λ commit. loggable_so c.in_ok-trace.trace c.timed-trace.result _ c.timed-trace.ensures commit
    (λ _. subst (λ (ds : List DeltaTree). AreLoggable ds × IsWithinLimit ds) (sym c.in_ok-trace.ensures.changes) (c.loggable_change_laws.ensures.deletion c.in_ok-named.named))

pub finish_tx-requires-clause-allowed : goal.finish_tx-requires-clause-allowed
finish_tx-requires-clause-allowed g c =
    let t = begun_run c.args.number (Deletion c.args.name) in
    let items = c.args.databases.now in
    let office = c.args.office.now in
    let done = done_of_book c.args.book.now in
    let there = there_at c.showing_laws.ensures.exists (Some t) office c.args.notes.now done items c.args.number c.args.name c.requires.on c.requires.holds in
    let runs = deletion_runs c.args.number c.args.name c.in_ok-trace.trace c.timed-trace.result office items (subst (λ (n : Name). IsDeletionTrace c.args.number n c.in_ok-trace.trace) c.in_ok-named.ensures c.in_ok-trace.ensures) (timed_here office c.desk.result.now c.timed-trace.result c.in_ok-trace.trace c.desk.ensures c.timed-trace.ensures) there in
    let left = deletion_left c.args.number c.args.name c.in_ok-trace.trace c.timed-trace.result office.run.order items (subst (λ (n : Name). IsDeletionTrace c.args.number n c.in_ok-trace.trace) c.in_ok-named.ensures c.in_ok-trace.ensures) (timed_here office c.desk.result.now c.timed-trace.result c.in_ok-trace.trace c.desk.ensures c.timed-trace.ensures) in
    let sound = subst AreSoundDatabases (sym left) (c.part_laws.ensures.sound_without items c.args.name c.stores_are_sound.ensures) in
    allowed_so t items office c.timed-trace.result None runs c.telling_laws.ensures.finishes c.args.notes.now done c.args.number refl c.requires.on c.requires.holds.held

pub doubt_tx-requires-clause-at : goal.doubt_tx-requires-clause-at
doubt_tx-requires-clause-at g c = (begun_run c.args.number (Deletion c.args.name), (refl, works_on _ c.args.office.now c.args.notes.now (done_of_book c.args.book.now) c.args.databases.now c.requires.on))

pub returns-clause-leads : goal.returns-clause-leads
returns-clause-leads g c =
    let t = begun_run c.args.number (Deletion c.args.name) in
    let items = c.args.databases.now in
    let office = c.args.office.now in
    let done = done_of_book c.args.book.now in
    let there = there_at c.showing_laws.ensures.exists (Some t) office c.args.notes.now done items c.args.number c.args.name c.requires.on c.requires.holds in
    let runs = deletion_runs c.args.number c.args.name c.in_ok-trace.trace c.timed-trace.result office items (subst (λ (n : Name). IsDeletionTrace c.args.number n c.in_ok-trace.trace) c.in_ok-named.ensures c.in_ok-trace.ensures) (timed_here office c.desk.result.now c.timed-trace.result c.in_ok-trace.trace c.desk.ensures c.timed-trace.ensures) there in
    let left = deletion_left c.args.number c.args.name c.in_ok-trace.trace c.timed-trace.result office.run.order items (subst (λ (n : Name). IsDeletionTrace c.args.number n c.in_ok-trace.trace) c.in_ok-named.ensures c.in_ok-trace.ensures) (timed_here office c.desk.result.now c.timed-trace.result c.in_ok-trace.trace c.desk.ensures c.timed-trace.ensures) in
    let sound = subst AreSoundDatabases (sym left) (c.part_laws.ensures.sound_without items c.args.name c.stores_are_sound.ensures) in
    stands_so t items office c.timed-trace.result None runs c.resting_laws.ensures.unbroken c.args.notes.now c.finish_tx.new.notes done (done_of_book c.enter.new.book) c.args.number c.finish_tx.new.office c.delete_database.new.databases refl
    c.in_ok-finish_tx.ensures sound (c.in_ok-stands.ensures.stands c.if-not-stands.false) (c.in_ok-delete_database.ensures ∙ sym left)

pub returns-then-not-stands-clause-leads : goal.returns-then-not-stands-clause-leads
returns-then-not-stands-clause-leads g c =
    let t = begun_run c.args.number (Deletion c.args.name) in
    let items = c.args.databases.now in
    let office = c.args.office.now in
    let done = done_of_book c.args.book.now in
    let there = there_at c.showing_laws.ensures.exists (Some t) office c.args.notes.now done items c.args.number c.args.name c.requires.on c.requires.holds in
    let runs = deletion_runs c.args.number c.args.name c.in_ok-trace.trace c.timed-trace.result office items (subst (λ (n : Name). IsDeletionTrace c.args.number n c.in_ok-trace.trace) c.in_ok-named.ensures c.in_ok-trace.ensures) (timed_here office c.desk.result.now c.timed-trace.result c.in_ok-trace.trace c.desk.ensures c.timed-trace.ensures) there in
    let left = deletion_left c.args.number c.args.name c.in_ok-trace.trace c.timed-trace.result office.run.order items (subst (λ (n : Name). IsDeletionTrace c.args.number n c.in_ok-trace.trace) c.in_ok-named.ensures c.in_ok-trace.ensures) (timed_here office c.desk.result.now c.timed-trace.result c.in_ok-trace.trace c.desk.ensures c.timed-trace.ensures) in
    let sound = subst AreSoundDatabases (sym left) (c.part_laws.ensures.sound_without items c.args.name c.stores_are_sound.ensures) in
    doubts_so t items office c.timed-trace.result None runs c.args.notes.now c.doubt_tx.new.notes done (done_of_book c.enter.new.book) c.args.number c.doubt_tx.new.office c.args.databases.now refl
    c.in_ok-doubt_tx.ensures (c.in_ok-stands.ensures.in_doubt c.if-not-stands.true) (ap (with_doubt []) c.requires.runs) (c.in_ok-stands.ensures.doubted c.if-not-stands.true) refl

-- where want of memory stops it

pub returns-in_err-named-clause-stops : goal.returns-in_err-named-clause-stops
returns-in_err-named-clause-stops g c = at_err c.from_residual.result (inl (tells_still (done_of_book c.args.book.now) (done_of_book c.args.book.now) refl))

pub returns-in_err-trace-clause-stops : goal.returns-in_err-trace-clause-stops
returns-in_err-trace-clause-stops g c = at_err c.from_residual-in_err-trace.result (inl (tells_still (done_of_book c.args.book.now) (done_of_book c.args.book.now) refl))

pub returns-in_err-stands-clause-stops : goal.returns-in_err-stands-clause-stops
returns-in_err-stands-clause-stops g c = at_err c.from_residual-in_err-stands.result (inl (tells_still (done_of_book c.args.book.now) (done_of_book c.enter.new.book) (ap (λ (b : SessionBookState _). done_of_book b) c.in_err-stands.ensures.unchanged)))

pub returns-in_err-doubt_tx-clause-stops : goal.returns-in_err-doubt_tx-clause-stops
returns-in_err-doubt_tx-clause-stops g c =
    let t = begun_run c.args.number (Deletion c.args.name) in
    let items = c.args.databases.now in
    let office = c.args.office.now in
    let done = done_of_book c.args.book.now in
    let there = there_at c.showing_laws.ensures.exists (Some t) office c.args.notes.now done items c.args.number c.args.name c.requires.on c.requires.holds in
    let runs = deletion_runs c.args.number c.args.name c.in_ok-trace.trace c.timed-trace.result office items (subst (λ (n : Name). IsDeletionTrace c.args.number n c.in_ok-trace.trace) c.in_ok-named.ensures c.in_ok-trace.ensures) (timed_here office c.desk.result.now c.timed-trace.result c.in_ok-trace.trace c.desk.ensures c.timed-trace.ensures) there in
    at_err c.from_residual-in_err-doubt_tx.result (inr (stops_in_doubt t items office c.timed-trace.result None runs done (done_of_book c.enter.new.book) (c.in_ok-stands.ensures.in_doubt c.if-not-stands.true) (ap (with_doubt []) c.requires.runs) (c.in_ok-stands.ensures.doubted c.if-not-stands.true)))

pub returns-in_err-delete_database-clause-stops : goal.returns-in_err-delete_database-clause-stops
returns-in_err-delete_database-clause-stops g c =
    let t = begun_run c.args.number (Deletion c.args.name) in
    let items = c.args.databases.now in
    let office = c.args.office.now in
    let done = done_of_book c.args.book.now in
    let there = there_at c.showing_laws.ensures.exists (Some t) office c.args.notes.now done items c.args.number c.args.name c.requires.on c.requires.holds in
    let runs = deletion_runs c.args.number c.args.name c.in_ok-trace.trace c.timed-trace.result office items (subst (λ (n : Name). IsDeletionTrace c.args.number n c.in_ok-trace.trace) c.in_ok-named.ensures c.in_ok-trace.ensures) (timed_here office c.desk.result.now c.timed-trace.result c.in_ok-trace.trace c.desk.ensures c.timed-trace.ensures) there in
    at_err c.from_residual-in_err-delete_database.result (inr (stops_standing t items office c.timed-trace.result None runs done (done_of_book c.enter.new.book) (c.in_ok-stands.ensures.stands c.if-not-stands.false)))

pub returns-in_err-finish_tx-clause-stops : goal.returns-in_err-finish_tx-clause-stops
returns-in_err-finish_tx-clause-stops g c =
    let t = begun_run c.args.number (Deletion c.args.name) in
    let items = c.args.databases.now in
    let office = c.args.office.now in
    let done = done_of_book c.args.book.now in
    let there = there_at c.showing_laws.ensures.exists (Some t) office c.args.notes.now done items c.args.number c.args.name c.requires.on c.requires.holds in
    let runs = deletion_runs c.args.number c.args.name c.in_ok-trace.trace c.timed-trace.result office items (subst (λ (n : Name). IsDeletionTrace c.args.number n c.in_ok-trace.trace) c.in_ok-named.ensures c.in_ok-trace.ensures) (timed_here office c.desk.result.now c.timed-trace.result c.in_ok-trace.trace c.desk.ensures c.timed-trace.ensures) there in
    at_err c.from_residual-in_err-finish_tx.result (inr (stops_standing t items office c.timed-trace.result None runs done (done_of_book c.enter.new.book) (c.in_ok-stands.ensures.stands c.if-not-stands.false)))
