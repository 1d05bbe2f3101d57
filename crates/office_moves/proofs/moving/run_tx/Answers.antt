use Rattle.std.proofs.Common.{Some, None, inl, subst, sym}
use Rattle.serial_order.specs.FinishEntries.{Scripted, Deletion}
use Rattle.client_parts.specs.declared.begun.BegunBody.{BegunBody}
use Rattle.client_parts.specs.Holding.{body_seen}
use Rattle.office_scenes.specs.Offices.{OfficeState}
use Rattle.office_scenes.specs.Running.{begun_run, HoldsBegun}
use Rattle.office_scenes.specs.Scenes.{done_of_book, scene_of, LeadsTo, StandsOn}
use Rattle.office_moves.proofs.Leading.{leads_again}
use Rattle.office_scenes.proofs.Laws.{stands_behind, works_on}
use Rattle.office_moves.proofs.AtEnd.{book_calm, calm_so}
use Rattle.office_moves.proofs.Telling.{tells_run, tells_behind}
use Rattle.office_moves.proofs.Telling.{at_err}
use Rattle.office_moves.proofs.moving.run_tx.Goals as goal

pub run_scripted-requires-clause-on : goal.run_scripted-requires-clause-on
run_scripted-requires-clause-on g c κs within =
    let s = scene_of c.args.office.now c.args.notes.now (done_of_book c.args.book.now) c.args.databases.now in
    let mid = scene_of c.start_tx.new.office c.args.notes.now (done_of_book c.args.book.now) c.args.databases.now in
    stands_behind None (Some (begun_run c.args.number (Scripted c.in-Some-Scripted.begun.body))) s mid c.requires.on
    (subst (λ (b : BegunBody). LeadsTo None (Some (begun_run c.args.number (body_seen b))) s mid) c.in-Some-Scripted.field-0-is (c.in-Some-Scripted.ensures.started c.args.notes.now (done_of_book c.args.book.now) c.args.databases.now))

pub run_scripted-requires-clause-holds : goal.run_scripted-requires-clause-holds
run_scripted-requires-clause-holds g c κs within = subst (λ (b : BegunBody). HoldsBegun c.start_tx.new.office c.args.number (body_seen b)) c.in-Some-Scripted.field-0-is c.in-Some-Scripted.ensures.holds

pub run_scripted-requires-clause-runs : goal.run_scripted-requires-clause-runs
run_scripted-requires-clause-runs g c κs within = book_calm c.under_way_laws.ensures.doubted c.args.office.now c.args.notes.now c.args.book.now.opening c.args.book.now.finished c.args.book.now.commits c.args.book.now.end c.args.databases.now c.requires.on c.requires.open (calm_so c.args.office.now _ _ c.desk.ensures c.is_faulted.ensures c.if-is_faulted.false)

pub returns-in_ok-run_scripted-in-Some-Scripted-clause-leads : goal.returns-in_ok-run_scripted-in-Some-Scripted-clause-leads
returns-in_ok-run_scripted-in-Some-Scripted-clause-leads g c =
    let s = scene_of c.args.office.now c.args.notes.now (done_of_book c.args.book.now) c.args.databases.now in
    let mid = scene_of c.start_tx.new.office c.args.notes.now (done_of_book c.args.book.now) c.args.databases.now in
    leads_again None (Some (begun_run c.args.number (Scripted c.in-Some-Scripted.begun.body))) None s mid (scene_of c.run_scripted.new.office c.run_scripted.new.notes (done_of_book c.run_scripted.new.book) c.run_scripted.new.databases)
    (subst (λ (b : BegunBody). LeadsTo None (Some (begun_run c.args.number (body_seen b))) s mid) c.in-Some-Scripted.field-0-is (c.in-Some-Scripted.ensures.started c.args.notes.now (done_of_book c.args.book.now) c.args.databases.now))
    c.in_ok-run_scripted-in-Some-Scripted.ensures.leads

pub settle_deletion-requires-clause-on : goal.settle_deletion-requires-clause-on
settle_deletion-requires-clause-on g c κs within =
    let s = scene_of c.args.office.now c.args.notes.now (done_of_book c.args.book.now) c.args.databases.now in
    let mid = scene_of c.start_tx.new.office c.args.notes.now (done_of_book c.args.book.now) c.args.databases.now in
    stands_behind None (Some (begun_run c.args.number (Deletion c.in-Some-Deletion.name))) s mid c.requires.on
    (subst (λ (b : BegunBody). LeadsTo None (Some (begun_run c.args.number (body_seen b))) s mid) c.in-Some-Deletion.field-0-is (c.in-Some-Deletion.ensures.started c.args.notes.now (done_of_book c.args.book.now) c.args.databases.now))

pub settle_deletion-requires-clause-holds : goal.settle_deletion-requires-clause-holds
settle_deletion-requires-clause-holds g c κs within = subst (λ (b : BegunBody). HoldsBegun c.start_tx.new.office c.args.number (body_seen b)) c.in-Some-Deletion.field-0-is c.in-Some-Deletion.ensures.holds

pub settle_deletion-requires-clause-runs : goal.settle_deletion-requires-clause-runs
settle_deletion-requires-clause-runs g c κs within = book_calm c.under_way_laws.ensures.doubted c.args.office.now c.args.notes.now c.args.book.now.opening c.args.book.now.finished c.args.book.now.commits c.args.book.now.end c.args.databases.now c.requires.on c.requires.open (calm_so c.args.office.now _ _ c.desk.ensures c.is_faulted.ensures c.if-is_faulted.false)

pub returns-in_ok-settle_deletion-in-Some-Deletion-clause-leads : goal.returns-in_ok-settle_deletion-in-Some-Deletion-clause-leads
returns-in_ok-settle_deletion-in-Some-Deletion-clause-leads g c =
    let s = scene_of c.args.office.now c.args.notes.now (done_of_book c.args.book.now) c.args.databases.now in
    let mid = scene_of c.start_tx.new.office c.args.notes.now (done_of_book c.args.book.now) c.args.databases.now in
    leads_again None (Some (begun_run c.args.number (Deletion c.in-Some-Deletion.name))) None s mid (scene_of c.settle_deletion.new.office c.settle_deletion.new.notes (done_of_book c.settle_deletion.new.book) c.settle_deletion.new.databases)
    (subst (λ (b : BegunBody). LeadsTo None (Some (begun_run c.args.number (body_seen b))) s mid) c.in-Some-Deletion.field-0-is (c.in-Some-Deletion.ensures.started c.args.notes.now (done_of_book c.args.book.now) c.args.databases.now))
    c.in_ok-settle_deletion-in-Some-Deletion.ensures.leads

pub start_tx-requires-clause-calm : goal.start_tx-requires-clause-calm
start_tx-requires-clause-calm g c = calm_so c.args.office.now _ _ c.desk.ensures c.is_faulted.ensures c.if-is_faulted.false

pub drop_tx-requires-in-None-clause-at : goal.drop_tx-requires-in-None-clause-at
drop_tx-requires-in-None-clause-at g c κs within = works_on None c.start_tx.new.office c.args.notes.now (done_of_book c.args.book.now) c.args.databases.now
    (subst (λ (o : OfficeState). StandsOn None (scene_of o c.args.notes.now (done_of_book c.args.book.now) c.args.databases.now)) (sym c.in-None.ensures.unchanged) c.requires.on)

pub returns-in_ok-drop_tx-in-None-clause-leads : goal.returns-in_ok-drop_tx-in-None-clause-leads
returns-in_ok-drop_tx-in-None-clause-leads g c =
    subst (λ (o : OfficeState). LeadsTo None None (scene_of o c.args.notes.now (done_of_book c.args.book.now) c.args.databases.now) (scene_of c.drop_tx-in-None.new.office c.drop_tx-in-None.new.notes (done_of_book c.drop_tx-in-None.new.book) c.args.databases.now)) c.in-None.ensures.unchanged
    (c.in_ok-drop_tx-in-None.ensures.leads c.args.databases.now)

pub returns-then-is_faulted-clause-leads : goal.returns-then-is_faulted-clause-leads
returns-then-is_faulted-clause-leads g c = c.in_ok-drop_tx.ensures.leads c.args.databases.now

pub returns-in_err-run_scripted-in-Some-Scripted-clause-stops : goal.returns-in_err-run_scripted-in-Some-Scripted-clause-stops
returns-in_err-run_scripted-in-Some-Scripted-clause-stops g c = at_err c.from_residual-in_err-run_scripted-in-Some-Scripted.result (tells_behind None c.args.office.now c.start_tx.new.office c.args.notes.now c.args.notes.now (done_of_book c.args.book.now) (done_of_book c.run_scripted.new.book) c.args.databases.now
    (Some (begun_run c.args.number (Scripted c.in-Some-Scripted.begun.body)))
    (subst (λ (b : BegunBody). LeadsTo None (Some (begun_run c.args.number (body_seen b))) (scene_of c.args.office.now c.args.notes.now (done_of_book c.args.book.now) c.args.databases.now) (scene_of c.start_tx.new.office c.args.notes.now (done_of_book c.args.book.now) c.args.databases.now)) c.in-Some-Scripted.field-0-is (c.in-Some-Scripted.ensures.started c.args.notes.now (done_of_book c.args.book.now) c.args.databases.now))
    c.in_err-run_scripted-in-Some-Scripted.ensures.stops)

pub returns-in_err-settle_deletion-in-Some-Deletion-clause-stops : goal.returns-in_err-settle_deletion-in-Some-Deletion-clause-stops
returns-in_err-settle_deletion-in-Some-Deletion-clause-stops g c = at_err c.from_residual-in_err-settle_deletion-in-Some-Deletion.result (tells_run None c.args.office.now c.start_tx.new.office c.args.notes.now c.args.notes.now (done_of_book c.args.book.now) (done_of_book c.settle_deletion.new.book) c.args.databases.now
    (begun_run c.args.number (Deletion c.in-Some-Deletion.name))
    (subst (λ (b : BegunBody). LeadsTo None (Some (begun_run c.args.number (body_seen b))) (scene_of c.args.office.now c.args.notes.now (done_of_book c.args.book.now) c.args.databases.now) (scene_of c.start_tx.new.office c.args.notes.now (done_of_book c.args.book.now) c.args.databases.now)) c.in-Some-Deletion.field-0-is (c.in-Some-Deletion.ensures.started c.args.notes.now (done_of_book c.args.book.now) c.args.databases.now))
    c.in_err-settle_deletion-in-Some-Deletion.ensures.stops)

pub returns-in_err-drop_tx-in-None-clause-stops : goal.returns-in_err-drop_tx-in-None-clause-stops
returns-in_err-drop_tx-in-None-clause-stops g c = at_err c.from_residual-in_err-drop_tx-in-None.result (inl c.in_err-drop_tx-in-None.ensures.stops)

pub returns-in_err-drop_tx-clause-stops : goal.returns-in_err-drop_tx-clause-stops
returns-in_err-drop_tx-clause-stops g c = at_err c.from_residual.result (inl c.in_err-drop_tx.ensures.stops)
