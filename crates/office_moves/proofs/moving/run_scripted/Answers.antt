use Rattle.std.proofs.Common.{Some, None, inl, refl}
use Rattle.serial_order.specs.FinishEntries.{Scripted}
use Rattle.office_scenes.specs.Running.{begun_run}
use Rattle.office_scenes.specs.Scenes.{done_of_book, scene_of}
use Rattle.office_moves.proofs.Leading.{leads_again}
use Rattle.office_scenes.proofs.Laws.{stands_behind}
use Rattle.office_moves.proofs.Telling.{tells_still, tells_run}
use Rattle.office_moves.proofs.Telling.{at_err}
use Rattle.office_moves.proofs.moving.run_scripted.Goals as goal

pub close_scripted-requires-clause-on : goal.close_scripted-requires-clause-on
close_scripted-requires-clause-on g c κs within = (done_of_book c.args.book.now, c.requires.on)

pub settle_tx-requires-clause-closed : goal.settle_tx-requires-clause-closed
settle_tx-requires-clause-closed g c κs within =
    let e = c.in_ok-end.ensures.closes in
    let done = done_of_book c.args.book.now in
    let items = c.args.databases.now in (
      e.t,
      (
        items,
        record {
          number_is = e.number_is;
          on = stands_behind (Some (begun_run c.args.number (Scripted c.args.begun.body))) (Some e.t) (scene_of c.args.office.now c.args.notes.now done items) (scene_of c.close_scripted.new.office c.close_scripted.new.notes done items) c.requires.on (e.goes done);
          closed = e.closed;
        },
      ),
    )

pub returns-clause-leads : goal.returns-clause-leads
returns-clause-leads g c =
    let e = c.in_ok-end.ensures.closes in
    let done = done_of_book c.args.book.now in
    let items = c.args.databases.now in
    leads_again (Some (begun_run c.args.number (Scripted c.args.begun.body))) (Some e.t) None (scene_of c.args.office.now c.args.notes.now done items) (scene_of c.close_scripted.new.office c.close_scripted.new.notes done items)
    (scene_of c.settle_tx.new.office c.settle_tx.new.notes (done_of_book c.settle_tx.new.book) c.settle_tx.new.databases) (e.goes done) (c.in_ok-settle_tx.ensures.leads e.t items e.number_is e.closed)

pub returns-in_err-end-clause-stops : goal.returns-in_err-end-clause-stops
returns-in_err-end-clause-stops g c = at_err c.from_residual.result (inl (tells_still (done_of_book c.args.book.now) (done_of_book c.args.book.now) refl))

pub returns-in_err-settle_tx-clause-stops : goal.returns-in_err-settle_tx-clause-stops
returns-in_err-settle_tx-clause-stops g c =
    let e = c.in_ok-end.ensures.closes in
    let done = done_of_book c.args.book.now in
    let items = c.args.databases.now in
    at_err c.from_residual-in_err-settle_tx.result (tells_run (Some (begun_run c.args.number (Scripted c.args.begun.body))) c.args.office.now c.close_scripted.new.office c.args.notes.now c.close_scripted.new.notes done (done_of_book c.settle_tx.new.book) items
    e.t (e.goes done) (c.in_err-settle_tx.ensures.stops e.t items e.number_is e.closed))
