use Rattle.std.proofs.lemmas.Option.{slice_get-get_or}
use Rattle.std.proofs.Common.{◌<◌, length, refl, ◌∙◌, sym, arith}
use Rattle.store_contents.specs.Walks.{Keeps, HasRoomFor}
use Rattle.store_contents.proofs.Laws.{walked_get, walked_on, walked_all, walked_kept}
use Rattle.indexed_records.proofs.growing.reserve_in.Goals as goal

pub loop-table-preserved : goal.loop-table-preserved
loop-table-preserved g c =
    let lt : c.loop-table.table-index < length c.loop-table.tables = omega (arith, c.loop-table.auto.tables, c.loop-table-test.true) in
    let there = sym (walked_get Keeps _ _ _ _ c.loop-table.invariant.kept) ∙ slice_get-get_or c.loop-table.tables c.loop-table.table-index c.table-item.result lt in
    record {
      kept = walked_on Keeps _ _ _ _ _ c.table-item.result _ c.loop-table.invariant.kept lt there (c.in_ok-reserve.ensures.rows, c.in_ok-reserve.ensures.spare);
      room = walked_on (HasRoomFor c.args.rows) _ _ _ _ _ c.table-item.result _ c.loop-table.invariant.room lt there c.in_ok-reserve.ensures.room;
    }

pub returns-in_err-reserve-clause-kept : goal.returns-in_err-reserve-clause-kept
returns-in_err-reserve-clause-kept g c =
    let lt : c.loop-table.table-index < length c.loop-table.tables = omega (arith, c.loop-table.auto.tables, c.loop-table-test.true) in
    let there = sym (walked_get Keeps _ _ _ _ c.loop-table.invariant.kept) ∙ slice_get-get_or c.loop-table.tables c.loop-table.table-index c.table-item.result lt in
    walked_kept Keeps (λ o. (refl, omega arith)) _ _ _ (walked_on Keeps _ _ _ _ _ c.table-item.result _ c.loop-table.invariant.kept lt there (c.in_err-reserve.ensures.rows, c.in_err-reserve.ensures.spare))

pub returns-clause-kept : goal.returns-clause-kept
returns-clause-kept g c = walked_all Keeps _ _ _ _ c.loop-table.invariant.kept c.loop-table-test.false

pub returns-clause-room : goal.returns-clause-room
returns-clause-room g c = walked_all (HasRoomFor c.args.rows) _ _ _ _ c.loop-table.invariant.room c.loop-table-test.false
