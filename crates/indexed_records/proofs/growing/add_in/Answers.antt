use Rattle.std.proofs.Common.{◌<◌, length, refl, ◌∙◌, sym, arith}
use Rattle.std.proofs.lemmas.Option.{slice_get-get_or}
use Rattle.store_contents.specs.Walks.{Adds, CanAdd}
use Rattle.store_contents.proofs.Laws.{walked_get, walked_on, walked_all, all_at, all_counted, next_at, next_left, none_next}
use Rattle.indexed_records.proofs.growing.add_in.Goals as goal
use Rattle.indexed_records.proofs.growing.add_in.Goals.{in-Some, in_default}

pub loop-table-init : goal.loop-table-init
loop-table-init g c = record { left = c.into_iter-lists.ensures.rest; walked = refl }

pub add_rows-requires : goal.add_rows-requires
add_rows-requires g c =
    let lt : c.loop-table.table-index < length c.loop-table.tables = omega (arith, c.loop-table.auto.tables, c.loop-table-test.true) in
    let there = sym (walked_get Adds _ _ _ _ c.loop-table.invariant.walked) ∙ slice_get-get_or c.loop-table.tables c.loop-table.table-index c.table-item.result lt in
    let room = all_at CanAdd _ _ _ c.loop-table.table-index _ _ _ c.requires (next_at _ c.loop-table.table-index _ _ _ c.loop-table.invariant.left c.in-Some.ensures.items) there there in
    (c.type_bounds.send-T-Records, (c.type_bounds.send-T-Rows, (c.type_bounds.sync-T-Records, (c.type_bounds.sync-T-Rows, room))))

pub loop-table-preserved : goal.loop-table-preserved
loop-table-preserved g c =
    let lt : c.loop-table.table-index < length c.loop-table.tables = omega (arith, c.loop-table.auto.tables, c.loop-table-test.true) in
    elim c.match-next.branch [
      | in-Some w ↦ record {
        left = next_left _ c.loop-table.table-index _ _ _ c.loop-table.invariant.left w.in-Some.ensures.items;
        walked = rw w.tables-is (walked_on Adds _ _ _ _ _ c.table-item.result _ c.loop-table.invariant.walked lt (next_at _ c.loop-table.table-index _ _ _ c.loop-table.invariant.left w.in-Some.ensures.items) (w.add_rows.ensures.rows, w.add_rows.ensures.spare));
      }
      | in_default w ↦ absurd (omega (arith, none_next c.args.rows.items c.loop-table.table-index c.loop-table.lists.rest.items c.loop-table.invariant.left (omega (arith, w.in_default.ensures.cases.0, c.loop-table.lists.rest.ok.0)), all_counted CanAdd c.args.rows.items c.args.tables.now c.args.tables.now c.requires, c.loop-table-test.true))
    ]

pub returns : goal.returns
returns g c = walked_all Adds _ _ _ _ c.loop-table.invariant.walked c.loop-table-test.false
