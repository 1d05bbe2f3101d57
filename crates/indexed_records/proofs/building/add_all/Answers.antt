use Rattle.std.proofs.Common.{arith, ◌∙◌, sym}
use Rattle.index_tables.proofs.Laws.{past_end}
use Rattle.indexed_records.proofs.NewIndex.{rows_at_first, rows_grow}
use Rattle.indexed_records.proofs.building.add_all.Goals as goal
use Rattle.indexed_records.proofs.building.add_all.Goals.{in-Some+in_ok-rows+in_ok-reserve, in_default}

pub loop-place-init : goal.loop-place-init
loop-place-init g c = c.requires ∙ sym (rows_at_first c.args.index.now)

pub loop-place-preserved : goal.loop-place-preserved
loop-place-preserved g c = elim c.match-nth.branch [
  | in-Some+in_ok-rows+in_ok-reserve w ↦ rw w.table-is (w.add_rows.ensures.rows ∙ rows_grow c.args.index.now _ c.loop-place.place w.in-Some.key.now w.in-Some.value.now (g.met.R.OrderedTable.rises c.args.records.now) w.in-Some.ensures _ _ (w.reserve.ensures.rows ∙ c.loop-place.invariant) w.in_ok-rows.ensures)
  | in_default w ↦ absurd (omega (arith, past_end (g.R.OrderedTable.entries c.args.records.now) c.loop-place.place w.in_default.ensures, c.len-place-end.ensures.value, c.loop-place-test.true))
]
