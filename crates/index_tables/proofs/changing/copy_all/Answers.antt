use Rattle.std.proofs.Common.{arith, ◌∙◌, ap}
use Rattle.index_tables.proofs.TableRows.{copy_belongs, copy_is_put, past_end}
use Rattle.index_tables.proofs.changing.copy_all.Goals as goal
use Rattle.index_tables.proofs.changing.copy_all.Goals.{in-Some+in_ok-clone, in_default}

pub insert_at-requires-clause-belongs : goal.insert_at-requires-clause-belongs
insert_at-requires-clause-belongs g c = copy_belongs _ _ c.loop-place.place c.in-Some.row.now _ tt (g.met.R.OrderedTable.rises c.args.table.now) c.in-Some.ensures c.loop-place.invariant.0 c.in_ok-clone.ensures.cases

pub loop-place-preserved : goal.loop-place-preserved
loop-place-preserved g c = elim c.match-nth.branch [
  | in-Some+in_ok-clone w ↦ (
    ap g.R.OrderedTable.entries w.copies-is ∙ copy_is_put _ _ _ c.loop-place.place w.in-Some.row.now _ tt (g.met.R.OrderedTable.rises c.args.table.now) w.in-Some.ensures c.loop-place.invariant.0 w.in_ok-clone.ensures.cases w.insert_at.ensures.entries,
    rw w.copies-is (omega (arith, c.loop-place.invariant.1, w.insert_at.ensures.spare)),
  )
  | in_default w ↦ absurd (omega (arith, past_end (g.R.OrderedTable.entries c.args.table.now) c.loop-place.place w.in_default.ensures, c.len-place-end.ensures.value, c.loop-place-test.true))
]
