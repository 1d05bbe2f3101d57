use Rattle.std.proofs.Common.{arith, ◌∙◌, ap}
use Rattle.index_tables.proofs.Laws.{past_end}
use Rattle.store_contents.proofs.Laws.{copy_is_lacked, copy_is_put}
use Rattle.indexed_records.proofs.copying.copy_all.Goals as goal
use Rattle.indexed_records.proofs.copying.copy_all.Goals.{in-Some+in_ok-key+in_ok-value, in_default}

pub insert-requires-clause-absent : goal.insert-requires-clause-absent
insert-requires-clause-absent g c = copy_is_lacked _ _ _ c.in-Some.key.now _ c.in-Some.value.now (g.met.R.OrderedTable.rises c.args.records.now) c.in-Some.ensures c.loop-place.invariant.0 c.in_ok-key.ensures

pub loop-place-preserved : goal.loop-place-preserved
loop-place-preserved g c = elim c.match-nth.branch [
  | in-Some+in_ok-key+in_ok-value w ↦ (
    ap g.R.OrderedTable.entries w.copies-is ∙ copy_is_put _ _ _ c.loop-place.place w.in-Some.key.now _ w.in-Some.value.now _ (g.met.R.OrderedTable.rises c.args.records.now) w.in-Some.ensures c.loop-place.invariant.0 w.in_ok-key.ensures w.in_ok-value.ensures w.insert.ensures.entries,
    rw w.copies-is (omega (arith, c.loop-place.invariant.1, w.insert.ensures.spare)),
  )
  | in_default w ↦ absurd (omega (arith, past_end (g.R.OrderedTable.entries c.args.records.now) c.loop-place.place w.in_default.ensures, c.len-place-end.ensures.value, c.loop-place-test.true))
]
