use Rattle.std.proofs.Common.{arith}
use Rattle.clone_values.specs.View.{key_tree_of}
use Rattle.store_contents.proofs.Laws.{rows_more}
use Rattle.indexed_records.proofs.extracting.rows_of_keys.Goals as goal
use Rattle.indexed_records.proofs.extracting.rows_of_keys.Goals.{in-Some+in_ok-copied_row+in_ok-push, in_default}

pub loop-place-preserved : goal.loop-place-preserved
loop-place-preserved c = elim c.match-at.branch [
  | in-Some+in_ok-copied_row+in_ok-push w ↦ rw (w.rows-is, w.in_ok-push.ensures.items) (rows_more c.loop-place.rows.items _ c.args.keys.now c.loop-place.place (key_tree_of w.in-Some.key.now) (key_tree_of c.args.primary.now) c.loop-place.invariant w.in-Some.ensures.item w.in_ok-copied_row.ensures)
  | in_default w ↦ absurd (omega (arith, w.in_default.ensures.past_end, c.loop-place-test.true, c.len-place-end.ensures))
]
