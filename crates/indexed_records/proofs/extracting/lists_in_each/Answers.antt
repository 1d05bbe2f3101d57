use Rattle.std.proofs.Common.{arith, [], ◌∷◌, ◌++◌, ◌∙◌}
use Rattle.clone_values.specs.View.{key_tree_of, tree_of}
use Rattle.index_tables.specs.RecordRows.{rows_of_record}
use Rattle.store_contents.proofs.Laws.{mapped_more}
use Rattle.indexed_records.proofs.extracting.lists_in_each.Goals as goal
use Rattle.indexed_records.proofs.extracting.lists_in_each.Goals.{in-Some+in_ok-rows_in_one+in_ok-push, in_default}

pub loop-place-preserved : goal.loop-place-preserved
loop-place-preserved c = elim c.match-at.branch [
  | in-Some+in_ok-rows_in_one+in_ok-push w ↦ rw w.lists-is (w.in_ok-push.ensures.items
      ∙ (λ i. c.loop-place.invariant i ++ w.in_ok-rows_in_one.ensures i ∷ [])
      ∙ mapped_more (λ index. rows_of_record index (key_tree_of c.args.key.now) (tree_of c.args.value.now)) c.args.indexes.now c.loop-place.place w.in-Some.index.now w.in-Some.ensures.item)
  | in_default w ↦ absurd (omega (arith, w.in_default.ensures.past_end, c.loop-place-test.true, c.len-place-end.ensures))
]
