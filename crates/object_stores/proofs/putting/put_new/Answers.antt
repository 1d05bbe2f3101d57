use Rattle.std.proofs.Common.{◌≡◌, ◌+◌, ℕ, sym, ap, ◌∙◌, subst, arith}
use Rattle.clone_values.specs.View.{key_tree_of, tree_of}
use Rattle.range_reads.specs.Contents.{rows_among, IsGapOf}
use Rattle.object_stores.specs.Parts.{IsReady}
use Rattle.store_contents.specs.Store.{Content}
use Rattle.store_contents.specs.Storing.{content_with}
use Rattle.object_stores.proofs.ChangeLemmas.{keeps_logged}
use Rattle.object_stores.proofs.putting.put_new.Goals as goal

pub add-requires-clause-ready : goal.add-requires-clause-ready
add-requires-clause-ready g c = λ κs h.
    let same : 0 + rows_among c.in-Some.rows ≡ rows_among c.in-Some.rows = omega arith in
    subst (λ (n : ℕ). IsReady c.rows_ready.new.parts 1 1 n) same (rw c.in-Some.is at c.in_ok-rows.ensures.ready)

pub add-requires-clause-copy : goal.add-requires-clause-copy
add-requires-clause-copy g c = λ κs h. rw c.in-Some.is at c.in_ok-rows.ensures.copy

pub add-requires-clause-rows : goal.add-requires-clause-rows
add-requires-clause-rows g c = λ κs h. rw c.in-Some.is at c.in_ok-rows.ensures.rows

pub add-requires-clause-unique : goal.add-requires-clause-unique
add-requires-clause-unique g c = λ κs h. rw c.in-Some.is at c.in_ok-rows.ensures.unique

pub add-requires-clause-key : goal.add-requires-clause-key
add-requires-clause-key g c = λ κs h. c.in_ok-key_copy.ensures

pub add-requires-clause-gap : goal.add-requires-clause-gap
add-requires-clause-gap g c = λ κs h. subst (λ (s : Content). IsGapOf s.records c.args.place (key_tree_of c.args.key)) (sym c.rows_ready.ensures.content) c.requires.gap

pub returns-clause-stored : goal.returns-clause-stored
returns-clause-stored g c = rw c.in-Some.is at c.in_ok-rows.ensures.stored

pub returns-clause-content : goal.returns-clause-content
returns-clause-content g c = c.add.ensures.content ∙ ap (λ (s : Content). content_with s (key_tree_of c.args.key) (tree_of c.args.value)) c.rows_ready.ensures.content

pub returns-clause-past : goal.returns-clause-past
returns-clause-past g c = keeps_logged c.args.parts.now c.rows_ready.new.parts c.add.new.parts c.rows_ready.ensures.log c.rows_ready.ensures.content c.add.ensures.past
