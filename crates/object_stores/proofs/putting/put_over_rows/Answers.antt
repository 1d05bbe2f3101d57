use Rattle.std.proofs.Common.{◌≡◌, ◌+◌, ℕ, Some, slice_get, sym, ap, ◌∙◌, subst}
use Rattle.std.specs.FinMap.{entries}
use Rattle.clone_values.specs.Tree.{Tree}
use Rattle.clone_values.specs.KeyTree.{KeyTree}
use Rattle.clone_values.specs.View.{key_tree_of, tree_of}
use Rattle.range_reads.specs.Contents.{rows_in_indexes, rows_among, IsRecordAt}
use Rattle.object_stores.specs.Parts.{IsReady}
use Rattle.store_contents.specs.Store.{Content}
use Rattle.store_contents.specs.Storing.{content_with}
use Rattle.object_stores.proofs.Off.{place_within}
use Rattle.object_stores.proofs.ChangeLemmas.{keeps_logged}
use Rattle.object_stores.proofs.putting.put_over_rows.Goals as goal

pub rows_at-requires : goal.rows_at-requires
rows_at-requires g c =
    let within = place_within c.args.parts.now.contents.records c.args.place _ c.requires.there.1.stands in
    (c.type_bounds.send-T-Records, (c.type_bounds.send-T-Rows, (c.type_bounds.sync-T-Records, (c.type_bounds.sync-T-Rows, within))))

pub replace-requires-clause-copy : goal.replace-requires-clause-copy
replace-requires-clause-copy g c = λ κs h. rw c.in-Some.is at c.in_ok-rows.ensures.copy

pub replace-requires-clause-rows : goal.replace-requires-clause-rows
replace-requires-clause-rows g c = λ κs h. rw c.in-Some.is at c.in_ok-rows.ensures.rows

pub replace-requires-clause-unique : goal.replace-requires-clause-unique
replace-requires-clause-unique g c = λ κs h. rw c.in-Some.is at c.in_ok-rows.ensures.unique

pub replace-requires-clause-ready : goal.replace-requires-clause-ready
replace-requires-clause-ready g c = λ κs h. subst (λ (n : ℕ). IsReady c.rows_ready.new.parts 1 0 (n + rows_among c.in-Some.rows)) c.count.ensures (rw c.in-Some.is at c.in_ok-rows.ensures.ready)

pub replace-requires-clause-there : goal.replace-requires-clause-there
replace-requires-clause-there g c = λ κs h. subst (λ (s : Content). (old : Tree) × IsRecordAt s.records c.args.place (key_tree_of c.args.key) old) (sym c.rows_ready.ensures.content) c.requires.there

pub replace-requires-clause-old_rows : goal.replace-requires-clause-old_rows
replace-requires-clause-old_rows g c = λ κs h. subst (λ (s : Content). (k : KeyTree) (v : Tree) → slice_get (entries s.records) c.args.place ≡ Some (k, v) → c.in_ok-old_rows.old_rows ≡ rows_in_indexes s.info.indexes k v) (sym c.rows_ready.ensures.content) c.in_ok-old_rows.ensures

pub returns-clause-stored : goal.returns-clause-stored
returns-clause-stored g c = rw c.in-Some.is at c.in_ok-rows.ensures.stored

pub returns-clause-content : goal.returns-clause-content
returns-clause-content g c = c.replace.ensures.content ∙ ap (λ (s : Content). content_with s (key_tree_of c.args.key) (tree_of c.args.value)) c.rows_ready.ensures.content

pub returns-clause-past : goal.returns-clause-past
returns-clause-past g c = keeps_logged c.args.parts.now c.rows_ready.new.parts c.replace.new.parts c.rows_ready.ensures.log c.rows_ready.ensures.content c.replace.ensures.past
