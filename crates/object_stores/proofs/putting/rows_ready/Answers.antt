use Rattle.std.proofs.Common.{sym, ap, ◌∙◌}
use Rattle.std.specs.Prelude.{not}
use Rattle.std.specs.FinMap.{insert}
use Rattle.clone_values.specs.View.{key_tree_of, tree_of}
use Rattle.index_tables.specs.Unique.{is_broken}
use Rattle.range_reads.specs.Contents.{rows_in_indexes}
use Rattle.object_stores.specs.Parts.{content_in, log_in}
use Rattle.store_contents.specs.Store.{Content}
use Rattle.object_stores.proofs.Logged.{fine_now}
use Rattle.object_stores.proofs.putting.rows_ready.Goals as goal

pub clashes-requires : goal.clashes-requires
clashes-requires g c =
    let parts = c.ready.new.parts in
    let unique = (fine_now (log_in parts) (content_in parts) c.ready.ensures.sound.undo).unique in
    (c.type_bounds.send-T-Records, (c.type_bounds.send-T-Rows, (c.type_bounds.sync-T-Records, (c.type_bounds.sync-T-Rows, unique))))

pub returns-clause-rows : goal.returns-clause-rows
returns-clause-rows g c = c.in_ok-rows.ensures ∙ ap (λ (s : Content). rows_in_indexes s.info.indexes (key_tree_of c.args.key.now) (tree_of c.args.value.now)) (sym c.ready.ensures.content)

pub returns-clause-copy : goal.returns-clause-copy
returns-clause-copy g c = c.in_ok-copy.ensures

pub returns-clause-unique : goal.returns-clause-unique
returns-clause-unique g c = sym (c.clashes.ensures (tree_of c.args.value.now) (c.in_ok-rows.ensures ∙ ap (λ (s : Content). rows_in_indexes s.info.indexes (key_tree_of c.args.key.now) (tree_of c.args.value.now)) (sym c.ready.ensures.content))) ∙ c.if-clashes.false

pub returns-clause-stored : goal.returns-clause-stored
returns-clause-stored g c = sym (ap not (ap (λ (s : Content). is_broken s.info.indexes (insert s.records (key_tree_of c.args.key.now) (tree_of c.args.value.now))) (sym c.ready.ensures.content) ∙ sym (c.clashes.ensures (tree_of c.args.value.now) (c.in_ok-rows.ensures ∙ ap (λ (s : Content). rows_in_indexes s.info.indexes (key_tree_of c.args.key.now) (tree_of c.args.value.now)) (sym c.ready.ensures.content))) ∙ c.if-clashes.false))
