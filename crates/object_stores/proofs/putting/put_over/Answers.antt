use Rattle.std.proofs.Common.{not, sym, ap, ◌∙◌}
use Rattle.clone_values.specs.View.{key_tree_of, tree_of}
use Rattle.range_reads.proofs.Laws.{told_same, unbroken_over}
use Rattle.object_stores.specs.Parts.{content_in, log_in}
use Rattle.object_stores.proofs.Off.{place_within}
use Rattle.object_stores.proofs.Logged.{fine_now}
use Rattle.object_stores.proofs.ChangeLemmas.{keeps_logged}
use Rattle.object_stores.proofs.putting.put_over.Goals as goal

pub keeps_rows-requires-after_bounds : goal.keeps_rows-requires-after_bounds
keeps_rows-requires-after_bounds g c κs within = place_within c.args.parts.now.contents.records c.args.place _ c.requires.there.1.stands

pub returns-clause-stored : goal.returns-clause-stored
returns-clause-stored g c =
    let old = c.args.parts.now in
    let at = c.requires.there.1 in
    let same = told_same old.contents.info.indexes c.requires.there.0 (tree_of c.args.value) (sym (c.in_ok-keeps_rows.ensures (key_tree_of c.args.key) c.requires.there.0 at.stands) ∙ c.if-not-branch.false) (key_tree_of c.args.key) in
    sym (ap not (unbroken_over old.contents.records (key_tree_of c.args.key) c.requires.there.0 (tree_of c.args.value) at.found old.contents.info.indexes same ∙ (fine_now (log_in old) (content_in old) c.requires.sound.undo).unique))

pub returns-clause-past : goal.returns-clause-past
returns-clause-past g c = keeps_logged c.args.parts.now c.ready.new.parts c.revalue.new.parts c.ready.ensures.log c.ready.ensures.content c.revalue.ensures.past
