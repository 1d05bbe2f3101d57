use Rattle.std.proofs.Common.{sym, ◌∙◌, subst, arith}
use Rattle.clone_values.specs.View.{key_tree_of, tree_of}
use Rattle.range_reads.proofs.Laws.{told_same, unbroken_over}
use Rattle.store_contents.specs.IsStore.{IsStoreContent}
use Rattle.object_stores.specs.Parts.{content_in, log_in}
use Rattle.object_stores.specs.declared.changes.Change.TheVariants as change
use Rattle.object_stores.proofs.Logged.{sound_pushed, past_pushed, fine_now}
use Rattle.object_stores.proofs.Back.{replaced_back, revalued_can}
use Rattle.object_stores.proofs.Fine.{fine_insert}
use Rattle.object_stores.proofs.Off.{place_within}
use Rattle.object_stores.proofs.changing.revalue.Goals as goal

pub revalue_at-old-requires-clause-within : goal.revalue_at-old-requires-clause-within
revalue_at-old-requires-clause-within g c = λ κs h. place_within c.args.parts.now.contents.records c.args.place _ c.requires.there.1.stands

pub revalue_at-old-requires-clause-same_rows : goal.revalue_at-old-requires-clause-same_rows
revalue_at-old-requires-clause-same_rows g c = λ κs h k v at. told_same _ v (tree_of c.args.value) (c.requires.same_rows k v at) k

pub returns-clause-sound : goal.returns-clause-sound
returns-clause-sound g c =
    let old = c.args.parts.now in
    let k = key_tree_of c.args.key in
    let v = tree_of c.args.value in
    let w = c.requires.there.0 in
    let at = c.requires.there.1 in
    let e = c.revalue_at-old.ensures in
    let records = e.records k w at.stands in
    let given = e.given k w at.stands in
    let same = told_same _ w v (c.requires.same_rows k w at.stands) k in
    let fine = fine_now (log_in old) (content_in old) c.requires.sound.undo in
    sound_pushed (change.Revalued c.args.key c.revalue_at-old.result) old _ c.note.ensures.items
    (replaced_back (content_in old) _ k v e.info records w at.found _ given) c.requires.sound
    (subst IsStoreContent (λ i. record { info = sym e.info i; records = sym records i }) (fine_insert (content_in old) fine k v c.requires.fits (unbroken_over _ k w v at.found _ same ∙ fine.unique)))
    (revalued_can (content_in old) _ k v e.info records w same _ given)
    (omega (arith, c.requires.ready.records, e.spare), omega (arith, c.requires.ready.rows, e.row_spare))
    c.requires.sound.kept c.requires.sound.removed c.requires.sound.rows

pub returns-clause-content : goal.returns-clause-content
returns-clause-content g c =
    let e = c.revalue_at-old.ensures in
    λ i. record { info = e.info i; records = e.records (key_tree_of c.args.key) c.requires.there.0 c.requires.there.1.stands i }

pub returns-clause-past : goal.returns-clause-past
returns-clause-past g c =
    let old = c.args.parts.now in
    let e = c.revalue_at-old.ensures in
    let k = key_tree_of c.args.key in
    let w = c.requires.there.0 in
    let at = c.requires.there.1 in
    past_pushed (change.Revalued c.args.key c.revalue_at-old.result) old (record { contents = c.revalue_at-old.new.self; log = c.note.new.log; removed = old.removed; rows = old.rows }) c.note.ensures.items
    (replaced_back (content_in old) _ k (tree_of c.args.value) e.info (e.records k w at.stands) w at.found _ (e.given k w at.stands))
