use Rattle.std.proofs.Common.{sym, ap, ◌∙◌, subst, arith}
use Rattle.clone_values.specs.View.{key_tree_of, tree_of}
use Rattle.store_contents.specs.IsStore.{IsStoreContent}
use Rattle.object_stores.specs.Parts.{content_in, log_in}
use Rattle.object_stores.specs.declared.changes.Change.TheVariants as change
use Rattle.object_stores.proofs.Logged.{sound_pushed, past_pushed, fine_now}
use Rattle.object_stores.proofs.Back.{added_back, added_can}
use Rattle.object_stores.proofs.Fine.{fine_insert}
use Rattle.object_stores.proofs.changing.add.Goals as goal

pub put_at-requires-clause-rooms : goal.put_at-requires-clause-rooms
put_at-requires-clause-rooms g c = omega (arith, c.requires.ready.rows)

pub returns-clause-sound : goal.returns-clause-sound
returns-clause-sound g c =
    let old = c.args.parts.now in
    let k = key_tree_of c.args.key in
    let v = tree_of c.args.value in
    let same = ap key_tree_of c.requires.key in
    let e = c.put_at.ensures in
    let fine = fine_now (log_in old) (content_in old) c.requires.sound.undo in
    sound_pushed (change.Added c.args.key_copy c.args.rows_copy) old _ c.note.ensures.items
    (added_back (content_in old) _ k v e.info e.records _ same c.requires.gap.absent) c.requires.sound
    (subst IsStoreContent (λ i. record { info = sym e.info i; records = sym e.records i }) (fine_insert (content_in old) fine k v c.requires.fits c.requires.unique))
    (added_can (content_in old) _ k v e.info e.records _ same c.args.rows_copy (c.requires.copy ∙ c.requires.rows))
    (omega (arith, c.requires.ready.records, e.spare), omega (arith, c.requires.ready.rows, e.row_spare))
    c.requires.sound.kept c.requires.sound.removed c.requires.sound.rows

pub returns-clause-past : goal.returns-clause-past
returns-clause-past g c =
    let old = c.args.parts.now in
    let e = c.put_at.ensures in
    past_pushed (change.Added c.args.key_copy c.args.rows_copy) old (record { contents = c.put_at.new.self; log = c.note.new.log; removed = old.removed; rows = old.rows }) c.note.ensures.items
    (added_back (content_in old) _ (key_tree_of c.args.key) (tree_of c.args.value) e.info e.records _ (ap key_tree_of c.requires.key) c.requires.gap.absent)
