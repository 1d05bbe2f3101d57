use Rattle.std.proofs.Common.{◌+◌, sym, ◌∙◌, subst, arith}
use Rattle.clone_values.specs.View.{key_tree_of, tree_of}
use Rattle.store_contents.specs.IsStore.{IsStoreContent}
use Rattle.object_stores.specs.Parts.{content_in, log_in}
use Rattle.object_stores.specs.declared.changes.Change.TheVariants as change
use Rattle.object_stores.proofs.Logged.{sound_pushed, past_pushed, fine_now}
use Rattle.object_stores.proofs.Back.{replaced_back, replaced_can}
use Rattle.object_stores.proofs.Fine.{fine_insert}
use Rattle.object_stores.proofs.Off.{place_within}
use Rattle.object_stores.proofs.changing.replace.Goals as goal

pub replace_at-old-requires-clause-within : goal.replace_at-old-requires-clause-within
replace_at-old-requires-clause-within g c = λ κs h. place_within c.args.parts.now.contents.records c.args.place _ c.requires.there.1.stands

pub returns-clause-sound : goal.returns-clause-sound
returns-clause-sound g c =
    let old = c.args.parts.now in
    let k = key_tree_of c.args.key in
    let v = tree_of c.args.value in
    let w = c.requires.there.0 in
    let at = c.requires.there.1 in
    let e = c.replace_at-old.ensures in
    let records = e.records k w at.stands in
    let given = e.given k w at.stands in
    let fine = fine_now (log_in old) (content_in old) c.requires.sound.undo in
    sound_pushed (change.Replaced c.args.key c.replace_at-old.result c.args.old_rows c.args.rows_copy) old _ c.note.ensures.items
    (replaced_back (content_in old) _ k v e.info records w at.found _ given) c.requires.sound
    (subst IsStoreContent (λ i. record { info = sym e.info i; records = sym records i }) (fine_insert (content_in old) fine k v c.requires.fits c.requires.unique))
    (replaced_can (content_in old) _ k v e.info records w c.args.old_rows c.args.rows_copy (c.requires.old_rows k w at.stands) (c.requires.copy ∙ c.requires.rows) _ given)
    (omega (arith, c.requires.ready.records, e.spare), omega (arith, c.requires.ready.rows, e.row_spare))
    c.requires.sound.kept c.requires.sound.removed (omega (arith, c.requires.sound.rows, c.count.ensures))

pub returns-clause-content : goal.returns-clause-content
returns-clause-content g c =
    let e = c.replace_at-old.ensures in
    λ i. record { info = e.info i; records = e.records (key_tree_of c.args.key) c.requires.there.0 c.requires.there.1.stands i }

pub returns-clause-past : goal.returns-clause-past
returns-clause-past g c =
    let old = c.args.parts.now in
    let e = c.replace_at-old.ensures in
    let k = key_tree_of c.args.key in
    let w = c.requires.there.0 in
    let at = c.requires.there.1 in
    past_pushed (change.Replaced c.args.key c.replace_at-old.result c.args.old_rows c.args.rows_copy) old (record { contents = c.replace_at-old.new.self; log = c.note.new.log; removed = old.removed; rows = old.rows + c.count.result }) c.note.ensures.items
    (replaced_back (content_in old) _ k (tree_of c.args.value) e.info (e.records k w at.stands) w at.found _ (e.given k w at.stands))
