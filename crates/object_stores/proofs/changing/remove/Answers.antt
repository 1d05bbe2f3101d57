use Rattle.std.proofs.Common.{◌+◌, ◌<◌, sym, ap, ◌∙◌, subst, arith}
use Rattle.std.specs.FinMap.{len, remove}
use Rattle.clone_values.specs.View.{key_tree_of, tree_of}
use Rattle.store_contents.specs.IsStore.{IsStoreContent}
use Rattle.object_stores.specs.Parts.{content_in, log_in}
use Rattle.object_stores.specs.declared.changes.Change.TheVariants as change
use Rattle.object_stores.proofs.Logged.{sound_pushed, past_pushed, fine_now}
use Rattle.object_stores.proofs.Back.{removed_back, removed_can}
use Rattle.object_stores.proofs.Fine.{fine_records, stored_remove}
use Rattle.object_stores.proofs.Off.{one_record}
use Rattle.object_stores.proofs.Deleted.{fewer_left}
use Rattle.object_stores.proofs.changing.remove.Goals as goal

pub returns-clause-sound : goal.returns-clause-sound
returns-clause-sound g c =
    let old = c.args.parts.now in
    let k = key_tree_of c.take_out-key.result.0 in
    let v = tree_of c.take_out-key.result.1 in
    let e = c.take_out-key.ensures in
    let fine = fine_now (log_in old) (content_in old) c.requires.sound.undo in
    sound_pushed (change.Removed c.take_out-key.result.0 c.take_out-key.result.1 c.args.rows) old _ c.note.ensures.items
    (removed_back (content_in old) _ k v e.info e.records e.taken.found) c.requires.sound
    (subst IsStoreContent (λ i. record { info = sym e.info i; records = sym e.records i })
    (fine_records (content_in old) fine (remove old.contents.records k) (stored_remove old.contents.records k fine.records) (c.unique_laws.ensures.kept old.contents.info.indexes old.contents.records k fine.unique)))
    (removed_can (content_in old) _ k v e.info e.records c.args.rows (c.requires.rows k v e.taken.stands))
    (omega (arith, c.requires.ready.records, e.spare), omega (arith, c.requires.ready.rows, e.row_spare))
    c.requires.sound.kept (omega (arith, c.requires.sound.removed)) (omega (arith, c.requires.sound.rows, c.count.ensures))

pub returns-clause-content : goal.returns-clause-content
returns-clause-content g c k v at =
    let old = c.args.parts.now in
    let e = c.take_out-key.ensures in
    let same = one_record _ c.args.place _ _ _ _ e.taken.stands at in
    λ i. record { info = e.info i; records = (e.records ∙ ap (remove old.contents.records) same.0) i }

pub returns-clause-past : goal.returns-clause-past
returns-clause-past g c =
    let old = c.args.parts.now in
    let e = c.take_out-key.ensures in
    past_pushed (change.Removed c.take_out-key.result.0 c.take_out-key.result.1 c.args.rows) old (record { contents = c.take_out-key.new.self; log = c.note.new.log; removed = old.removed + 1; rows = old.rows + c.count.result }) c.note.ensures.items
    (removed_back (content_in old) _ (key_tree_of c.take_out-key.result.0) (tree_of c.take_out-key.result.1) e.info e.records e.taken.found)

pub returns-clause-fewer : goal.returns-clause-fewer
returns-clause-fewer g c =
    let taken = c.take_out-key.ensures.taken in
    subst (λ m. len m < len c.args.parts.now.contents.records) (sym c.take_out-key.ensures.records) (fewer_left c.args.parts.now.contents.records (key_tree_of c.take_out-key.result.0) (tree_of c.take_out-key.result.1) taken.found)
