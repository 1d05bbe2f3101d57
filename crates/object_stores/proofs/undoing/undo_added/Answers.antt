use Rattle.std.proofs.Common.{ap, ◌∙◌, arith, refl}
use Rattle.std.specs.FinMap.{entries, remove}
use Rattle.object_stores.specs.declared.changes.Change.TheVariants as change
use Rattle.object_stores.proofs.Off.{place_within, one_record, sound_off}
use Rattle.object_stores.proofs.undoing.undo_added.Goals as goal

pub take_out-requires-clause-within : goal.take_out-requires-clause-within
take_out-requires-clause-within g c = λ κs h. place_within c.args.parts.now.contents.records c.in-Ok.place _ c.in-Ok.ensures.found.1.stands

pub returns-clause-sound : goal.returns-clause-sound
returns-clause-sound g c =
    let old = c.args.parts.now in
    let e = c.take_out.ensures in
    let key = one_record (entries old.contents.records) c.in-Ok.place _ _ _ _ e.taken.stands c.in-Ok.ensures.found.1.stands in
    sound_off (change.Added c.args.key.now c.args.rows.now) old _ c.requires refl (λ i. record { info = e.info i; records = (e.records ∙ ap (remove old.contents.records) key.0) i })
    (omega (arith, c.requires.spare.0, e.spare), omega (arith, c.requires.spare.1, e.row_spare))
    c.requires.removed c.requires.rows
