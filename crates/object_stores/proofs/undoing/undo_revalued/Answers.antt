use Rattle.std.proofs.Common.{arith, refl}
use Rattle.clone_values.specs.View.{key_tree_of}
use Rattle.object_stores.specs.declared.changes.Change.TheVariants as change
use Rattle.object_stores.proofs.Off.{place_within, sound_off}
use Rattle.object_stores.proofs.undoing.undo_revalued.Goals as goal

pub revalue_at-requires-clause-within : goal.revalue_at-requires-clause-within
revalue_at-requires-clause-within g c = λ κs h. place_within c.args.parts.now.contents.records c.in-Ok.place _ c.in-Ok.ensures.found.1.stands

pub returns-clause-sound : goal.returns-clause-sound
returns-clause-sound g c =
    let old = c.args.parts.now in
    let e = c.revalue_at.ensures in
    let at = c.in-Ok.ensures.found in
    sound_off (change.Revalued c.args.key.now c.args.value) old _ c.requires refl (λ i. record { info = e.info i; records = e.records (key_tree_of c.args.key.now) at.0 at.1.stands i })
    (omega (arith, c.requires.spare.0, e.spare), omega (arith, c.requires.spare.1, e.row_spare))
    c.requires.removed c.requires.rows

pub returns-clause-content : goal.returns-clause-content
returns-clause-content g c =
    let e = c.revalue_at.ensures in
    let at = c.in-Ok.ensures.found in
    λ i. record { info = e.info i; records = e.records (key_tree_of c.args.key.now) at.0 at.1.stands i }
