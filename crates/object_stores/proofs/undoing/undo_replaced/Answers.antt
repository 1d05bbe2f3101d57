use Rattle.std.proofs.Common.{arith, refl}
use Rattle.clone_values.specs.View.{key_tree_of, tree_of}
use Rattle.object_stores.specs.declared.changes.Change.TheVariants as change
use Rattle.object_stores.proofs.Off.{place_within, one_value, sound_off}
use Rattle.object_stores.proofs.undoing.undo_replaced.Goals as goal

pub replace_at-requires-clause-within : goal.replace_at-requires-clause-within
replace_at-requires-clause-within g c = λ κs h. place_within c.args.parts.now.contents.records c.in-Ok.place _ c.in-Ok.ensures.found.1.stands

pub replace_at-requires-clause-new_rows : goal.replace_at-requires-clause-new_rows
replace_at-requires-clause-new_rows g c = λ κs h k v at. one_value _ c.in-Ok.place _ k _ v (tree_of c.args.value) c.args.rows _ c.in-Ok.ensures.found.1.stands at c.requires.undo.1.3

pub replace_at-requires-clause-rooms : goal.replace_at-requires-clause-rooms
replace_at-requires-clause-rooms g c = omega (arith, c.requires.spare.1)

pub returns-clause-sound : goal.returns-clause-sound
returns-clause-sound g c =
    let old = c.args.parts.now in
    let e = c.replace_at.ensures in
    let at = c.in-Ok.ensures.found in
    sound_off (change.Replaced c.args.key.now c.args.value c.args.rows c.args.new_rows.now) old _ c.requires refl (λ i. record { info = e.info i; records = e.records (key_tree_of c.args.key.now) at.0 at.1.stands i })
    (omega (arith, c.requires.spare.0, e.spare), omega (arith, c.requires.spare.1, e.row_spare))
    c.requires.removed (omega (arith, c.requires.rows, c.count.ensures))

pub returns-clause-content : goal.returns-clause-content
returns-clause-content g c =
    let e = c.replace_at.ensures in
    let at = c.in-Ok.ensures.found in
    λ i. record { info = e.info i; records = e.records (key_tree_of c.args.key.now) at.0 at.1.stands i }
