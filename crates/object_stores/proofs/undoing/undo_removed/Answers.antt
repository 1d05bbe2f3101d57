use Rattle.std.proofs.Common.{arith, refl}
use Rattle.object_stores.specs.declared.changes.Change.TheVariants as change
use Rattle.object_stores.proofs.Off.{sound_off}
use Rattle.object_stores.proofs.undoing.undo_removed.Goals as goal

pub put_at-requires-clause-rooms : goal.put_at-requires-clause-rooms
put_at-requires-clause-rooms g c = omega (arith, c.requires.spare.1)

pub returns-clause-sound : goal.returns-clause-sound
returns-clause-sound g c =
    let old = c.args.parts.now in
    let e = c.put_at.ensures in
    sound_off (change.Removed c.args.key c.args.value c.args.rows) old _ c.requires refl (λ i. record { info = e.info i; records = e.records i })
    (omega (arith, c.requires.spare.0, e.spare), omega (arith, c.requires.spare.1, e.row_spare))
    (omega (arith, c.requires.removed)) (omega (arith, c.requires.rows, c.count.ensures))
