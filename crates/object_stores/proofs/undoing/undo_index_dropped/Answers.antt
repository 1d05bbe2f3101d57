use Rattle.std.proofs.Common.{arith, refl}
use Rattle.object_stores.specs.declared.changes.Change.TheVariants as change
use Rattle.object_stores.proofs.Off.{sound_off}
use Rattle.object_stores.proofs.undoing.undo_index_dropped.Goals as goal

pub returns-clause-sound : goal.returns-clause-sound
returns-clause-sound g c =
    let old = c.args.parts.now in
    let e = c.put_back.ensures in
    sound_off (change.IndexDropped c.args.dropped) old _ c.requires refl (λ i. record { info = e.info i; records = e.records i })
    (omega (arith, c.requires.spare.0, e.spare), omega (arith, c.requires.spare.1, c.requires.kept.0, e.row_spare))
    c.requires.removed c.requires.rows
