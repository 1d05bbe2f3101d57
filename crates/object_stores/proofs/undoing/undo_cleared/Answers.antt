use Rattle.std.proofs.Common.{arith, refl}
use Rattle.object_stores.specs.declared.changes.Change.TheVariants as change
use Rattle.object_stores.proofs.Off.{sound_off}
use Rattle.object_stores.proofs.undoing.undo_cleared.Goals as goal

pub returns-clause-sound : goal.returns-clause-sound
returns-clause-sound g c =
    let old = c.args.parts.now in
    let e = c.put_all_back.ensures in
    sound_off (change.Cleared c.args.emptied c.args.removed c.args.rows) old _ c.requires refl (λ i. record { info = e.info i; records = e.records i })
    (omega (arith, c.requires.kept.2.0, e.spare), omega (arith, c.requires.kept.2.1, e.row_spare))
    c.requires.kept.0 c.requires.kept.1
