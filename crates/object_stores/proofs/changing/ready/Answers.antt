use Rattle.std.proofs.Common.{refl}
use Rattle.object_stores.proofs.Logged.{sound_again}
use Rattle.object_stores.proofs.changing.ready.Goals as goal

pub returns-clause-sound : goal.returns-clause-sound
returns-clause-sound g c =
    sound_again c.args.parts.now _ c.reserve.ensures.items (λ i. record { info = c.reserve-2.ensures.info i; records = c.reserve-2.ensures.records i }) refl refl
    c.reserve-2.ensures.spare c.reserve-2.ensures.row_spare c.requires
