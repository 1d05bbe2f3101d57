use Rattle.std.proofs.Common.{refl}
use Rattle.object_stores.proofs.Logged.{sound_fresh}
use Rattle.object_stores.proofs.whole.new_parts.Goals as goal

pub returns-clause-sound : goal.returns-clause-sound
returns-clause-sound g c = sound_fresh _ c.new.ensures.items c.requires refl refl
