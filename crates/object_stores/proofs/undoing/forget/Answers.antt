use Rattle.std.proofs.Common.{refl}
use Rattle.object_stores.specs.Parts.{content_in, log_in}
use Rattle.object_stores.proofs.Logged.{fine_now, sound_fresh}
use Rattle.object_stores.proofs.undoing.forget.Goals as goal

pub returns-clause-sound : goal.returns-clause-sound
returns-clause-sound g c = sound_fresh _ c.clear.ensures.items (fine_now (log_in c.args.parts.now) (content_in c.args.parts.now) c.requires.undo) refl refl
