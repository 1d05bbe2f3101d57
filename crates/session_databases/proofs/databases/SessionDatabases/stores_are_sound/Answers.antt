use Rattle.std.proofs.Common.{◌∙◌, ap}
use Rattle.std.specs.FinMap as finite
use Rattle.session_databases.proofs.Opened.{sound_at}
use Rattle.session_databases.proofs.databases.SessionDatabases.stores_are_sound.Goals as goal

pub returns : goal.returns
returns g c name d at = sound_at c.self.inside.items.items (rw c.deref.ensures.value at c.look_at_stores.ensures) name d (ap (λ m. finite.get m name) c.self.view_is ∙ at)
