use Rattle.std.proofs.Common.{◌∙◌, sym, ap, subst}
use Rattle.item_changes.specs.Items.{stores_in}
use Rattle.idb_databases.specs.Stores.{AreStores}
use Rattle.live_stores.specs.Slots.{stores_now}
use Rattle.live_stores.proofs.Databases.{stores_back}
use Rattle.live_stores.proofs.Endings.{sound_now}
use Rattle.live_stores.proofs.live.LiveStores.stand_sound.Goals as goal

pub returns : goal.returns
returns g c =
    subst AreStores
    (sym (stores_back c.self.inside.version (stores_now c.self.inside.items.items) c.self.invariant.none_now) ∙ ap (λ d. stores_in d.database) c.self.view_is)
    (sound_now c.self.inside.items.items c.self.invariant.slots)
