use Rattle.std.proofs.Common.{◌≡◌, length, sym, ap, ◌∙◌, rules, subst}
use Rattle.std.specs.FinMap as finite
use Rattle.idb_databases.specs.Stores.{AreStores}
use Rattle.live_stores.proofs.Endings.{count_given, sound_stores}
use Rattle.live_stores.proofs.stores.Stores.len.Goals as goal

pub returns-clause-count : goal.returns-clause-count
returns-clause-count g c =
    let n : c.len.result ≡ length c.self.inside.items.items = search rules in
    n ∙ sym (count_given c.self.inside.items.items c.self.invariant) ∙ ap finite.len c.self.view_is

pub returns-clause-sound : goal.returns-clause-sound
returns-clause-sound g c = subst AreStores c.self.view_is (sound_stores c.self.inside.items.items c.self.invariant)
