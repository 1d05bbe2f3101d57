use Rattle.std.proofs.Common.{sym, ap, ◌∙◌}
use Rattle.item_changes.specs.Items.{stores_in}
use Rattle.live_stores.specs.Slots.{stores_now}
use Rattle.live_stores.proofs.Databases.{stores_back}
use Rattle.live_stores.proofs.live.LiveStores.into_stores.Goals as goal

pub returns : goal.returns
returns g c =
    c.from_slots.ensures ∙ c.settle_all.ensures.stores
    ∙ sym (stores_back c.self.inside.version (stores_now c.self.inside.items.items) c.self.invariant.none_now)
    ∙ ap (λ d. stores_in d.database) c.self.view_is
