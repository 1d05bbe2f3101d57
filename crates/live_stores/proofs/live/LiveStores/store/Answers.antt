use Rattle.std.proofs.Common.{ap, ◌∙◌, option_map}
use Rattle.list_machine.specs.Requests.{store_under}
use Rattle.live_stores.specs.Slots.{stores_now}
use Rattle.live_stores.proofs.Databases.{shown_under}
use Rattle.live_stores.proofs.live.LiveStores.store.Goals as goal

pub returns-clause-store : goal.returns-clause-store
returns-clause-store g c =
    (rw c.deref.ensures.value at c.find_now.ensures.store)
    ∙ shown_under c.self.inside.version (stores_now c.self.inside.items.items) c.args.name.now c.self.invariant.none_now
    ∙ ap (λ d. option_map (λ here. here.store) (store_under d.database c.args.name.now)) c.self.view_is
