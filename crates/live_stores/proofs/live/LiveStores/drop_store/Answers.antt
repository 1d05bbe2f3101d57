use Rattle.std.proofs.Common.{◌≡◌, sym, ap, ◌∙◌, subst, is_some, true}
use Rattle.item_changes.specs.Effects.{gone}
use Rattle.idb_calls.specs.Deltas.{DropStore}
use Rattle.live_stores.specs.Live.{finds_in, with_delta}
use Rattle.live_stores.specs.Slots.{stores_now}
use Rattle.live_stores.proofs.Databases.{live_made}
use Rattle.live_stores.proofs.Living.{grown, there_in}
use Rattle.live_stores.proofs.live.LiveStores.drop_store.Goals as goal

pub invariant_of-self : goal.invariant_of-self
invariant_of-self g c =
    grown c.self.inside.items.items c.self.inside.version_before c.self.inside.version c.drop_in.new.items.items c.self.invariant c.drop_in.ensures.slots c.drop_in.ensures.before
    (there_in c.self.inside.version (stores_now c.self.inside.items.items) c.args.names.now.store is_some gone (subst (λ d. finds_in d (DropStore c.args.names.now.database c.args.names.now.store) ≡ true) (sym c.self.view_is) c.requires))

pub returns : goal.returns
returns g c =
    live_made c.self.inside.version_before c.self.inside.version c.self.inside.items.items c.drop_in.new.items.items c.args.names.now.store is_some gone c.drop_in.ensures.before c.drop_in.ensures.dropped
    ∙ ap (λ d. with_delta d (DropStore c.args.names.now.database c.args.names.now.store)) c.self.view_is
