use Rattle.std.proofs.Common.{◌≡◌, Some, sym, ap, ◌∙◌, subst, is_none, true}
use Rattle.item_changes.specs.Effects.{new_store}
use Rattle.idb_calls.specs.Deltas.{CreateStore}
use Rattle.live_stores.specs.Live.{finds_in, with_delta}
use Rattle.live_stores.specs.Slots.{stores_now}
use Rattle.live_stores.proofs.Places.{err_weaker}
use Rattle.live_stores.proofs.Databases.{live_same, live_made}
use Rattle.live_stores.proofs.Living.{grown, there_in, ok_weaker}
use Rattle.live_stores.proofs.live.LiveStores.create_store.Goals as goal

pub invariant_of-self : goal.invariant_of-self
invariant_of-self g c =
    grown c.self.inside.items.items c.self.inside.version_before c.self.inside.version c.create_in.new.items.items c.self.invariant c.create_in.ensures.slots c.create_in.ensures.before
    (there_in c.self.inside.version (stores_now c.self.inside.items.items) c.args.names.now.store is_none (λ there. Some (new_store c.args.names.now.store c.args.path c.args.auto)) (subst (λ d. finds_in d (CreateStore c.args.names.now.database c.args.names.now.store c.args.path c.args.auto) ≡ true) (sym c.self.view_is) c.requires.free))

pub returns-clause-created : goal.returns-clause-created
returns-clause-created g c =
    ok_weaker _ (λ h. live_made c.self.inside.version_before c.self.inside.version c.self.inside.items.items c.create_in.new.items.items c.args.names.now.store is_none (λ there. Some (new_store c.args.names.now.store c.args.path c.args.auto)) c.create_in.ensures.before h ∙ ap (λ d. with_delta d (CreateStore c.args.names.now.database c.args.names.now.store c.args.path c.args.auto)) c.self.view_is) c.create_in.ensures.made

pub returns-clause-unchanged : goal.returns-clause-unchanged
returns-clause-unchanged g c = err_weaker _ (λ h. live_same c.self.inside.version_before c.self.inside.version c.self.inside.items.items c.create_in.new.items.items c.create_in.ensures.before h ∙ c.self.view_is) c.create_in.ensures.unchanged
