use Rattle.std.proofs.Common.{◌≡◌, sym, ap, ◌∙◌, subst, true}
use Rattle.item_changes.specs.Effects.{if_there, is_store_with, has_index_named, store_without_index_named}
use Rattle.idb_calls.specs.Deltas.{DropIndex}
use Rattle.live_stores.specs.Live.{finds_in, with_delta}
use Rattle.live_stores.specs.Slots.{stores_now}
use Rattle.live_stores.proofs.Databases.{live_made, live_kept}
use Rattle.live_stores.proofs.Living.{index_gone}
use Rattle.live_stores.proofs.live.LiveStores.drop_index.Goals as goal

pub invariant_of-self : goal.invariant_of-self
invariant_of-self g c = live_kept c.self.inside.version_before c.self.inside.version c.self.inside.items.items c.change_in.new.items.items c.self.invariant c.change_in.ensures.slots c.change_in.ensures.before c.change_in.ensures.none

pub returns-in-Ok-clause-dropped : goal.returns-in-Ok-clause-dropped
returns-in-Ok-clause-dropped g c =
    live_made c.self.inside.version_before c.self.inside.version c.self.inside.items.items c.change_in.new.items.items c.args.names.now.store (is_store_with (has_index_named c.args.index.now)) (if_there (store_without_index_named c.args.index.now)) c.change_in.ensures.before
    (index_gone c.self.inside.version c.args.names.now c.args.names.now.store (stores_now c.self.inside.items.items) (stores_now c.change_in.new.items.items) _ _ c.args.index _ (if_there (store_without_index_named c.args.index.now)) (subst (λ d. finds_in d (DropIndex c.args.names.now.database c.args.names.now.store c.args.index.now) ≡ true) (sym c.self.view_is) c.requires) c.in-Ok.ensures.ran)
    ∙ ap (λ d. with_delta d (DropIndex c.args.names.now.database c.args.names.now.store c.args.index.now)) c.self.view_is

pub invariant_of-self-in-Err-NoMemory : goal.invariant_of-self-in-Err-NoMemory
invariant_of-self-in-Err-NoMemory g c = live_kept c.self.inside.version_before c.self.inside.version c.self.inside.items.items c.change_in.new.items.items c.self.invariant c.change_in.ensures.slots c.change_in.ensures.before c.change_in.ensures.none
