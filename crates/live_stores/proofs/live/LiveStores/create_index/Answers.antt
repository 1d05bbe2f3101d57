use Rattle.std.proofs.Common.{◌≡◌, sym, ap, ◌∙◌, subst, true}
use Rattle.item_changes.specs.Effects.{if_there, is_store_with, lacks_index_named}
use Rattle.object_stores.specs.Changed.{store_with_index}
use Rattle.idb_calls.specs.Deltas.{CreateIndex}
use Rattle.list_machine.specs.Requests.{store_under}
use Rattle.list_machine.specs.Entries.{is_broken_by}
use Rattle.live_stores.specs.Live.{finds_in, with_delta}
use Rattle.live_stores.specs.Slots.{stores_now}
use Rattle.live_stores.proofs.Databases.{live_made, live_kept, can_index}
use Rattle.live_stores.proofs.Living.{index_made, unbroken_there, broken_there}
use Rattle.std.proofs.Common.{false, Err}
use Rattle.live_stores.proofs.live.LiveStores.create_index.Goals as goal

pub change_in-requires-clause-can : goal.change_in-requires-clause-can
change_in-requires-clause-can g c κs within = can_index c.self.inside.version (stores_now c.self.inside.items.items) c.args.names.now.store c.args.index c.requires.sound (subst (λ d. finds_in d (CreateIndex c.args.names.now.database c.args.names.now.store c.args.index.name c.args.index.path c.args.index.unique c.args.index.multi) ≡ true) (sym c.self.view_is) c.requires.free)

pub invariant_of-self : goal.invariant_of-self
invariant_of-self g c = live_kept c.self.inside.version_before c.self.inside.version c.self.inside.items.items c.change_in.new.items.items c.self.invariant c.change_in.ensures.slots c.change_in.ensures.before c.change_in.ensures.none

pub returns-in-Ok-clause-created : goal.returns-in-Ok-clause-created
returns-in-Ok-clause-created g c =
    live_made c.self.inside.version_before c.self.inside.version c.self.inside.items.items c.change_in.new.items.items c.args.names.now.store (is_store_with (lacks_index_named c.args.index.name)) (if_there (λ x. store_with_index x c.args.index)) c.change_in.ensures.before
    (index_made c.self.inside.version c.args.names.now c.args.names.now.store (stores_now c.self.inside.items.items) (stores_now c.change_in.new.items.items) _ _ c.args.index _ (if_there (λ x. store_with_index x c.args.index)) (subst (λ d. finds_in d (CreateIndex c.args.names.now.database c.args.names.now.store c.args.index.name c.args.index.path c.args.index.unique c.args.index.multi) ≡ true) (sym c.self.view_is) c.requires.free) c.in-Ok.ensures.ran)
    ∙ ap (λ d. with_delta d (CreateIndex c.args.names.now.database c.args.names.now.store c.args.index.name c.args.index.path c.args.index.unique c.args.index.multi)) c.self.view_is

pub returns-in-Ok-clause-unbroken : goal.returns-in-Ok-clause-unbroken
returns-in-Ok-clause-unbroken g c =
    subst (λ d. is_broken_by c.args.index (store_under d.database c.args.names.now.store) ≡ false) c.self.view_is
    (unbroken_there c.self.inside.version c.args.names.now c.args.names.now.store (stores_now c.self.inside.items.items) (stores_now c.change_in.new.items.items) _ _ c.args.index _ c.self.invariant.none_now c.in-Ok.ensures.ran)

pub invariant_of-self-in-Err-Constraint : goal.invariant_of-self-in-Err-Constraint
invariant_of-self-in-Err-Constraint g c = live_kept c.self.inside.version_before c.self.inside.version c.self.inside.items.items c.change_in.new.items.items c.self.invariant c.change_in.ensures.slots c.change_in.ensures.before c.change_in.ensures.none

pub returns-in-Err-Constraint-clause-broken : goal.returns-in-Err-Constraint-clause-broken
returns-in-Err-Constraint-clause-broken g c = λ is.
    subst (λ d. is_broken_by c.args.index (store_under d.database c.args.names.now.store) ≡ true) c.self.view_is
    (broken_there c.self.inside.version c.args.names.now c.args.names.now.store (stores_now c.self.inside.items.items) (stores_now c.change_in.new.items.items) _ _ c.args.index c.self.invariant.none_now (c.in-Err-Constraint.ensures.refused (ap Err c.in-Err-Constraint.field-0-is)))

pub invariant_of-self-in-Err-NoMemory : goal.invariant_of-self-in-Err-NoMemory
invariant_of-self-in-Err-NoMemory g c = live_kept c.self.inside.version_before c.self.inside.version c.self.inside.items.items c.change_in.new.items.items c.self.invariant c.change_in.ensures.slots c.change_in.ensures.before c.change_in.ensures.none
