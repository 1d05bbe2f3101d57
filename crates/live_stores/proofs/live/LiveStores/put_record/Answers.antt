use Rattle.std.proofs.Common.{Some, None, sym, ◌∙◌, subst}
use Rattle.std.specs.Prelude.{option_map}
use Rattle.std.proofs.lemmas.Result.{IfOk-weaker}
use Rattle.clone_values.specs.View.{tree_of, key_tree_of}
use Rattle.store_requests.specs.Runs.{storing}
use Rattle.list_machine.specs.Requests.{store_under}
use Rattle.live_stores.specs.Live.{CanStoreHere, done_here, HasDone}
use Rattle.live_stores.specs.Slots.{stores_now, live_seen}
use Rattle.live_stores.proofs.Places.{err_weaker}
use Rattle.live_stores.proofs.Databases.{live_same, live_done, live_kept, can_put}
use Rattle.live_stores.proofs.live.LiveStores.put_record.Goals as goal

pub change_in-requires-clause-can : goal.change_in-requires-clause-can
change_in-requires-clause-can g c κs within =
    can_put c.self.inside.version (stores_now c.self.inside.items.items) c.args.names.now.store c.args.value c.args.key c.args.add c.self.invariant.none_now
    (subst (λ d. CanStoreHere (store_under d.database c.args.names.now.store) (tree_of c.args.value) (option_map key_tree_of c.args.key)) (sym c.self.view_is) c.requires)

pub invariant_of-self : goal.invariant_of-self
invariant_of-self g c = live_kept c.self.inside.version_before c.self.inside.version c.self.inside.items.items c.change_in.new.items.items c.self.invariant c.change_in.ensures.slots c.change_in.ensures.before c.change_in.ensures.none

pub returns-clause-stored : goal.returns-clause-stored
returns-clause-stored g c =
    IfOk-weaker _ _ _ (λ v h. subst (λ d. HasDone (done_here d c.args.names.now.store (λ x. storing c.args.names.now x (tree_of c.args.value) (option_map key_tree_of c.args.key) c.args.add)) (Some (tree_of v)) d (live_seen c.self.inside.version_before c.self.inside.version c.change_in.new.items.items) c.args.changes.now c.change_in.new.changes) c.self.view_is
    (live_done c.self.inside.version_before c.self.inside.version c.self.inside.items.items c.change_in.new.items.items c.args.names.now.store (λ x. storing c.args.names.now x (tree_of c.args.value) (option_map key_tree_of c.args.key) c.args.add) (Some (tree_of v)) c.args.changes.now c.change_in.new.changes c.self.invariant c.change_in.ensures.before h)) c.change_in.ensures.ran

pub returns-clause-refused : goal.returns-clause-refused
returns-clause-refused g c = λ is.
    subst (λ d. HasDone (done_here d c.args.names.now.store (λ x. storing c.args.names.now x (tree_of c.args.value) (option_map key_tree_of c.args.key) c.args.add)) None d (live_seen c.self.inside.version_before c.self.inside.version c.change_in.new.items.items) c.args.changes.now c.change_in.new.changes) c.self.view_is
    (live_done c.self.inside.version_before c.self.inside.version c.self.inside.items.items c.change_in.new.items.items c.args.names.now.store (λ x. storing c.args.names.now x (tree_of c.args.value) (option_map key_tree_of c.args.key) c.args.add) None c.args.changes.now c.change_in.new.changes c.self.invariant c.change_in.ensures.before (c.change_in.ensures.refused is))

pub returns-clause-unchanged : goal.returns-clause-unchanged
returns-clause-unchanged g c = err_weaker _ (λ h. live_same c.self.inside.version_before c.self.inside.version c.self.inside.items.items c.change_in.new.items.items c.change_in.ensures.before h ∙ c.self.view_is) c.change_in.ensures.unchanged
