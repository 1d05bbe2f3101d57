use Rattle.std.proofs.Common.{Some, subst}
use Rattle.std.specs.FinMap as finite
use Rattle.clone_values.specs.View.{tree_of}
use Rattle.store_requests.specs.Runs.{clearing}
use Rattle.live_stores.specs.Live.{done_here, HasDone}
use Rattle.live_stores.specs.Slots.{stores_now, live_seen}
use Rattle.live_stores.proofs.Databases.{live_done, live_kept}
use Rattle.live_stores.proofs.Living.{can_clear}
use Rattle.live_stores.proofs.live.LiveStores.clear_store.Goals as goal

pub change_in-requires-clause-can : goal.change_in-requires-clause-can
change_in-requires-clause-can g c κs within = can_clear (finite.get (stores_now c.self.inside.items.items) c.args.names.now.store)

pub invariant_of-self : goal.invariant_of-self
invariant_of-self g c = live_kept c.self.inside.version_before c.self.inside.version c.self.inside.items.items c.change_in.new.items.items c.self.invariant c.change_in.ensures.slots c.change_in.ensures.before c.change_in.ensures.none

pub returns-in-Ok-clause-cleared : goal.returns-in-Ok-clause-cleared
returns-in-Ok-clause-cleared g c =
    subst (λ d. HasDone (done_here d c.args.names.now.store (λ x. clearing c.args.names.now x)) (Some (tree_of c.in-Ok.answer)) d (live_seen c.self.inside.version_before c.self.inside.version c.change_in.new.items.items) c.args.changes.now c.change_in.new.changes) c.self.view_is
    (live_done c.self.inside.version_before c.self.inside.version c.self.inside.items.items c.change_in.new.items.items c.args.names.now.store (λ x. clearing c.args.names.now x) (Some (tree_of c.in-Ok.answer)) c.args.changes.now c.change_in.new.changes c.self.invariant c.change_in.ensures.before c.in-Ok.ensures.ran)

pub invariant_of-self-in-Err-NoMemory : goal.invariant_of-self-in-Err-NoMemory
invariant_of-self-in-Err-NoMemory g c = live_kept c.self.inside.version_before c.self.inside.version c.self.inside.items.items c.change_in.new.items.items c.self.invariant c.change_in.ensures.slots c.change_in.ensures.before c.change_in.ensures.none
