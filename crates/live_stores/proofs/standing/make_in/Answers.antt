use Rattle.std.proofs.Common.{ap, ◌∙◌, sym, subst, refl, arith}
use Rattle.sorted_table.proofs.Laws.{place_within}
use Rattle.live_stores.specs.declared.held.Held.TheVariants.{Own}
use Rattle.live_stores.specs.declared.slots.Slot.TheVariants.{Made}
use Rattle.live_stores.specs.Slots.{stores_now, stores_before, AreSlots}
use Rattle.live_stores.proofs.Places.{named_here, set_keeps_before, set_shows, set_slots, insert_shows, insert_before, insert_slots}
use Rattle.live_stores.proofs.standing.make_in.Goals as goal

pub index_mut-requires : goal.index_mut-requires
index_mut-requires g c = omega (arith, place_within c.deref.result.now c.in-Ok.place c.args.name c.in-Ok.ensures.found, c.deref.ensures.len)

pub returns-in-Ok-clause-made : goal.returns-in-Ok-clause-made
returns-in-Ok-clause-made g c = set_shows c.args.items.now.items c.args.name c.in-Ok.place c.index_mut.result.now c.requires.slots (rw c.deref.ensures.value at c.in-Ok.ensures.found) c.index_mut.ensures.value c.make_here.new.slot c.args.store.store c.make_here.ensures.here

pub returns-in-Ok-clause-before : goal.returns-in-Ok-clause-before
returns-in-Ok-clause-before g c = set_keeps_before c.args.items.now.items c.args.name c.in-Ok.place c.index_mut.result.now c.requires.slots (rw c.deref.ensures.value at c.in-Ok.ensures.found) c.index_mut.ensures.value c.make_here.new.slot c.make_here.ensures.before

pub returns-in-Ok-clause-slots : goal.returns-in-Ok-clause-slots
returns-in-Ok-clause-slots g c =
    set_slots c.args.items.now.items c.args.name c.in-Ok.place c.index_mut.result.now c.requires.slots (rw c.deref.ensures.value at c.in-Ok.ensures.found) c.index_mut.ensures.value c.make_here.new.slot
    (rw c.make_here.ensures.here c.requires.named, rw c.make_here.ensures.before (named_here c.args.items.now.items c.args.name c.in-Ok.place c.index_mut.result.now c.requires.slots (rw c.deref.ensures.value at c.in-Ok.ensures.found) c.index_mut.ensures.value).1)

pub returns-in-Err-clause-made : goal.returns-in-Err-clause-made
returns-in-Err-clause-made g c = ap stores_now c.in_ok-insert-in-Err.ensures.items ∙ insert_shows c.args.items.now.items c.args.name c.in-Err.place c.requires.slots.sorted (rw c.deref.ensures.value at c.in-Err.ensures.absent) (Made (Own c.args.store)) c.args.store.store refl

pub returns-in-Err-clause-before : goal.returns-in-Err-clause-before
returns-in-Err-clause-before g c = ap stores_before c.in_ok-insert-in-Err.ensures.items ∙ insert_before c.args.items.now.items c.args.name c.in-Err.place c.requires.slots.sorted (rw c.deref.ensures.value at c.in-Err.ensures.absent) (Made (Own c.args.store)) refl

pub returns-in-Err-clause-slots : goal.returns-in-Err-clause-slots
returns-in-Err-clause-slots g c = subst AreSlots (sym c.in_ok-insert-in-Err.ensures.items) (insert_slots c.args.items.now.items c.args.name c.in-Err.place c.requires.slots.sorted (rw c.deref.ensures.value at c.in-Err.ensures.absent) (Made (Own c.args.store)) c.requires.slots (c.requires.named, tt))
