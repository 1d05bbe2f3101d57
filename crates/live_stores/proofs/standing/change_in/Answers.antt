use Rattle.std.proofs.Common.{Some, sym, subst, arith}
use Rattle.std.proofs.lemmas.Result.{IfOk-weaker}
use Rattle.clone_values.specs.View.{tree_of}
use Rattle.live_stores.specs.Slots.{IsNamedIf}
use Rattle.live_stores.specs.Changing.{change_run, CanRunOn}
use Rattle.live_stores.proofs.Places.{now_here, set_keeps_now, set_keeps_before, set_slots, set_changed, set_none, none_changed, named_here, err_weaker}
use Rattle.sorted_table.proofs.Laws.{place_within, absent}
use Rattle.item_changes.proofs.Laws.{names_total}
use Rattle.live_stores.proofs.standing.change_in.Goals as goal

pub index_mut-requires : goal.index_mut-requires
index_mut-requires g c =
    omega (arith, place_within c.args.items.now.items c.in-Ok.place c.args.names.now.store (rw c.deref.ensures.value at c.in-Ok.ensures.found))

pub run_here-requires-after_bounds : goal.run_here-requires-after_bounds
run_here-requires-after_bounds g c κs within = subst (CanRunOn c.args.change) (now_here c.args.items.now.items c.args.names.now.store c.in-Ok.place c.index_mut.result.now c.requires.slots (rw c.deref.ensures.value at c.in-Ok.ensures.found) c.index_mut.ensures.value) c.requires.can

pub returns-in-Ok-clause-ran : goal.returns-in-Ok-clause-ran
returns-in-Ok-clause-ran g c =
    IfOk-weaker _ _ _ (λ v h. set_changed c.args.items.now.items c.args.names.now.store c.in-Ok.place c.index_mut.result.now c.requires.slots (rw c.deref.ensures.value at c.in-Ok.ensures.found) c.index_mut.ensures.value c.run_here.new.slot (change_run c.args.change c.args.names.now) (Some (tree_of v)) c.args.changes.now c.run_here.new.changes h) c.run_here.ensures.ran

pub returns-in-Ok-clause-refused : goal.returns-in-Ok-clause-refused
returns-in-Ok-clause-refused g c =
    λ is. set_changed c.args.items.now.items c.args.names.now.store c.in-Ok.place c.index_mut.result.now c.requires.slots (rw c.deref.ensures.value at c.in-Ok.ensures.found) c.index_mut.ensures.value c.run_here.new.slot (change_run c.args.change c.args.names.now) _ c.args.changes.now c.run_here.new.changes (c.run_here.ensures.refused is)

pub returns-in-Ok-clause-unchanged : goal.returns-in-Ok-clause-unchanged
returns-in-Ok-clause-unchanged g c = err_weaker _ (set_keeps_now c.args.items.now.items c.args.names.now.store c.in-Ok.place c.index_mut.result.now c.requires.slots (rw c.deref.ensures.value at c.in-Ok.ensures.found) c.index_mut.ensures.value c.run_here.new.slot) c.run_here.ensures.unchanged

pub returns-in-Ok-clause-before : goal.returns-in-Ok-clause-before
returns-in-Ok-clause-before g c = set_keeps_before c.args.items.now.items c.args.names.now.store c.in-Ok.place c.index_mut.result.now c.requires.slots (rw c.deref.ensures.value at c.in-Ok.ensures.found) c.index_mut.ensures.value c.run_here.new.slot c.run_here.ensures.before

pub returns-in-Ok-clause-none : goal.returns-in-Ok-clause-none
returns-in-Ok-clause-none g c = set_none c.args.items.now.items c.args.names.now.store c.in-Ok.place c.index_mut.result.now c.requires.slots (rw c.deref.ensures.value at c.in-Ok.ensures.found) c.index_mut.ensures.value c.run_here.new.slot c.run_here.ensures.vacant

pub returns-in-Ok-clause-slots : goal.returns-in-Ok-clause-slots
returns-in-Ok-clause-slots g c = set_slots c.args.items.now.items c.args.names.now.store c.in-Ok.place c.index_mut.result.now c.requires.slots (rw c.deref.ensures.value at c.in-Ok.ensures.found) c.index_mut.ensures.value c.run_here.new.slot (c.run_here.ensures.named c.args.names.now.store (named_here c.args.items.now.items c.args.names.now.store c.in-Ok.place c.index_mut.result.now c.requires.slots (rw c.deref.ensures.value at c.in-Ok.ensures.found) c.index_mut.ensures.value).0, subst (IsNamedIf c.args.names.now.store) (sym c.run_here.ensures.before) (named_here c.args.items.now.items c.args.names.now.store c.in-Ok.place c.index_mut.result.now c.requires.slots (rw c.deref.ensures.value at c.in-Ok.ensures.found) c.index_mut.ensures.value).1)

pub returns-in-Err-clause-ran : goal.returns-in-Err-clause-ran
returns-in-Err-clause-ran g c =
    none_changed c.args.items.now.items c.args.names.now.store c.requires.slots.sorted (absent names_total _ c.in-Err.field-0 _ (rw c.deref.ensures.value at c.in-Err.ensures.absent)) (change_run c.args.change c.args.names.now) c.args.changes.now
