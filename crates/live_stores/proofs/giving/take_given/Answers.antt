use Rattle.std.proofs.Common.{sym, ap, ◌∙◌, not, arith}
use Rattle.std.specs.Ordering.{eq_by_cmp}
use Rattle.std.specs.FinMap.Entries.{is_sorted-where_key}
use Rattle.item_changes.specs.Items.{name_cmp}
use Rattle.item_changes.proofs.Laws.{names_total, one_name}
use Rattle.sorted_table.proofs.Laws.{place_within, removed}
use Rattle.idb_databases.proofs.Laws.{all_found, all_without}
use Rattle.live_stores.specs.Slots.{slot_now, stores_now, IsGiven}
use Rattle.live_stores.proofs.Shown.{without_hides}
use Rattle.live_stores.proofs.Places.{found_here, now_here, none_here, remove_none}
use Rattle.live_stores.proofs.Endings.{held_there, given_slots}
use Rattle.live_stores.proofs.giving.take_given.Goals as goal

pub remove-slot-requires : goal.remove-slot-requires
remove-slot-requires g c =
    omega (arith, place_within c.args.items.now.items c.in-Ok.place c.args.name.now (rw c.deref.ensures.value at c.in-Ok.ensures.found))

pub returns-in-Ok-clause-store : goal.returns-in-Ok-clause-store
returns-in-Ok-clause-store g c = (held_there c.args.name.now c.remove-slot.result.1 _ (all_found name_cmp one_name IsGiven c.args.name.now c.args.items.now.items c.remove-slot.result.1 c.requires.sound (found_here c.args.items.now.items c.args.name.now c.in-Ok.place c.remove-slot.result (rw c.deref.ensures.value at c.in-Ok.ensures.found) c.remove-slot.ensures.value)) c.held_given.ensures).0 ∙ sym (now_here c.args.items.now.items c.args.name.now c.in-Ok.place c.remove-slot.result (given_slots c.args.items.now.items c.requires) (rw c.deref.ensures.value at c.in-Ok.ensures.found) c.remove-slot.ensures.value)

pub returns-in-Ok-clause-settled : goal.returns-in-Ok-clause-settled
returns-in-Ok-clause-settled g c = (held_there c.args.name.now c.remove-slot.result.1 _ (all_found name_cmp one_name IsGiven c.args.name.now c.args.items.now.items c.remove-slot.result.1 c.requires.sound (found_here c.args.items.now.items c.args.name.now c.in-Ok.place c.remove-slot.result (rw c.deref.ensures.value at c.in-Ok.ensures.found) c.remove-slot.ensures.value)) c.held_given.ensures).1

pub returns-in-Ok-clause-left : goal.returns-in-Ok-clause-left
returns-in-Ok-clause-left g c =
    ap stores_now (c.remove-slot.ensures.items ∙ removed names_total c.args.items.now.items c.in-Ok.place c.args.name.now (rw c.deref.ensures.value at c.in-Ok.ensures.found))
    ∙ without_hides names_total slot_now one_name c.args.items.now.items c.args.name.now c.requires.sorted

pub returns-in-Ok-clause-given : goal.returns-in-Ok-clause-given
returns-in-Ok-clause-given g c =
    rw (c.remove-slot.ensures.items ∙ removed names_total c.args.items.now.items c.in-Ok.place c.args.name.now (rw c.deref.ensures.value at c.in-Ok.ensures.found)) (record {
      sorted = is_sorted-where_key name_cmp (λ x. not (eq_by_cmp name_cmp c.args.name.now x)) c.args.items.now.items c.requires.sorted;
      sound = all_without name_cmp one_name IsGiven c.args.name.now c.args.items.now.items c.requires.sound;
    })

pub returns-in-Err-clause-store : goal.returns-in-Err-clause-store
returns-in-Err-clause-store g c = sym (none_here c.args.items.now.items c.args.name.now c.in-Err.field-0 c.requires.sorted (rw c.deref.ensures.value at c.in-Err.ensures.absent))

pub returns-in-Err-clause-left : goal.returns-in-Err-clause-left
returns-in-Err-clause-left g c =
    remove_none _ c.args.name.now (none_here c.args.items.now.items c.args.name.now c.in-Err.field-0 c.requires.sorted (rw c.deref.ensures.value at c.in-Err.ensures.absent))
