use Rattle.std.proofs.Common.{sym, ap, ◌∙◌}
use Rattle.std.specs.Option.{option_and_then}
use Rattle.std.specs.FinMap as finite
use Rattle.item_changes.specs.Items.{name_cmp}
use Rattle.item_changes.proofs.Laws.{names_total, one_name}
use Rattle.idb_databases.proofs.Laws.{all_found}
use Rattle.live_stores.specs.Slots.{slot_now, IsGiven}
use Rattle.live_stores.proofs.Shown.{get_shown}
use Rattle.live_stores.proofs.Endings.{held_there, copied_past}
use Rattle.live_stores.proofs.stores.Stores.find.Goals as goal

pub returns-in-Some-clause-store : goal.returns-in-Some-clause-store
returns-in-Some-clause-store g c =
    let found = sym (rw c.deref.ensures.value at c.in-Some.ensures) in
    (held_there c.args.name.now c.in-Some.slot.now _ (all_found name_cmp one_name IsGiven c.args.name.now c.self.inside.items.items c.in-Some.slot.now c.self.invariant.sound found) c.given_here.ensures).0
    ∙ sym (get_shown names_total slot_now c.self.inside.items.items c.args.name.now c.self.invariant.sorted ∙ ap (option_and_then slot_now) found)
    ∙ ap (λ m. finite.get m c.args.name.now) c.self.view_is

pub returns-in-Some-clause-settled : goal.returns-in-Some-clause-settled
returns-in-Some-clause-settled g c =
    let found = sym (rw c.deref.ensures.value at c.in-Some.ensures) in
    copied_past _ (held_there c.args.name.now c.in-Some.slot.now _ (all_found name_cmp one_name IsGiven c.args.name.now c.self.inside.items.items c.in-Some.slot.now c.self.invariant.sound found) c.given_here.ensures).1

pub returns-in-None-clause-store : goal.returns-in-None-clause-store
returns-in-None-clause-store g c =
    sym (get_shown names_total slot_now c.self.inside.items.items c.args.name.now c.self.invariant.sorted ∙ ap (option_and_then slot_now) (sym (rw c.deref.ensures.value at c.in-None.ensures)))
    ∙ ap (λ m. finite.get m c.args.name.now) c.self.view_is
