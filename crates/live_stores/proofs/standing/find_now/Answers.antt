use Rattle.std.proofs.Common.{Some, sym, ap, ◌∙◌, subst}
use Rattle.std.specs.Option.{option_and_then}
use Rattle.item_changes.specs.Items.{name_cmp}
use Rattle.item_changes.proofs.Laws.{names_total, one_name}
use Rattle.idb_databases.proofs.Laws.{all_found}
use Rattle.live_stores.specs.Slots.{slot_now, IsSlotNamed, IsNamedIf}
use Rattle.live_stores.proofs.Shown.{get_shown}
use Rattle.live_stores.proofs.standing.find_now.Goals as goal

pub returns-in-Some-held_now-clause-store : goal.returns-in-Some-held_now-clause-store
returns-in-Some-held_now-clause-store g c =
    ap Some c.store.ensures ∙ c.in-Some-held_now.ensures
    ∙ sym (get_shown names_total slot_now c.args.items.now c.args.name.now c.requires.sorted ∙ ap (option_and_then slot_now) (sym c.in-Some.ensures))

pub returns-in-Some-held_now-clause-named : goal.returns-in-Some-held_now-clause-named
returns-in-Some-held_now-clause-named g c =
    subst (IsNamedIf c.args.name.now) (sym (ap Some c.store.ensures ∙ c.in-Some-held_now.ensures))
    (all_found name_cmp one_name IsSlotNamed c.args.name.now c.args.items.now c.in-Some.slot.now c.requires.named (sym c.in-Some.ensures)).0

pub returns-in-None-held_now-clause-store : goal.returns-in-None-held_now-clause-store
returns-in-None-held_now-clause-store g c =
    c.in-None-held_now.ensures
    ∙ sym (get_shown names_total slot_now c.args.items.now c.args.name.now c.requires.sorted ∙ ap (option_and_then slot_now) (sym c.in-Some.ensures))

pub returns-in-None-clause-store : goal.returns-in-None-clause-store
returns-in-None-clause-store g c =
    sym (get_shown names_total slot_now c.args.items.now c.args.name.now c.requires.sorted ∙ ap (option_and_then slot_now) (sym c.in-None.ensures))
