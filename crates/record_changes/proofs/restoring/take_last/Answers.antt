use Rattle.std.proofs.Common.{◌+◌, ◌-◌, sym, ap, ◌∙◌, arith}
use Rattle.std.proofs.lemmas.Option.{none-some}
use Rattle.std.specs.FinMap as finite
use Rattle.record_changes.proofs.Back.{last_stands, one_fewer}
use Rattle.record_changes.proofs.Unbroken.{entry_found}
use Rattle.record_changes.proofs.restoring.take_last.Goals as goal

pub unreachable-requires : goal.unreachable-requires
unreachable-requires g c = last_stands c.args.stores.now (c.len-last.result - 1) (omega (arith, c.len-last.ensures.count, c.requires)) c.in-None.ensures

pub unreachable-requires-in-None-remove : goal.unreachable-requires-in-None-remove
unreachable-requires-in-None-remove g c =
    let x = c.in-Some.store.now.store in
    none-some x (c.in-None-remove.ensures.taken ∙ ap (finite.get c.args.stores.now) (c.in_ok-name-in-Some.ensures ∙ ap (λ i. i.name) c.info.ensures.info) ∙ entry_found c.args.stores.now (c.len-last.result - 1) (x.info.name, x) (sym c.in-Some.ensures))

pub returns-clause-there : goal.returns-clause-there
returns-clause-there g c =
    let named = (c.len-last.ensures.sound c.in_ok-name-in-Some.name c.in-Some-remove.store.store (sym c.in-Some-remove.ensures.taken)).0 in
    ap (finite.get c.args.stores.now) named ∙ sym c.in-Some-remove.ensures.taken

pub returns-clause-left : goal.returns-clause-left
returns-clause-left g c =
    c.in-Some-remove.ensures.left ∙ ap (finite.remove c.args.stores.now) (sym (c.len-last.ensures.sound c.in_ok-name-in-Some.name c.in-Some-remove.store.store (sym c.in-Some-remove.ensures.taken)).0)

pub returns-clause-count : goal.returns-clause-count
returns-clause-count g c =
    ap (λ m. finite.len m + 1) c.in-Some-remove.ensures.left ∙ one_fewer c.args.stores.now c.in_ok-name-in-Some.name c.in-Some-remove.store.store (sym c.in-Some-remove.ensures.taken) c.requires
