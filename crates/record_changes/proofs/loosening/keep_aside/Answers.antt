use Rattle.std.proofs.Common.{sym, ap, subst, ◌∙◌}
use Rattle.item_changes.specs.Items.{store_at}
use Rattle.record_changes.specs.Loosened.{IsAlso}
use Rattle.record_changes.proofs.Asides.{no_store, kept_too, also_there, blank_also}
use Rattle.record_changes.proofs.Unbroken.{standing}
use Rattle.record_changes.proofs.loosening.keep_aside.Goals as goal

pub returns-in_ok-put_aside-in-Some-clause-same : goal.returns-in_ok-put_aside-in-Some-clause-same
returns-in_ok-put_aside-in-Some-clause-same g c =
    let items = c.args.items.now in
    let aside = c.args.aside.now in
    let db = c.args.db.now in
    let name = c.args.name.now in
    let kept = c.new.result.store in
    let x = c.in-Some.store.now.store in
    let info = ap (λ s. s.info) c.new.ensures.store ∙ c.in_ok-info-in-Some.ensures ∙ c.info.ensures.info in
    let named = (standing items db name x c.len-sound.ensures.sound (sym c.in-Some.ensures)).0 in
    kept_too items aside c.put_aside.new.aside db name x kept (sym c.in-Some.ensures) (no_store (store_at aside db name) (sym c.has_store.ensures ∙ c.if-has_store.false)) (ap (λ i. i.indexes) info)
    (subst (λ n. IsAlso db n kept aside c.put_aside.new.aside) (ap (λ i. i.name) info ∙ named) c.in_ok-put_aside-in-Some.ensures)

pub returns-in_ok-put_aside-in-Some-clause-kept : goal.returns-in_ok-put_aside-in-Some-clause-kept
returns-in_ok-put_aside-in-Some-clause-kept g c = λ h.
    let db = c.args.db.now in
    let name = c.args.name.now in
    let kept = c.new.result.store in
    let info = ap (λ s. s.info) c.new.ensures.store ∙ c.in_ok-info-in-Some.ensures ∙ c.info.ensures.info in
    let named = (standing c.args.items.now db name c.in-Some.store.now.store c.len-sound.ensures.sound (sym c.in-Some.ensures)).0 in
    also_there c.args.aside.now c.put_aside.new.aside db name kept (subst (λ n. IsAlso db n kept c.args.aside.now c.put_aside.new.aside) (ap (λ i. i.name) info ∙ named) c.in_ok-put_aside-in-Some.ensures)

pub returns-in_ok-put_aside-in-Some-clause-blank : goal.returns-in_ok-put_aside-in-Some-clause-blank
returns-in_ok-put_aside-in-Some-clause-blank g c =
    blank_also c.args.aside.now c.put_aside.new.aside c.args.db.now c.new.result.store.info.name c.new.result.store c.in_ok-put_aside-in-Some.ensures (ap (λ s. s.records) c.new.ensures.store)
