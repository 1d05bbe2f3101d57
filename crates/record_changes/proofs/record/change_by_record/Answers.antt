use Rattle.std.proofs.Common.{sym, ap, ◌∙◌}
use Rattle.item_changes.specs.Effects.{applied_all, all_apply}
use Rattle.record_changes.specs.Loosened.{meant}
use Rattle.record_changes.proofs.Whole.{can_all, nothing_yet, blank_yet, record_made, record_unfound, record_broken, record_too_large}
use Rattle.record_changes.proofs.record.change_by_record.Goals as goal

pub make_all-requires-clause-can : goal.make_all-requires-clause-can
make_all-requires-clause-can g c κs within = can_all c.args.record.deltas c.requires.deltas

pub make_all-requires-clause-blank : goal.make_all-requires-clause-blank
make_all-requires-clause-blank g c κs within = blank_yet c.new-aside.result c.new-aside.ensures

pub returns-in-Err-clause-damaged : goal.returns-in-Err-clause-damaged
returns-in-Err-clause-damaged g c = λ h.
    record_unfound c.args.items.now c.args.record (ap (λ m. all_apply m c.args.record.deltas) (sym (nothing_yet c.args.items.now c.new-aside.result c.new-aside.ensures)) ∙ c.in-Err.ensures.damaged h)

pub returns-in-Err-restore-clause-damaged : goal.returns-in-Err-restore-clause-damaged
returns-in-Err-restore-clause-damaged g c = λ h.
    let made = c.in-Ok.ensures.made ∙ ap (λ m. applied_all m c.args.record.deltas) (nothing_yet c.args.items.now c.new-aside.result c.new-aside.ensures) in
    record_broken c.args.items.now c.args.record (meant c.make_all.new.items c.make_all.new.aside) made (c.in-Err-restore.ensures.damaged h)

pub returns-then-are_within_limits-clause-made : goal.returns-then-are_within_limits-clause-made
returns-then-are_within_limits-clause-made g c =
    let start = nothing_yet c.args.items.now c.new-aside.result c.new-aside.ensures in
    let made = c.in-Ok-restore.ensures.made ∙ c.in-Ok.ensures.made ∙ ap (λ m. applied_all m c.args.record.deltas) start in
    record_made c.args.items.now c.args.record c.restore.new.items made c.len-whole.ensures.sound
    (ap (λ m. all_apply m c.args.record.deltas) (sym start) ∙ c.in-Ok.ensures.found) (sym c.are_within_limits.ensures ∙ c.if-are_within_limits.true)

pub returns-else-are_within_limits-clause-damaged : goal.returns-else-are_within_limits-clause-damaged
returns-else-are_within_limits-clause-damaged g c = λ h.
    let start = nothing_yet c.args.items.now c.new-aside.result c.new-aside.ensures in
    let made = c.in-Ok-restore.ensures.made ∙ c.in-Ok.ensures.made ∙ ap (λ m. applied_all m c.args.record.deltas) start in
    record_too_large c.args.items.now c.args.record c.restore.new.items made (sym c.are_within_limits.ensures ∙ c.if-are_within_limits.false)
