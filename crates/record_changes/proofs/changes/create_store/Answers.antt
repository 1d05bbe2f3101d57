use Rattle.std.proofs.Common.{sym, ap, ◌∙◌}
use Rattle.record_changes.specs.Loosened.{meant}
use Rattle.record_changes.proofs.EachKind.{created_found}
use Rattle.record_changes.proofs.Asides.{created_made, blank_forgotten}
use Rattle.record_changes.proofs.changes.create_store.Goals as goal

pub returns-then-branch-clause-made : goal.returns-then-branch-clause-made
returns-then-branch-clause-made g c =
    ap (λ m. meant m c.forget.new.aside) (c.in_ok-change_safely.ensures.made c.if-branch.true)
    ∙ created_made c.args.items.now c.args.aside.now c.forget.new.aside c.args.db c.args.store c.in_ok-forget.ensures c.args.path c.args.auto

pub returns-then-branch-clause-found : goal.returns-then-branch-clause-found
returns-then-branch-clause-found g c =
    created_found c.args.items.now c.args.aside.now c.args.db c.args.store c.args.path c.args.auto ∙ sym c.in_ok-change_safely.ensures.found ∙ c.if-branch.true

pub returns-then-branch-clause-blank : goal.returns-then-branch-clause-blank
returns-then-branch-clause-blank g c = blank_forgotten c.args.aside.now c.forget.new.aside c.args.db c.args.store c.in_ok-forget.ensures

pub returns-else-branch-clause-damaged : goal.returns-else-branch-clause-damaged
returns-else-branch-clause-damaged g c = λ h.
    created_found c.args.items.now c.args.aside.now c.args.db c.args.store c.args.path c.args.auto ∙ sym c.in_ok-change_safely.ensures.found ∙ c.if-branch.false
