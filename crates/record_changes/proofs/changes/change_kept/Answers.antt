use Rattle.std.proofs.Common.{◌&&◌, sym, ap, ◌∙◌}
use Rattle.idb_calls.specs.View.{delta_of}
use Rattle.item_changes.specs.Items.{store_at}
use Rattle.item_changes.specs.Effects.{applies}
use Rattle.record_changes.specs.Loosened.{meant}
use Rattle.record_changes.proofs.OnIndexes.{index_made, index_answers, index_blank}
use Rattle.record_changes.proofs.changes.change_kept.Goals as goal
use Rattle.record_changes.proofs.changes.change_kept.Goals.{else-there-via-then-there+else-found, else-there-via-else-there}

pub returns-then-found-clause-made : goal.returns-then-found-clause-made
returns-then-found-clause-made g c =
    ap (meant c.args.items.now) (c.in_ok-found.ensures.made c.if-found.true)
    ∙ index_made c.args.items.now c.args.aside.now c.args.db.now c.args.name.now (delta_of c.args.change) c.requires.indexes (c.requires.kept (sym c.has_store-there.ensures ∙ c.if-there.true))

pub returns-then-found-clause-found : goal.returns-then-found-clause-found
returns-then-found-clause-found g c =
    index_answers c.args.items.now c.args.aside.now c.args.db.now c.args.name.now (delta_of c.args.change) c.requires.indexes c.requires.kept
    ∙ ap (λ b. b && applies c.args.aside.now (delta_of c.args.change)) (sym c.has_store-there.ensures ∙ c.if-there.true) ∙ sym c.in_ok-found.ensures.found ∙ c.if-found.true

pub returns-then-found-clause-blank : goal.returns-then-found-clause-blank
returns-then-found-clause-blank g c = λ db name store e.
    index_blank c.args.items.now c.args.aside.now c.args.db.now c.args.name.now (delta_of c.args.change) c.requires.indexes c.requires.blank db name store
    (sym (ap (λ m. store_at m db name) (c.in_ok-found.ensures.made c.if-found.true)) ∙ e)

pub returns-else-there-clause-damaged : goal.returns-else-there-clause-damaged
returns-else-there-clause-damaged g c =
    let answers = index_answers c.args.items.now c.args.aside.now c.args.db.now c.args.name.now (delta_of c.args.change) c.requires.indexes c.requires.kept in
    elim c.else-there.branch [
      | else-there-via-then-there+else-found w ↦ λ h. answers ∙ ap (λ b. b && applies c.args.aside.now (delta_of c.args.change)) (sym c.has_store-there.ensures ∙ w.if-there.true) ∙ sym c.in_ok-found.ensures.found ∙ w.if-found.false
      | else-there-via-else-there w ↦ λ h. answers ∙ ap (λ b. b && applies c.args.aside.now (delta_of c.args.change)) (sym c.has_store-there.ensures ∙ w.if-there.false)
    ]
