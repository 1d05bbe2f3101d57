use Rattle.std.proofs.Common.{[], sym, ap, ◌∙◌}
use Rattle.record_changes.specs.Loosened.{meant, with_indexes_at}
use Rattle.record_changes.proofs.Asides.{overridden, bare_there, bare_unique}
use Rattle.record_changes.proofs.loosening.loosen.Goals as goal

pub returns-in-Ok-clause-same : goal.returns-in-Ok-clause-same
returns-in-Ok-clause-same g c =
    let made = c.in-Ok.ensures.made ∙ ap (with_indexes_at c.args.items.now c.args.db.now c.args.name.now) c.new.ensures in
    ap (λ m. meant m c.keep_aside.new.aside) made
    ∙ overridden c.args.items.now c.keep_aside.new.aside c.args.db.now c.args.name.now [] c.in_ok-keep_aside.ensures.kept
    ∙ c.in_ok-keep_aside.ensures.same

pub returns-in-Ok-clause-none : goal.returns-in-Ok-clause-none
returns-in-Ok-clause-none g c =
    bare_unique c.args.items.now c.set_indexes_at-2.new.items c.args.db.now c.args.name.now (c.in-Ok.ensures.made ∙ ap (with_indexes_at c.args.items.now c.args.db.now c.args.name.now) c.new.ensures)

pub returns-in-Ok-clause-kept : goal.returns-in-Ok-clause-kept
returns-in-Ok-clause-kept g c = λ there.
    c.in_ok-keep_aside.ensures.kept (sym (bare_there c.args.items.now c.set_indexes_at-2.new.items c.args.db.now c.args.name.now c.new.result c.in-Ok.ensures.made) ∙ there)
