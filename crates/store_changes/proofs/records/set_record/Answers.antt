use Rattle.std.proofs.Common.{sym, ap, ◌∙◌}
use Rattle.clone_values.specs.View.{key_tree_of, tree_of}
use Rattle.object_stores.specs.Changed.{with_current}
use Rattle.store_changes.proofs.Stored.{set_back, kept_number}
use Rattle.store_changes.proofs.records.set_record.Goals as goal

pub returns-then-info-clause-set : goal.returns-then-info-clause-set
returns-then-info-clause-set g c =
    c.set_current.ensures.store
    ∙ ap (with_current c.store_record.new.self.store) c.current-current.ensures.value
    ∙ set_back c.args.store.now.store c.store_record.new.self.store (key_tree_of c.args.key) (key_tree_of c.in-Ok.key) (tree_of c.args.value) c.in-Ok.ensures.stored

pub returns-else-info-clause-set : goal.returns-else-info-clause-set
returns-else-info-clause-set g c =
    kept_number c.args.store.now.store c.store_record.new.self.store (key_tree_of c.args.key) (key_tree_of c.in-Ok.key) (tree_of c.args.value) c.in-Ok.ensures.stored
    (sym (ap (λ i. i.auto) c.info.ensures.info) ∙ c.if-info.false)
