use Rattle.std.proofs.Common.{ap, ◌∙◌}
use Rattle.clone_values.specs.View.{key_tree_of}
use Rattle.object_stores.specs.Changed.{without_range}
use Rattle.store_changes.proofs.Removed.{record_gone}
use Rattle.store_changes.proofs.records.delete_only.Goals as goal

pub returns-in-Ok-clause-removed : goal.returns-in-Ok-clause-removed
returns-in-Ok-clause-removed g c =
    c.in-Ok.ensures.deleted
    ∙ ap (without_range c.args.store.now.store) c.in_ok-range.ensures
    ∙ record_gone c.args.store.now.store (key_tree_of c.args.key)
