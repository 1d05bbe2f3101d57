use Rattle.clone_values.specs.View.{tree_of}
use Rattle.request_lists.proofs.Clones.{clone_test}
use Rattle.request_lists.proofs.values.can_clone.Goals as goal

pub returns : goal.returns
returns c = clone_test c.is_cloneable.result (tree_of c.args.value.now) c.is_cloneable.ensures
