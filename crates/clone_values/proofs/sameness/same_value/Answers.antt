use Rattle.value_trees.proofs.Laws.{same_tree_decides}
use Rattle.clone_values.proofs.sameness.same_value.Goals as goal

pub returns : goal.returns
returns c = same_tree_decides _ _ _ c.is_same.ensures
