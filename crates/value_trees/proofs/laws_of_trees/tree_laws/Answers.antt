use Rattle.value_trees.proofs.SamenessLaws.{tree_decides}
use Rattle.value_trees.proofs.Lists.{trees_again, members_again, pairs_again}
use Rattle.value_trees.proofs.laws_of_trees.tree_laws.Goals as goal

pub returns : goal.returns
returns c = record { decides = tree_decides; items = trees_again; properties = members_again; entries = pairs_again }
