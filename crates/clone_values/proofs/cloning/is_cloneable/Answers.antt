use Rattle.clone_values.specs.View.{tree_of}
use Rattle.clone_values.proofs.CloneableLemmas.{told}
use Rattle.clone_values.proofs.cloning.is_cloneable.Goals as goal

pub returns : goal.returns
returns c = told (tree_of c.args.v.now) c.is_within.result c.is_within.ensures
