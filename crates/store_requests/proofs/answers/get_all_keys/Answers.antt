use Rattle.std.proofs.Common.{◌∙◌, ap}
use Rattle.clone_values.specs.Tree.{array, no_members}
use Rattle.clone_values.specs.KeyTree.{key_trees_of}
use Rattle.clone_values.specs.KeyValues.{values_of_keys}
use Rattle.store_requests.proofs.AnswerLemmas.{values_listed}
use Rattle.store_requests.proofs.answers.get_all_keys.Goals as goal

pub returns : goal.returns
returns g c =
    c.in_ok-value.ensures ∙ ap (λ ks. array (values_of_keys (key_trees_of ks)) no_members) c.in_ok-keys.ensures
    ∙ ap (λ ts. array ts no_members) (values_listed _)
