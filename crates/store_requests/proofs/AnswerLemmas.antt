-- The Array of the values of keys.
use Rattle.std.proofs.Common.{◌≡◌, List, [], ◌∷◌, map, refl, ap}
use Rattle.clone_values.specs.Tree.{trees_of, tree_more}
use Rattle.clone_values.specs.KeyTree.{KeyTree, key_trees_of}
use Rattle.clone_values.specs.KeyValues.{value_of_key, values_of_keys}

pub values_listed : (ks : List KeyTree) → values_of_keys (key_trees_of ks) ≡ trees_of (map value_of_key ks)
values_listed [] = refl
values_listed (k ∷ ks) = ap (tree_more (value_of_key k)) (values_listed ks)
