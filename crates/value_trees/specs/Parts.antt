-- Tests of a value and of every value in it, however deep.
--     every_part            a test passes on the value and on every value in it
--     any_part              a test passes on the value, or on some value in it
use Rattle.std.specs.Prelude.{Bool, true, false, ◌&&◌, ◌||◌}
use Rattle.value_trees.specs.Tree.{Tree, Trees, Members, PairTrees, array, object, map_object, set_object, no_trees, tree_more, no_members, member_more, no_pairs, pair_more}

-- the value itself, and then each part of its lists
abbrev mutual
  pub every_part : (Tree → Bool) → Tree → Bool
  every_part p (array ts ms) = p (array ts ms) && every_item p ts && every_property p ms
  every_part p (object ms) = p (object ms) && every_property p ms
  every_part p (map_object ps) = p (map_object ps) && every_pair p ps
  every_part p (set_object ts) = p (set_object ts) && every_item p ts
  every_part p t = p t

  pub every_item : (Tree → Bool) → Trees → Bool
  every_item p no_trees = true
  every_item p (tree_more t ts) = every_part p t && every_item p ts

  pub every_property : (Tree → Bool) → Members → Bool
  every_property p no_members = true
  every_property p (member_more n t ms) = every_part p t && every_property p ms

  pub every_pair : (Tree → Bool) → PairTrees → Bool
  every_pair p no_pairs = true
  every_pair p (pair_more s t ps) = every_part p s && every_part p t && every_pair p ps

abbrev mutual
  pub any_part : (Tree → Bool) → Tree → Bool
  any_part p (array ts ms) = p (array ts ms) || (any_item p ts || any_property p ms)
  any_part p (object ms) = p (object ms) || any_property p ms
  any_part p (map_object ps) = p (map_object ps) || any_pair p ps
  any_part p (set_object ts) = p (set_object ts) || any_item p ts
  any_part p t = p t

  pub any_item : (Tree → Bool) → Trees → Bool
  any_item p no_trees = false
  any_item p (tree_more t ts) = any_part p t || any_item p ts

  pub any_property : (Tree → Bool) → Members → Bool
  any_property p no_members = false
  any_property p (member_more n t ms) = any_part p t || any_property p ms

  pub any_pair : (Tree → Bool) → PairTrees → Bool
  any_pair p no_pairs = false
  any_pair p (pair_more s t ps) = any_part p s || any_part p t || any_pair p ps
