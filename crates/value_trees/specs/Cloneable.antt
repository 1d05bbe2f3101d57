-- Whether a value can be cloned, told in one walk that stops at a depth.
--     is_cloneable_within   no Function is in the value, and it is at most so deep
use Rattle.std.specs.Prelude.{ℕ, ◌-◌, Bool, true, false, ◌&&◌, nat_lt}
use Rattle.value_trees.specs.Tree.{Tree, Trees, Members, PairTrees, array, object, map_object, set_object, function, no_trees, tree_more, no_members, member_more, no_pairs, pair_more}

abbrev mutual
  pub is_cloneable_within : ℕ → Tree → Bool
  is_cloneable_within n (array ts ms) = nat_lt 0 n && are_cloneable_within (n - 1) ts && members_cloneable_within (n - 1) ms
  is_cloneable_within n (object ms) = nat_lt 0 n && members_cloneable_within (n - 1) ms
  is_cloneable_within n (map_object ps) = nat_lt 0 n && pairs_cloneable_within (n - 1) ps
  is_cloneable_within n (set_object ts) = nat_lt 0 n && are_cloneable_within (n - 1) ts
  is_cloneable_within n function = false
  is_cloneable_within n _ = nat_lt 0 n

  pub are_cloneable_within : ℕ → Trees → Bool
  are_cloneable_within n no_trees = true
  are_cloneable_within n (tree_more t ts) = is_cloneable_within n t && are_cloneable_within n ts

  pub members_cloneable_within : ℕ → Members → Bool
  members_cloneable_within n no_members = true
  members_cloneable_within n (member_more m t ms) = is_cloneable_within n t && members_cloneable_within n ms

  pub pairs_cloneable_within : ℕ → PairTrees → Bool
  pairs_cloneable_within n no_pairs = true
  pairs_cloneable_within n (pair_more s t ps) = is_cloneable_within n s && is_cloneable_within n t && pairs_cloneable_within n ps
