-- What a value is, how deep it is, and what can be cloned.
--     is_value, IsValue     well formed: the ranges, names and sizes
--     holds_function        a Function is in the value
--     depth_of              how deep a value is
--     IsCloneable           cloning doesn't refuse it (HTML, StructuredSerializeForStorage)
use Rattle.std.specs.Prelude.{◌≡◌, ℕ, ◌+◌, ◌≤◌, Bool, true, false, max}
use Rattle.idb_base.specs.declared.limits.TheConstants.{GREATEST_DEPTH}
use Rattle.value_trees.specs.Tree.{Tree, Trees, Members, PairTrees, array, object, map_object, set_object, function, no_trees, tree_more, no_members, member_more, no_pairs, pair_more}
use Rattle.value_trees.specs.Parts.{any_part, any_item, any_property, any_pair}

-- ---- depth: a value without members has depth 1, any other 1 more than the greatest depth of its members
abbrev mutual
  pub depth_of : Tree → ℕ
  depth_of (array ts ms) = 1 + max (trees_depth ts) (members_depth ms)
  depth_of (object ms) = 1 + members_depth ms
  depth_of (map_object ps) = 1 + pairs_depth ps
  depth_of (set_object ts) = 1 + trees_depth ts
  depth_of _ = 1

  -- the greatest depth in a list, 0 where it is empty
  pub trees_depth : Trees → ℕ
  trees_depth no_trees = 0
  trees_depth (tree_more t ts) = max (depth_of t) (trees_depth ts)

  pub members_depth : Members → ℕ
  members_depth no_members = 0
  members_depth (member_more n t ms) = max (depth_of t) (members_depth ms)

  pub pairs_depth : PairTrees → ℕ
  pairs_depth no_pairs = 0
  pairs_depth (pair_more s t ps) = max (max (depth_of s) (depth_of t)) (pairs_depth ps)

-- ---- whether a Function is in the value
abbrev pub is_function : Tree → Bool
is_function function = true
is_function _ = false

abbrev pub holds_function : Tree → Bool
holds_function t = any_part is_function t

-- whether one is in these items, properties or pairs
abbrev pub trees_hold_function : Trees → Bool
trees_hold_function ts = any_item is_function ts

abbrev pub members_hold_function : Members → Bool
members_hold_function ms = any_property is_function ms

abbrev pub pairs_hold_function : PairTrees → Bool
pairs_hold_function ps = any_pair is_function ps

-- no Function is in the value, and its depth is at most the greatest
abbrev pub IsCloneable : Tree → Type 0
IsCloneable t = (holds_function t ≡ false) × (depth_of t ≤ GREATEST_DEPTH)
