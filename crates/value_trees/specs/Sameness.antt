-- Equality of values as a test, and the values that Sets and Maps hold once.
--     same_tree             whether two trees are equal
--     is_primitive          Undefined, Null, Bool, Int and Text
--     put_once, put_pair    what a Set and a Map hold after a member is put into it
use Rattle.std.specs.Prelude.{ℕ, Bool, true, false, ◌&&◌, nat_eq, List, [], ◌∷◌, ◌++◌, slice_set, if◌then◌else◌, Option, Some, None}
use Rattle.std.specs.List.{list_any, position_from}
use Rattle.std.specs.Ordering.{int_eq}
use Rattle.std.specs.Cmp.Lexicographic.{pointwise}
use Rattle.value_trees.specs.Tree.{Tree, Trees, Members, PairTrees, undefined, null, boolean, int, text, date, bytes, array, object, map_object, set_object, function, no_trees, tree_more, no_members, member_more, no_pairs, pair_more}

abbrev pub same_bool : Bool → Bool → Bool
same_bool true true = true
same_bool false false = true
same_bool _ _ = false

-- values of one kind with equal contents
abbrev mutual
  pub same_tree : Tree → Tree → Bool
  same_tree undefined undefined = true
  same_tree null null = true
  same_tree (boolean a) (boolean b) = same_bool a b
  same_tree (int m) (int n) = int_eq m n
  same_tree (text s) (text t) = pointwise nat_eq s t
  same_tree (date c) (date d) = int_eq c d
  same_tree (bytes a) (bytes b) = pointwise nat_eq a b
  same_tree (array ss ls) (array ts ms) = same_trees ss ts && same_members ls ms
  same_tree (object ls) (object ms) = same_members ls ms
  same_tree (map_object ps) (map_object qs) = same_pairs ps qs
  same_tree (set_object ss) (set_object ts) = same_trees ss ts
  same_tree function function = true
  same_tree _ _ = false

  pub same_trees : Trees → Trees → Bool
  same_trees no_trees no_trees = true
  same_trees (tree_more s ss) (tree_more t ts) = same_tree s t && same_trees ss ts
  same_trees _ _ = false

  pub same_members : Members → Members → Bool
  same_members no_members no_members = true
  same_members (member_more m s ls) (member_more n t ms) = pointwise nat_eq m n && same_tree s t && same_members ls ms
  same_members _ _ = false

  pub same_pairs : PairTrees → PairTrees → Bool
  same_pairs no_pairs no_pairs = true
  same_pairs (pair_more j s ps) (pair_more k t qs) = same_tree j k && same_tree s t && same_pairs ps qs
  same_pairs _ _ = false

-- Undefined, Null, a Bool, an Int or a Text
abbrev pub is_primitive : Tree → Bool
is_primitive undefined = true
is_primitive null = true
is_primitive (boolean b) = true
is_primitive (int n) = true
is_primitive (text s) = true
is_primitive _ = false

-- equal primitives; every other member of a Set and every other key of a Map is distinct
abbrev pub repeats : Tree → Tree → Bool
repeats s t = is_primitive s && same_tree s t

-- a repeated primitive keeps its first place; anything else goes to the end
abbrev pub put_once : List Tree → Tree → List Tree
put_once ts t = if list_any (λ s. repeats s t) ts then ts else ts ++ t ∷ []

-- a repeated primitive key keeps its first place and takes the value; any other key goes to the end with it
abbrev pub set_at_place : List (Tree × Tree) → Tree → Tree → Option ℕ → List (Tree × Tree)
set_at_place ps k v None = ps ++ (k, v) ∷ []
set_at_place ps k v (Some i) = slice_set ps i (k, v)

abbrev pub put_pair : List (Tree × Tree) → Tree → Tree → List (Tree × Tree)
put_pair ps k v = set_at_place ps k v (position_from (λ p. repeats p.0 k) 0 ps)
