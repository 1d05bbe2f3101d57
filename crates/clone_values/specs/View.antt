-- The whole tree of a value or a key whose members are already seen as trees.
use Rattle.std.specs.Prelude.{ℕ, List}
use Rattle.value_trees.specs.Tree.{Tree, undefined, null, boolean, int, text, date, bytes, array, object, map_object, set_object, function, trees_of, members_of, pairs_of}
use Rattle.value_trees.specs.KeyTree.{KeyTree, key_trees_of}
use Rattle.value_trees.specs.KeyTree as keys
use Rattle.clone_values.specs.declared.value_types.Value.{Value}
use Rattle.clone_values.specs.declared.value_types.Value.TheVariants as value
use Rattle.clone_values.specs.declared.value_types.Prop.{Prop}
use Rattle.clone_values.specs.declared.value_types.Pair.{Pair}
use Rattle.clone_values.specs.declared.key_types.Key.{Key}
use Rattle.clone_values.specs.declared.key_types.Key.TheVariants as key

-- the tree of a value
abbrev pub tree_of : Value → Tree
tree_of value.Undefined = undefined
tree_of value.Null = null
tree_of (value.Bool b) = boolean b
tree_of (value.Int n) = int n
tree_of (value.Text s) = text s
tree_of (value.Date d) = date d
tree_of (value.Bytes b) = bytes b
tree_of (value.Array items props) = array (trees_of items) (members_of props)
tree_of (value.Object props) = object (members_of props)
tree_of (value.Map pairs) = map_object (pairs_of pairs)
tree_of (value.Set items) = set_object (trees_of items)
tree_of value.Function = function

-- a property's name and its value's tree
abbrev pub prop_of : Prop → List ℕ × Tree
prop_of p = (p.name, tree_of p.value)

-- a name and the tree of the value that is kept with it
abbrev pub named_value_of : List ℕ × Value → List ℕ × Tree
named_value_of m = (m.0, tree_of m.1)

-- the trees of an entry's key and value
abbrev pub pair_of : Pair → Tree × Tree
pair_of p = (tree_of p.key, tree_of p.value)

-- the tree of a key
abbrev pub key_tree_of : Key → KeyTree
key_tree_of (key.Number n) = keys.number n
key_tree_of (key.Date d) = keys.date d
key_tree_of (key.Text s) = keys.text s
key_tree_of (key.Binary b) = keys.binary b
key_tree_of (key.Array ks) = keys.array (key_trees_of ks)
