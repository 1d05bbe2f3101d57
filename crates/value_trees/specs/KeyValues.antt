-- Well formed keys, how deep a key is, and the value of a key.
--     is_key, IsKey         the ranges and sizes that a key keeps to
--     key_depth             how deep a key is
--     value_of_key          the value that converts to a key (Indexed Database API 3.0, "convert a key to a value")
use Rattle.std.specs.Prelude.{◌≡◌, ℕ, ◌+◌, Bool, true, ◌&&◌, max}
use Rattle.value_trees.specs.Tree.{Tree, Trees, int, date, text, bytes, array, no_trees, tree_more, no_members}
use Rattle.value_trees.specs.KeyTree.{KeyTree, KeyTrees, no_keys, key_more, list_of_keys}
use Rattle.value_trees.specs.KeyTree as keys
use Rattle.value_trees.specs.WellFormed.{is_int, is_date, is_within_limit, is_text, is_byte_string}

-- numbers and dates are in the ranges of values, and no text, byte string or list is longer than in a value
abbrev mutual
  pub is_key : KeyTree → Bool
  is_key (keys.number n) = is_int n
  is_key (keys.date d) = is_date d
  is_key (keys.text s) = is_text s
  is_key (keys.binary b) = is_byte_string b
  is_key (keys.array ks) = are_keys ks && is_within_limit (list_of_keys ks)

  pub are_keys : KeyTrees → Bool
  are_keys no_keys = true
  are_keys (key_more k ks) = is_key k && are_keys ks

-- the key is well formed
abbrev pub IsKey : KeyTree → Type 0
IsKey k = is_key k ≡ true

-- a key without members has depth 1, an array key 1 more than the greatest depth of its members
abbrev mutual
  pub key_depth : KeyTree → ℕ
  key_depth (keys.array ks) = 1 + keys_depth ks
  key_depth _ = 1

  pub keys_depth : KeyTrees → ℕ
  keys_depth no_keys = 0
  keys_depth (key_more k ks) = max (key_depth k) (keys_depth ks)

-- a key as a value
abbrev mutual
  pub value_of_key : KeyTree → Tree
  value_of_key (keys.number n) = int n
  value_of_key (keys.date d) = date d
  value_of_key (keys.text s) = text s
  value_of_key (keys.binary b) = bytes b
  value_of_key (keys.array ks) = array (values_of_keys ks) no_members

  pub values_of_keys : KeyTrees → Trees
  values_of_keys no_keys = no_trees
  values_of_keys (key_more k ks) = tree_more (value_of_key k) (values_of_keys ks)
