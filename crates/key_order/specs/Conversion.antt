-- Conversion of values to keys and back (Indexed Database API 3.0, "convert a value to a key", "convert a key to a value").
--     key_of                the key of a value, or none where the value is invalid
--     keys_of               the keys of a list of items, each once: multi-entry conversion
use Rattle.std.specs.Prelude.{◌≢◌, Bool, true, false, ◌&&◌, not, nat_le, List, [], ◌∷◌, if◌then◌else◌, Option, Some, None, option_map}
use Rattle.std.specs.List.{All, filter, filter_map}
use Rattle.std.specs.Ordering.{is_eq}
use Rattle.clone_values.specs.Tree.{Tree, Trees, int, date, text, bytes, array, no_trees, tree_more}
use Rattle.clone_values.specs.KeyTree.{KeyTree, KeyTrees, no_keys, key_more}
use Rattle.clone_values.specs.KeyTree as keys
use Rattle.clone_values.specs.Values.{depth_of}
use Rattle.key_order.specs.KeyOrder.{key_cmp}

-- the first key in front of the others, where all are there
abbrev pub with_first : Option KeyTree → Option KeyTrees → Option KeyTrees
with_first (Some k) (Some ks) = Some (key_more k ks)
with_first _ _ = None

-- Int, Date, Text, Bytes and Array convert, an Array where every item does; its named properties are ignored
abbrev mutual
  pub key_within : Tree → Option KeyTree
  key_within (int n) = Some (keys.number n)
  key_within (date d) = Some (keys.date d)
  key_within (text s) = Some (keys.text s)
  key_within (bytes b) = Some (keys.binary b)
  key_within (array ts ms) = option_map keys.array (keys_within ts)
  key_within _ = None

  pub keys_within : Trees → Option KeyTrees
  keys_within no_trees = Some no_keys
  keys_within (tree_more t ts) = with_first (key_within t) (keys_within ts)

-- whether the value converts, but for its depth
abbrev mutual
  pub is_convertible : Tree → Bool
  is_convertible (int n) = true
  is_convertible (date d) = true
  is_convertible (text s) = true
  is_convertible (bytes b) = true
  is_convertible (array ts ms) = are_convertible ts
  is_convertible _ = false

  pub are_convertible : Trees → Bool
  are_convertible no_trees = true
  are_convertible (tree_more t ts) = is_convertible t && are_convertible ts

-- a value deeper than 100 is invalid
abbrev pub key_of : Tree → Option KeyTree
key_of t = if nat_le (depth_of t) 100 then key_within t else None

-- whether an Array with this item can have a key
abbrev pub fits_in_array : Tree → Bool
fits_in_array t = is_convertible t && nat_le (depth_of t) 99

-- each key once, at its first place
abbrev pub each_once : List KeyTree → List KeyTree
each_once [] = []
each_once (k ∷ ks) = k ∷ filter (λ j. not (is_eq (key_cmp j k))) (each_once ks)

-- the valid items as keys, in order, each key once; invalid items are skipped
abbrev pub keys_of : List Tree → List KeyTree
keys_of ts = each_once (filter_map key_of ts)

-- no key stands twice
abbrev pub AreDistinctKeys : List KeyTree → Type 0
AreDistinctKeys [] = Unit {0}
AreDistinctKeys (k ∷ ks) = All (λ j. j ≢ k) ks × AreDistinctKeys ks
