-- Comparing the keys of values (Indexed Database API 3.0, "compare two keys").
--     compared              the order of two keys, where both are there
--     as_key, as_keys       the key of a value that converts, and those of its items; an empty array of any other
--     comes_to              an extraction comes to this key alone
--     is_item               what a string of a key path gives can stand in an Array, and has this key
use Rattle.std.specs.Prelude.{Bool, false, ◌&&◌, Option, Some, None}
use Rattle.std.specs.Ordering.{is_eq}
use Rattle.std.specs.declared.cmp.Ordering.{Ordering}
use Rattle.clone_values.specs.Tree.{Tree, Trees, int, date, text, bytes, array, no_trees, tree_more}
use Rattle.clone_values.specs.KeyTree.{KeyTree, KeyTrees, no_keys, key_more}
use Rattle.clone_values.specs.KeyTree as keys
use Rattle.key_order.specs.KeyOrder.{key_cmp}
use Rattle.key_order.specs.Conversion.{fits_in_array}
use Rattle.key_paths.specs.Evaluation.{Extract, one, many, invalid, failure}

abbrev pub compared : Option KeyTree → Option KeyTree → Option Ordering
compared (Some j) (Some k) = Some (key_cmp j k)
compared (Some j) None = None
compared None k = None

abbrev mutual
  pub as_key : Tree → KeyTree
  as_key (int n) = keys.number n
  as_key (date d) = keys.date d
  as_key (text s) = keys.text s
  as_key (bytes b) = keys.binary b
  as_key (array ts ms) = keys.array (as_keys ts)
  as_key _ = keys.array no_keys

  pub as_keys : Trees → KeyTrees
  as_keys no_trees = no_keys
  as_keys (tree_more t ts) = key_more (as_key t) (as_keys ts)

abbrev pub comes_to : Extract → KeyTree → Bool
comes_to (one j) k = is_eq (key_cmp j k)
comes_to (many js) k = false
comes_to invalid k = false
comes_to failure k = false

abbrev pub is_item : Option Tree → KeyTree → Bool
is_item None k = false
is_item (Some t) k = fits_in_array t && is_eq (key_cmp (as_key t) k)
