-- The order of keys as they stand in a table.
--     by_key_order          the order of keys (Indexed Database API 3.0, "compare two keys")
--     precedes              what two abbreviations tell
--     abbreviated_key       the abbreviation of a key
use Rattle.std.specs.Prelude.{◌≡◌, ℤ, Bool, true, false, cond, int_lt, Option, Some, None, List, [], ◌∷◌, refl}
use Rattle.std.proofs.Common.{sym, ap, ◌∙◌}
use Rattle.std.specs.declared.cmp.Ordering.{Ordering}
use Rattle.std.specs.declared.cmp.Ordering.TheVariants.{Less, Equal, Greater}
use Rattle.std.specs.Cmp.{IsTotalOrder}
use Rattle.std.specs.FinMap.{IsAntisymmetric}
use Rattle.std.proofs.lemmas.Cmp.{on_total}
use Rattle.key_order.specs.Key.{Key}
use Rattle.key_order.specs.Key.TheVariants as key
use Rattle.key_order.specs.View.{key_tree_of}
use Rattle.key_order.specs.KeyTree.{KeyTree, key_trees_of, list_of_keys}
use Rattle.key_order.specs.KeyTree as keys
use Rattle.key_order.specs.KeyOrder.{key_cmp}
use Rattle.key_order.proofs.Laws.{key_cmp_total, key_cmp_same}

-- how one key stands to another
abbrev pub by_key_order : Key → Key → Ordering
by_key_order j k = key_cmp (key_tree_of j) (key_tree_of k)

pub by_key_order_total : IsTotalOrder by_key_order
by_key_order_total = on_total key_tree_of key_cmp_total

-- the key that a tree is of
abbrev key_from : KeyTree → Key
key_from (keys.number n) = key.Number n
key_from (keys.date d) = key.Date d
key_from (keys.text s) = key.Text s
key_from (keys.binary b) = key.Binary b
key_from (keys.array ks) = key.Array (list_of_keys ks)

pub trees_back : (ks : List KeyTree) → list_of_keys (key_trees_of ks) ≡ ks
trees_back [] = refl
trees_back (k ∷ ks) = ap (λ ls. k ∷ ls) (trees_back ks)

pub key_back : (k : Key) → key_from (key_tree_of k) ≡ k
key_back (key.Number n) = refl
key_back (key.Date d) = refl
key_back (key.Text s) = refl
key_back (key.Binary b) = refl
key_back (key.Array ks) = ap key.Array (trees_back ks)

pub by_key_order_same : IsAntisymmetric by_key_order
by_key_order_same j k e = sym (key_back j) ∙ ap key_from (key_cmp_same (key_tree_of j) (key_tree_of k) e) ∙ key_back k

-- one abbreviation is less than the other, where both are there
abbrev pub precedes : Option ℤ → Option ℤ → Bool
precedes (Some m) (Some n) = int_lt m n
precedes m n = false

-- a number is its own abbreviation, and no other key has one
abbrev abbreviated_tree : KeyTree → Option ℤ
abbreviated_tree (keys.number n) = Some n
abbreviated_tree k = None

abbrev pub abbreviated_key : Key → Option ℤ
abbreviated_key k = abbreviated_tree (key_tree_of k)

tree_tells : (j k : KeyTree) → precedes (abbreviated_tree j) (abbreviated_tree k) ≡ true → key_cmp j k ≡ Less
tree_tells (keys.number m) (keys.number n) e = ap (λ b. cond b Less (cond (int_lt n m) Greater Equal)) e
tree_tells j k e = cc

pub abbreviated_key_tells : (j k : Key) → precedes (abbreviated_key j) (abbreviated_key k) ≡ true → by_key_order j k ≡ Less
abbreviated_key_tells j k e = tree_tells (key_tree_of j) (key_tree_of k) e
