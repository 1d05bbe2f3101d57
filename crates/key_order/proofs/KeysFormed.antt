-- Well formed values have well formed keys, and well formed keys have well formed values.
--     key_formed, keys_formed      the key of a value, and the keys of its items
--     value_formed          the value of a key
use Rattle.std.proofs.Common.{◌≡◌, nat_le, true, false, not, List, [], ◌∷◌, length, Option, Some, None, IfSome, option_map, refl, ◌∙◌, ap, arith}
use Rattle.std.specs.Prelude.{if◌then◌else◌}
use Rattle.std.specs.Cmp.{first_so, second_so}
use Rattle.std.specs.List.{All, filter_map, cons_option}
use Rattle.std.specs.Ordering.{is_eq}
use Rattle.std.proofs.lemmas.List.Elements.{All-nil, All-cons, All-head, All-tail, All-filter}
use Rattle.idb_base.specs.declared.limits.TheConstants.{GREATEST_LENGTH}
use Rattle.clone_values.specs.Tree.{Tree, Trees, undefined, null, boolean, int, text, date, bytes, array, object, map_object, set_object, function, no_trees, tree_more, trees_of, list_of_trees, no_members}
use Rattle.clone_values.specs.KeyTree.{KeyTree, KeyTrees, no_keys, key_more, list_of_keys}
use Rattle.clone_values.specs.KeyTree as keys
use Rattle.clone_values.specs.Values.{depth_of}
use Rattle.clone_values.specs.WellFormed.{is_value, are_values, is_within_limit, IsValue}
use Rattle.clone_values.specs.KeyValues.{is_key, are_keys, IsKey, value_of_key, values_of_keys}
use Rattle.clone_values.proofs.Laws.{both_so, array_fits, array_again}
use Rattle.key_order.specs.KeyOrder.{key_cmp}
use Rattle.key_order.specs.Conversion.{with_first, key_within, keys_within, key_of, each_once, keys_of}

record FormedAs (ts : Trees) (ks : KeyTrees) : Type 0 where
  formed : are_keys ks ≡ true
  as_long : length (list_of_keys ks) ≡ length (list_of_trees ts)

joined : (t : Tree) (ts : Trees) (o : Option KeyTree) (p : Option KeyTrees) → IfSome o IsKey → IfSome p (FormedAs ts) → IfSome (with_first o p) (FormedAs (tree_more t ts))
joined t ts None p h g = tt
joined t ts (Some k) None h g = tt
joined t ts (Some k) (Some ks) h g = record { formed = both_so (is_key k) (are_keys ks) h g.formed; as_long = omega (arith, g.as_long) }

as_array : (ts : Trees) (p : Option KeyTrees) → IfSome p (FormedAs ts) → is_within_limit (list_of_trees ts) ≡ true → IfSome (option_map keys.array p) IsKey
as_array ts None h w = tt
as_array ts (Some ks) h w = both_so (are_keys ks) _ h.formed (ap (λ n. nat_le n GREATEST_LENGTH) h.as_long ∙ w)

mutual
  within_formed : (t : Tree) → IsValue t → IfSome (key_within t) IsKey
  within_formed (int n) h = h
  within_formed (date d) h = h
  within_formed (text s) h = h
  within_formed (bytes b) h = h
  within_formed (array ts ms) h = let f = array_fits ts ms h in as_array ts (keys_within ts) (all_formed ts f.items) f.count
  within_formed undefined h = tt
  within_formed null h = tt
  within_formed (boolean b) h = tt
  within_formed (object ms) h = tt
  within_formed (map_object ps) h = tt
  within_formed (set_object ts) h = tt
  within_formed function h = tt

  all_formed : (ts : Trees) → are_values ts ≡ true → IfSome (keys_within ts) (FormedAs ts)
  all_formed no_trees h = record { formed = refl; as_long = refl }
  all_formed (tree_more t ts) h = joined t ts (key_within t) (keys_within ts) (within_formed t (first_so (is_value t) _ h)) (all_formed ts (second_so (is_value t) _ h))

pub key_formed : (t : Tree) → IsValue t → IfSome (key_of t) IsKey
key_formed t h =
    elim (nat_le (depth_of t) 100) as (λ b. IfSome (if b then key_within t else None) IsKey) [
      | true ↦ within_formed t h
      | false ↦ tt
    ]

front : (o : Option KeyTree) (ks : List KeyTree) → IfSome o IsKey → All IsKey ks → All IsKey (cons_option o ks)
front None ks h g = g
front (Some k) ks h g = All-cons IsKey k ks h g

of_items : (ts : List Tree) → are_values (trees_of ts) ≡ true → All IsKey (filter_map key_of ts)
of_items [] h = All-nil IsKey
of_items (t ∷ ts) h = front (key_of t) (filter_map key_of ts) (key_formed t (first_so (is_value t) _ h)) (of_items ts (second_so (is_value t) _ h))

all_once : (ks : List KeyTree) → All IsKey ks → All IsKey (each_once ks)
all_once [] h = All-nil IsKey
all_once (k ∷ ks) h = All-cons IsKey k _ (All-head IsKey k ks h) (All-filter (λ j. not (is_eq (key_cmp j k))) IsKey (each_once ks) (all_once ks (All-tail IsKey k ks h)))

pub keys_formed : (ts : List Tree) → are_values (trees_of ts) ≡ true → All IsKey (keys_of ts)
keys_formed ts h = all_once (filter_map key_of ts) (of_items ts h)

mutual
  pub value_formed : (k : KeyTree) → IsKey k → IsValue (value_of_key k)
  value_formed (keys.number n) h = h
  value_formed (keys.date d) h = h
  value_formed (keys.text s) h = h
  value_formed (keys.binary b) h = h
  value_formed (keys.array ks) h =
      let inner = values_formed ks (first_so (are_keys ks) _ h) in
      array_again (values_of_keys ks) no_members (record { items = inner.0; count = ap (λ n. nat_le n GREATEST_LENGTH) inner.1 ∙ second_so (are_keys ks) _ h; values = refl; props = refl; names = refl })

  values_formed : (ks : KeyTrees) → are_keys ks ≡ true → (are_values (values_of_keys ks) ≡ true) × (length (list_of_trees (values_of_keys ks)) ≡ length (list_of_keys ks))
  values_formed no_keys h = (refl, refl)
  values_formed (key_more k ks) h =
      let rest = values_formed ks (second_so (is_key k) _ h) in
      (both_so (is_value (value_of_key k)) _ (value_formed k (first_so (is_key k) _ h)) rest.0, omega (arith, rest.1))
