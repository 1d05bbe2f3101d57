-- What converts has a key, where it isn't too deep.
--     within_decided, all_decided      whether there is a key, but for the depth
--     array_tests                      whether an Array has a key
--     within_as_key, within_as_keys    the key that a value has
--     has_key, has_none                where there is a key, and which; and where there is none
use Rattle.std.proofs.Common.{◌≡◌, ◌≤◌, nat_le, le-leb, Bool, true, false, ◌&&◌, Option, Some, None, is_some, option_map, refl, sym, ◌∙◌, ap, true≢false}
use Rattle.std.specs.Prelude.{if◌then◌else◌}
use Rattle.std.proofs.lemmas.Bool.{and_parts}
use Rattle.clone_values.specs.Tree.{Tree, Trees, Members, undefined, null, boolean, int, text, date, bytes, array, object, map_object, set_object, function, no_trees, tree_more}
use Rattle.clone_values.specs.KeyTree.{KeyTree, KeyTrees}
use Rattle.clone_values.specs.KeyTree as keys
use Rattle.clone_values.specs.Values.{depth_of}
use Rattle.key_paths.specs.Comparing.{as_key, as_keys}
use Rattle.key_order.specs.Conversion.{with_first, key_within, keys_within, is_convertible, are_convertible, key_of}

both_there : (o : Option KeyTree) (p : Option KeyTrees) → is_some (with_first o p) ≡ (is_some o && is_some p)
both_there None p = refl
both_there (Some k) None = refl
both_there (Some k) (Some ks) = refl

as_array : (p : Option KeyTrees) → is_some (option_map keys.array p) ≡ is_some p
as_array None = refl
as_array (Some ks) = refl

mutual
  pub within_decided : (t : Tree) → is_some (key_within t) ≡ is_convertible t
  within_decided (int n) = refl
  within_decided (date d) = refl
  within_decided (text s) = refl
  within_decided (bytes b) = refl
  within_decided (array ts ms) = as_array (keys_within ts) ∙ all_decided ts
  within_decided undefined = refl
  within_decided null = refl
  within_decided (boolean b) = refl
  within_decided (object ms) = refl
  within_decided (map_object ps) = refl
  within_decided (set_object ts) = refl
  within_decided function = refl

  pub all_decided : (ts : Trees) → is_some (keys_within ts) ≡ are_convertible ts
  all_decided no_trees = refl
  all_decided (tree_more t ts) = both_there (key_within t) (keys_within ts) ∙ (λ i. within_decided t i && all_decided ts i)

as_it_is : (b : Bool) → b ≡ (b && true)
as_it_is true = refl
as_it_is false = refl

refused : (b : Bool) → false ≡ (b && false)
refused true = refl
refused false = refl

pub array_tests : (ts : Trees) (ms : Members) → is_some (key_of (array ts ms)) ≡ (are_convertible ts && nat_le (depth_of (array ts ms)) 100)
array_tests ts ms =
    elim (nat_le (depth_of (array ts ms)) 100) as (λ b. is_some (if b then key_within (array ts ms) else None) ≡ (are_convertible ts && b)) [
      | true ↦ within_decided (array ts ms) ∙ as_it_is (are_convertible ts)
      | false ↦ refused (are_convertible ts)
    ]

mutual
  pub within_as_key : (t : Tree) → is_convertible t ≡ true → key_within t ≡ Some (as_key t)
  within_as_key (int n) e = refl
  within_as_key (date d) e = refl
  within_as_key (text s) e = refl
  within_as_key (bytes b) e = refl
  within_as_key (array ts ms) e = ap (option_map keys.array) (within_as_keys ts e)
  within_as_key undefined e = absurd (true≢false (sym e))
  within_as_key null e = absurd (true≢false (sym e))
  within_as_key (boolean b) e = absurd (true≢false (sym e))
  within_as_key (object ms) e = absurd (true≢false (sym e))
  within_as_key (map_object ps) e = absurd (true≢false (sym e))
  within_as_key (set_object ts) e = absurd (true≢false (sym e))
  within_as_key function e = absurd (true≢false (sym e))

  pub within_as_keys : (ts : Trees) → are_convertible ts ≡ true → keys_within ts ≡ Some (as_keys ts)
  within_as_keys no_trees e = refl
  within_as_keys (tree_more t ts) e = let both : (is_convertible t ≡ true) × (are_convertible ts ≡ true) = and_parts _ _ e in
      λ i. with_first (within_as_key t both.0 i) (within_as_keys ts both.1 i)

pub has_key : (t : Tree) → is_some (key_of t) ≡ true → (is_convertible t ≡ true) × (key_of t ≡ Some (as_key t))
has_key t =
    elim (nat_le (depth_of t) 100) as (λ b. is_some (if b then key_within t else None) ≡ true → (is_convertible t ≡ true) × ((if b then key_within t else None) ≡ Some (as_key t))) [
      | true ↦ λ e. let c : is_convertible t ≡ true = sym (within_decided t) ∙ e in (c, within_as_key t c)
      | false ↦ λ e. absurd (true≢false (sym e))
    ]

pub has_none : (o : Option KeyTree) → is_some o ≡ false → o ≡ None
has_none None e = refl
has_none (Some k) e = absurd (true≢false e)
