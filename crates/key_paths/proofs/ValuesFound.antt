-- What a path gives on a well formed value is well formed, and so are the keys of it.
--     evaluated_formed, extracted_formed      the value that a path gives, and the key or keys
use Rattle.std.proofs.Common.{cond, ◌≡◌, ℕ, zero, suc, ◌+◌, ◌*◌, ◌-◌, ◌≤◌, ◌==◌, nat_eq, le-leb, leb-true, Bool, true, false, ◌&&◌, not, pos, List, [], ◌∷◌, length, map, Option, Some, None, IfSome, option_map, refl, ◌∙◌, ap, arith, length-append}
use Rattle.std.proofs.lemmas.Grind.{common_steps}
use Rattle.std.specs.Prelude.{if◌then◌else◌}
use Rattle.std.specs.Option.{option_and_then}
use Rattle.std.specs.Cmp.{first_so, second_so}
use Rattle.std.specs.Cmp.Lexicographic.{pointwise}
use Rattle.std.specs.List.{find, flat_map, list_all}
use Rattle.std.specs.Str.{is_utf8, chars, chars_after, continuation_len, lead_bits}
use Rattle.std.specs.Char.Escape.{encode_utf16}
use Rattle.clone_values.specs.Tree.{Tree, Trees, undefined, null, boolean, int, text, date, bytes, array, object, map_object, set_object, function, no_members, members_of, trees_of, list_of_trees, no_trees, tree_more}
use Rattle.clone_values.specs.KeyTree.{KeyTree}
use Rattle.clone_values.specs.Names.{get_member}
use Rattle.clone_values.specs.WellFormed.{is_value, are_values, member_values, is_within_limit, IsValue}
use Rattle.clone_values.specs.KeyValues.{IsKey}
use Rattle.clone_values.proofs.Laws.{trees_again, both_so, array_fits, array_again, object_fits}
use Rattle.clone_values.specs.declared.path_types.PathSpec.{PathSpec}
use Rattle.clone_values.specs.declared.path_types.PathSpec.TheVariants.{One, Many}
use Rattle.key_order.specs.KeyOrder.{code_units}
use Rattle.path_grammar.specs.KeyPath.{parts_of, is_path_string, is_key_path}
use Rattle.key_order.specs.Conversion.{key_of}
use Rattle.key_paths.specs.Evaluation.{evaluated, string_evaluated, walked, step_of, takes_length, length_of, property_of, named_properties, unless_undefined, all_there, extracted, extracted_from, converted, one_or_invalid, AreKeys}
use Rattle.key_paths.proofs.StaysCloneable.{members_back}
use Rattle.key_order.proofs.Laws.{key_formed, keys_formed}

-- ---- a length is an Int
chars_after_short : (n c : ℕ) (bs : List ℕ) → length (chars_after n c bs) ≤ 1 + length bs
chars_after_short zero c [] = omega arith
chars_after_short zero c (b ∷ bs) = omega (arith, chars_after_short (continuation_len b) (lead_bits b) bs)
chars_after_short (suc n) c [] = omega arith
chars_after_short (suc n) c (b ∷ bs) = omega (arith, chars_after_short n (c * 64 + (b - 128)) bs)

chars_short : (s : List ℕ) → length (chars s) ≤ length s
unfolding chars
chars_short [] = omega arith
chars_short (b ∷ bs) = let h = chars_after_short (continuation_len b) (lead_bits b) bs in omega (arith, h)

two_units : (c : ℕ) → length (encode_utf16 c) ≤ 2
two_units c = grind (arith, common_steps)

units_short : (cs : List ℕ) → length (flat_map encode_utf16 cs) ≤ 2 * length cs
units_short [] = omega arith
units_short (c ∷ cs) = omega (arith, length-append (encode_utf16 c) (flat_map encode_utf16 cs), two_units c, units_short cs)

small_int : (n : ℕ) → n ≤ 8589934590 → is_value (int (pos n)) ≡ true
small_int n h = grind (arith, common_steps)

length_formed : (t : Tree) → IsValue t → IfSome (length_of t) IsValue
length_formed (text s) h = small_int (length (code_units s)) (omega (arith, chars_short s, units_short (chars s), leb-true (length s) 4294967295 (second_so (is_utf8 s) (is_within_limit s) h)))
length_formed (array ts ms) h = small_int (length (list_of_trees ts)) (omega (arith, leb-true (length (list_of_trees ts)) 4294967295 (array_fits ts ms h).count))
length_formed undefined h = tt
length_formed null h = tt
length_formed (boolean b) h = tt
length_formed (int i) h = tt
length_formed (date d) h = tt
length_formed (bytes b) h = tt
length_formed (object ms) h = tt
length_formed (map_object ps) h = tt
length_formed (set_object ts) h = tt
length_formed function h = tt

-- ---- a property
pub properties_formed : (t : Tree) → IsValue t → member_values (members_of (named_properties t)) ≡ true
properties_formed (object ms) v = ap member_values (members_back ms) ∙ (object_fits ms v).values
properties_formed (array ts ms) v = ap member_values (members_back ms) ∙ (array_fits ts ms v).values
properties_formed _ v = refl

got_formed : (ps : List (List ℕ × Tree)) (n : List ℕ) → member_values (members_of ps) ≡ true → IfSome (get_member ps n) IsValue
got_formed [] n h = tt
got_formed (m ∷ ps) n h =
    elim (pointwise nat_eq m.0 n) as (λ b. IfSome (option_map (λ p. p.1) (cond b (Some m) (find (λ p. pointwise nat_eq p.0 n) ps))) IsValue) [
      | true ↦ first_so (is_value m.1) _ h
      | false ↦ got_formed ps n (second_so (is_value m.1) _ h)
    ]

defined_formed : (o : Option Tree) → IfSome o IsValue → IfSome (unless_undefined o) IsValue
defined_formed None h = tt
defined_formed (Some undefined) h = tt
defined_formed (Some t) h = h

step_formed : (n : List ℕ) (t : Tree) → IsValue t → IfSome (step_of n t) IsValue
step_formed n t h =
    elim (takes_length n t) as (λ b. IfSome (if b then length_of t else property_of n t) IsValue) [
      | true ↦ length_formed t h
      | false ↦ defined_formed (get_member (named_properties t) n) (got_formed (named_properties t) n (properties_formed t h))
    ]

and_then : (f : Tree → Option Tree) (o : Option Tree) → IfSome o IsValue → ((u : Tree) → IsValue u → IfSome (f u) IsValue) → IfSome (option_and_then f o) IsValue
and_then f None h g = tt
and_then f (Some u) h g = g u h

walk_formed : (ns : List (List ℕ)) (t : Tree) → IsValue t → IfSome (walked ns t) IsValue
walk_formed [] t h = h
walk_formed (n ∷ ns) t h = and_then (walked ns) (step_of n t) (step_formed n t h) (walk_formed ns)

string_formed : (s : List ℕ) (t : Tree) → IsValue t → IfSome (string_evaluated s t) IsValue
string_formed s t h =
    elim (length s == 0) as (λ b. IfSome (if b then Some t else walked (parts_of s) t) IsValue) [
      | true ↦ h
      | false ↦ walk_formed (parts_of s) t h
    ]

-- ---- a list of paths
record ListFits (n : ℕ) (ts : List Tree) : Type 0 where
  formed : are_values (trees_of ts) ≡ true
  as_long : length ts ≡ n

put_first : (n : ℕ) (o : Option Tree) (p : Option (List Tree)) (os : List (Option Tree)) → p ≡ all_there os → IfSome o IsValue → IfSome p (ListFits n) → IfSome (all_there (o ∷ os)) (ListFits (suc n))
put_first n None p os e h g = tt
put_first n (Some t) None os e h g = rw (← e) tt
put_first n (Some t) (Some ts) os e h g = rw (← e) (record { formed = both_so (is_value t) (are_values (trees_of ts)) h g.formed; as_long = ap suc g.as_long })

all_formed : (ss : List (List ℕ)) (t : Tree) → IsValue t → IfSome (all_there (map (λ s. string_evaluated s t) ss)) (ListFits (length ss))
all_formed [] t h = record { formed = refl; as_long = refl }
all_formed (s ∷ ss) t h = put_first (length ss) (string_evaluated s t) _ (map (λ r. string_evaluated r t) ss) refl (string_formed s t h) (all_formed ss t h)

as_array : (n : ℕ) (o : Option (List Tree)) → n ≤ 4294967295 → IfSome o (ListFits n) → IfSome (option_map (λ ts. array (trees_of ts) no_members) o) IsValue
as_array n None l h = tt
as_array n (Some ts) l h = array_again (trees_of ts) no_members (record {
  items = h.formed;
  count = ap is_within_limit (trees_again ts) ∙ le-leb _ _ (omega (arith, h.as_long));
  values = refl;
  props = refl;
  names = refl;
})

pub evaluated_formed : (path : PathSpec) (t : Tree) → is_key_path path ≡ true → IsValue t → IfSome (evaluated path t) IsValue
evaluated_formed (One s) t l h = string_formed s t h
evaluated_formed (Many ss) t l h =
    let a = is_within_limit ss in
    let b = not (length ss == 0) in
    as_array (length ss) _ (leb-true (length ss) 4294967295 (first_so a b (first_so (a && b) (list_all is_path_string ss) l))) (all_formed ss t h)

-- ---- keys
one_formed : (o : Option KeyTree) → IfSome o IsKey → AreKeys (one_or_invalid o)
one_formed None h = tt
one_formed (Some k) h = h

converted_formed : (multi : Bool) (t : Tree) → IsValue t → AreKeys (converted multi t)
converted_formed true (array ts ms) h = keys_formed (list_of_trees ts) (ap are_values (trees_back ts) ∙ (array_fits ts ms h).items)
  where
    trees_back : (us : Trees) → trees_of (list_of_trees us) ≡ us
    trees_back no_trees = refl
    trees_back (tree_more u us) = ap (tree_more u) (trees_back us)
converted_formed false (array ts ms) h = one_formed (key_of (array ts ms)) (key_formed (array ts ms) h)
converted_formed multi t h = one_formed (key_of t) (key_formed t h)

found_formed : (multi : Bool) (o : Option Tree) → IfSome o IsValue → AreKeys (extracted_from multi o)
found_formed multi None h = tt
found_formed multi (Some t) h = converted_formed multi t h

pub extracted_formed : (path : PathSpec) (multi : Bool) (t : Tree) → is_key_path path ≡ true → IsValue t → AreKeys (extracted path multi t)
extracted_formed path multi t l h = found_formed multi (evaluated path t) (evaluated_formed path t l h)
