-- The document of a well formed value reads as the value.
use Rattle.std.proofs.Common.{◌≡◌, ℕ, zero, suc, ◌<◌, ◌≤◌, ◌^◌, Bool, true, false, ◌&&◌, ◌||◌, cond, if◌then◌else◌, ℤ, pos, negsuc, List, [], ◌∷◌, ◌++◌, map, length, Option, Some, None, option_map, option_and_then, refl, sym, ◌∙◌, ap, arith, nat_lt, nat_le, codes, append_assoc, append-nil}
use Rattle.std.specs.declared.cmp.Ordering.TheVariants.{Less, Equal, Greater}
use Rattle.std.specs.Ordering.{int_cmp, is_le, match_ordering}
use Rattle.std.specs.Cmp.{first_so, second_so}
use Rattle.std.specs.List.{list_all}
use Rattle.std.proofs.lemmas.Bool.{ltb-true, leb-false, lt-ltb}
use Rattle.clone_values.specs.Tree.{Tree, Trees, Members, PairTrees, undefined, null, boolean, int, text, date, bytes, array, object, map_object, set_object, function, no_trees, tree_more, no_members, member_more, no_pairs, pair_more, trees_of, members_of, pairs_of, list_of_trees, list_of_members, list_of_pairs}
use Rattle.clone_values.specs.Names.{names_of, is_rising, set_members}
use Rattle.clone_values.specs.WellFormed.{is_value, are_values, member_values, pair_values, are_once, is_int, is_date, is_within_limit, is_text, is_byte, is_byte_string, is_array_name, are_properties}
use Rattle.clone_values.proofs.Laws.{array_fits, object_fits, map_fits, set_fits}
use Rattle.serde_json.specs.Data.{Data, put}
use Rattle.serde_json.specs.Data as json
use Rattle.serde_json.specs.Events.{items_len, members_len}
use Rattle.serde_json.specs.Find.{of_integer}
use Rattle.serde_json.specs.View.{items_of}
use Rattle.hex.specs.Hex.{IsBytes}
use Rattle.hex.proofs.HexLemmas.{decode_of-encode_lower}
use Rattle.value_json.specs.Marks.{begins_marked, any_marked}
use Rattle.value_json.specs.Reading.{tested, int_in, date_in, text_in, decoded, short_list, plain_array, plain_object, full_array, set_of, map_of, each_named, named_apart, named_in, tree_in, object_in, trees_in, pairs_in, members_in}
use Rattle.value_json.specs.Writing.{json_of, items_json, pairs_json, named_json, members_json, any_marked_name, list_data, marked}
use Rattle.value_json.specs.Laws.{ReadsBack}
use Rattle.value_json.specs.Tokens.{in_order}
use Rattle.value_json.proofs.Members.{members_listed, members_in_order}
use Rattle.value_json.proofs.Folds.{set_same, map_same, properties_same, each_same, apart_same, texted, may_stand}

-- ---- parts
pos_le : (n b : ℕ) → is_le (int_cmp (pos n) (pos b)) ≡ true → n ≤ b
pos_le n b h = by (nat_lt n b) (nat_lt b n) refl refl h
  where
    by : (p q : Bool) → nat_lt n b ≡ p → nat_lt b n ≡ q → is_le (cond p Less (cond q Greater Equal)) ≡ true → n ≤ b
    by true q e f h = omega (arith, ltb-true n b e)
    by false true e f h = cc
    by false false e f h = omega (arith, leb-false (suc b) n f)

number_back : (z : ℤ) → is_int z ≡ true → int_in (of_integer z) ≡ Some (int z)
number_back (pos n) h =
    let few : n < 2 ^ 63 = omega (arith, pos_le n 9007199254740992 (second_so (is_le (int_cmp (negsuc 9007199254740991) (pos n))) (is_le (int_cmp (pos n) (pos 9007199254740992))) h)) in
    rw (lt-ltb n (2 ^ 63) few, h) refl
number_back (negsuc n) h = rw h refl

date_back : (z : ℤ) → is_date z ≡ true → date_in (of_integer z) ≡ Some (date z)
date_back (pos n) h =
    let few : n < 2 ^ 63 = omega (arith, pos_le n 8640000000000000 (second_so (is_le (int_cmp (negsuc 8639999999999999) (pos n))) (is_le (int_cmp (pos n) (pos 8640000000000000))) h)) in
    rw (lt-ltb n (2 ^ 63) few, h) refl
date_back (negsuc n) h = rw h refl

bytes_below : (b : List ℕ) → list_all is_byte b ≡ true → IsBytes b
bytes_below [] h i = omega arith
bytes_below (x ∷ b) h zero = ltb-true x 256 (first_so (is_byte x) (list_all is_byte b) h)
bytes_below (x ∷ b) h (suc i) = bytes_below b (second_so (is_byte x) (list_all is_byte b) h) i

bytes_back : (b : List ℕ) → is_byte_string b ≡ true → ReadsBack (bytes b)
bytes_back b h = ap decoded (decode_of-encode_lower b (bytes_below b (first_so (list_all is_byte b) (is_within_limit b) h))) ∙ ap (λ w. tested w (bytes b)) h

-- ---- lists as parts of trees
trees_again : (ts : Trees) → trees_of (list_of_trees ts) ≡ ts
trees_again no_trees = refl
trees_again (tree_more t ts) = ap (tree_more t) (trees_again ts)

pairs_again : (ps : PairTrees) → pairs_of (list_of_pairs ps) ≡ ps
pairs_again no_pairs = refl
pairs_again (pair_more s t ps) = ap (pair_more s t) (pairs_again ps)

-- ---- lengths
items_count : (ts : Trees) → items_len (items_of (items_json ts)) ≡ length (list_of_trees ts)
items_count no_trees = refl
items_count (tree_more t ts) = ap suc (items_count ts)

named_count : (ms : Members) → items_len (items_of (named_json ms)) ≡ length (list_of_members ms)
named_count no_members = refl
named_count (member_more n t ms) = ap suc (named_count ms)

pairs_count : (ps : PairTrees) → items_len (items_of (pairs_json ps)) ≡ length (list_of_pairs ps)
pairs_count no_pairs = refl
pairs_count (pair_more s t ps) = ap suc (pairs_count ps)

short_back : {A : Type 0} (n m : ℕ) (o q : Option A) → n ≡ m → nat_le m 4294967295 ≡ true → o ≡ q → short_list n o ≡ q
short_back n m o q same h e = ap (λ k. short_list k o) same ∙ ap (λ b. if b then o else None) h ∙ e

-- ---- members of an object
marked_in_order : (ms : Members) → any_marked (in_order ms) ≡ any_marked_name ms
marked_in_order no_members = refl
marked_in_order (member_more n t ms) = ap (λ b. begins_marked n || b) (marked_in_order ms)

members_count : (ms : Members) → members_len (in_order ms) ≡ length (list_of_members ms)
members_count no_members = refl
members_count (member_more n t ms) = ap suc (members_count ms)

-- ---- the rules of a list of properties, apart
module _ (ms : List (List ℕ × Tree)) (h : are_properties ms ≡ true) where
  in_limit : is_within_limit ms ≡ true
  in_limit = first_so (is_within_limit ms) (list_all is_text (names_of ms)) (first_so (is_within_limit ms && list_all is_text (names_of ms)) (is_rising (names_of ms)) h)

  sizes : list_all is_text (names_of ms) ≡ true
  sizes = second_so (is_within_limit ms) (list_all is_text (names_of ms)) (first_so (is_within_limit ms && list_all is_text (names_of ms)) (is_rising (names_of ms)) h)

  rising : is_rising (names_of ms) ≡ true
  rising = second_so (is_within_limit ms && list_all is_text (names_of ms)) (is_rising (names_of ms)) h

any_may_stand : (ms : List (List ℕ × Tree)) → may_stand false ms ≡ true
any_may_stand [] = refl
any_may_stand (m ∷ ms) = any_may_stand ms

-- ---- each form
named_list : (of_array : Bool) (ms : Members) → are_properties (list_of_members ms) ≡ true → may_stand of_array (list_of_members ms) ≡ true → pairs_in (items_of (named_json ms)) ≡ Some (texted (list_of_members ms))
    → named_in of_array (short_list (items_len (items_of (named_json ms))) (pairs_in (items_of (named_json ms)))) ≡ Some (list_of_members ms)
named_list of_array ms h k e =
    ap (λ o. option_and_then named_apart (option_and_then (each_named of_array) o)) (short_back _ _ _ _ (named_count ms) (in_limit (list_of_members ms) h) e)
    ∙ ap (option_and_then named_apart) (each_same of_array (list_of_members ms) k) ∙ apart_same (list_of_members ms) (rising (list_of_members ms) h)

array_back : (ts : Trees) (ms : Members) → is_value (array ts ms) ≡ true → trees_in (items_of (items_json ts)) ≡ Some (list_of_trees ts) → pairs_in (items_of (named_json ms)) ≡ Some (texted (list_of_members ms)) → ReadsBack (array ts ms)
array_back ts ms h items named = by ms h named
  where
    few : (ms : Members) → is_value (array ts ms) ≡ true → short_list (items_len (items_of (items_json ts))) (trees_in (items_of (items_json ts))) ≡ Some (list_of_trees ts)
    few ms h = short_back _ _ _ _ (items_count ts) (array_fits ts ms h).count items

    by : (ms : Members) → is_value (array ts ms) ≡ true → pairs_in (items_of (named_json ms)) ≡ Some (texted (list_of_members ms)) → ReadsBack (array ts ms)
    by no_members h named = ap (option_map plain_array) (few no_members h) ∙ ap (λ w. Some (array w no_members)) (trees_again ts)
    by (member_more n t ms) h named =
        let all = member_more n t ms in
        let fits = array_fits ts all h in
        (λ i. full_array (few all h i) (named_list true all fits.props fits.names named i)) ∙ (λ i. Some (array (trees_again ts i) (members_listed all i)))

object_back : (ms : Members) → is_value (object ms) ≡ true → pairs_in (items_of (named_json ms)) ≡ Some (texted (list_of_members ms)) → members_in (in_order ms) ≡ Some (list_of_members ms) → ReadsBack (object ms)
object_back ms h named members = by (any_marked_name ms) refl
  where
    list : List (List ℕ × Tree)
    list = list_of_members ms

    names : are_properties (list_of_members ms) ≡ true
    names = (object_fits ms h).props

    placed : members_json json.no_members ms ≡ in_order ms
    placed = members_in_order ms (rising (list_of_members ms) names)

    plain : (b : Bool) (ds : json.Members) → ds ≡ in_order ms → b ≡ any_marked ds → b ≡ false → tree_in (json.object ds) ≡ Some (object ms)
    plain b ds same e f =
        ap (λ w. if w then object_in ds else option_map plain_object (option_map (set_members []) (short_list (members_len ds) (members_in ds)))) (sym e ∙ f)
        ∙ ap (option_map plain_object) (ap (λ w. option_map (set_members []) (short_list (members_len w) (members_in w))) same
        ∙ ap (option_map (set_members [])) (short_back _ _ _ _ (members_count ms) (in_limit (list_of_members ms) names) members)
        ∙ ap Some (properties_same (list_of_members ms) [] (rising (list_of_members ms) names)))
        ∙ ap (λ w. Some (object w)) (members_listed ms)

    by : (b : Bool) → any_marked_name ms ≡ b → tree_in (if b then marked (codes "$object") (list_data (named_json ms)) else json.object (members_json json.no_members ms)) ≡ Some (object ms)
    by true e = ap (option_map plain_object) (named_list false ms names (any_may_stand (list_of_members ms)) named) ∙ ap (λ w. Some (object w)) (members_listed ms)
    by false e = plain (any_marked_name ms) (members_json json.no_members ms) placed (sym (ap any_marked placed ∙ marked_in_order ms)) e

set_back : (ts : Trees) → is_value (set_object ts) ≡ true → trees_in (items_of (items_json ts)) ≡ Some (list_of_trees ts) → ReadsBack (set_object ts)
set_back ts h items =
    let fits = set_fits ts h in
    ap (option_map (λ w. set_object (trees_of (set_of w)))) (short_back _ _ _ _ (items_count ts) fits.count items)
    ∙ ap (λ w. Some (set_object (trees_of w))) (set_same (list_of_trees ts) [] fits.once)
    ∙ ap (λ w. Some (set_object w)) (trees_again ts)

map_back : (ps : PairTrees) → is_value (map_object ps) ≡ true → pairs_in (items_of (pairs_json ps)) ≡ Some (list_of_pairs ps) → ReadsBack (map_object ps)
map_back ps h pairs =
    let fits = map_fits ps h in
    ap (option_map (λ w. map_object (pairs_of (map_of w)))) (short_back _ _ _ _ (pairs_count ps) fits.count pairs)
    ∙ ap (λ w. Some (map_object (pairs_of w))) (map_same (list_of_pairs ps) [] fits.once)
    ∙ ap (λ w. Some (map_object w)) (pairs_again ps)

text_back : (s : List ℕ) → is_text s ≡ true → text_in s ≡ Some (text s)
text_back s h = ap (λ b. tested b (text s)) h

-- one more, in front
item_more : {A : Type 0} (o : Option A) (a : A) (q : Option (List A)) (more : List A) → o ≡ Some a → q ≡ Some more → option_and_then (λ t. option_map (λ ts. t ∷ ts) q) o ≡ Some (a ∷ more)
item_more o a q more e f = λ i. option_and_then (λ t. option_map (λ ts. t ∷ ts) (f i)) (e i)

pair_both : (o q : Option Tree) (s t : Tree) → o ≡ Some s → q ≡ Some t → option_and_then {U = Tree × Tree} (λ a. option_map (λ b. (a, b)) q) o ≡ Some (s, t)
pair_both o q s t e f = λ i. option_and_then {U = Tree × Tree} (λ a. option_map (λ b. (a, b)) (f i)) (e i)

named_more : (name : List ℕ) (o : Option Tree) (t : Tree) (q : Option (List (List ℕ × Tree))) (ms : List (List ℕ × Tree)) → is_text name ≡ true → o ≡ Some t → q ≡ Some ms
    → (if is_text name then option_and_then (λ a. option_map (λ ps. (name, a) ∷ ps) q) o else None) ≡ Some ((name, t) ∷ ms)
named_more name o t q ms h e f = λ i. if h i then option_and_then (λ a. option_map (λ ps. (name, a) ∷ ps) (f i)) (e i) else None

mutual
  pub reads_back : (t : Tree) → is_value t ≡ true → ReadsBack t
  reads_back undefined h = refl
  reads_back null h = refl
  reads_back (boolean b) h = refl
  reads_back (int z) h = number_back z h
  reads_back (text s) h = text_back s h
  reads_back (date z) h = date_back z h
  reads_back (bytes b) h = bytes_back b h
  reads_back (array ts ms) h =
      let fits = array_fits ts ms h in
      array_back ts ms h (trees_back ts fits.items) (named_back ms fits.values (sizes (list_of_members ms) fits.props))
  reads_back (object ms) h =
      let fits = object_fits ms h in
      let names = sizes (list_of_members ms) fits.props in
      object_back ms h (named_back ms fits.values names) (members_back ms fits.values names)
  reads_back (map_object ps) h = map_back ps h (pairs_back ps (map_fits ps h).pairs)
  reads_back (set_object ts) h = set_back ts h (trees_back ts (set_fits ts h).items)
  reads_back function h = refl

  trees_back : (ts : Trees) → are_values ts ≡ true → trees_in (items_of (items_json ts)) ≡ Some (list_of_trees ts)
  trees_back no_trees h = refl
  trees_back (tree_more t ts) h =
      item_more _ t _ (list_of_trees ts) (reads_back t (first_so (is_value t) (are_values ts) h)) (trees_back ts (second_so (is_value t) (are_values ts) h))

  pairs_back : (ps : PairTrees) → pair_values ps ≡ true → pairs_in (items_of (pairs_json ps)) ≡ Some (list_of_pairs ps)
  pairs_back no_pairs h = refl
  pairs_back (pair_more s t ps) h =
      let values = first_so (is_value s && is_value t) (pair_values ps) h in
      item_more _ (s, t) _ (list_of_pairs ps)
      (pair_both _ _ s t (reads_back s (first_so (is_value s) (is_value t) values)) (reads_back t (second_so (is_value s) (is_value t) values)))
      (pairs_back ps (second_so (is_value s && is_value t) (pair_values ps) h))

  named_back : (ms : Members) → member_values ms ≡ true → list_all is_text (names_of (list_of_members ms)) ≡ true → pairs_in (items_of (named_json ms)) ≡ Some (texted (list_of_members ms))
  named_back no_members h e = refl
  named_back (member_more n t ms) h e =
      item_more _ (text n, t) _ (texted (list_of_members ms))
      (pair_both _ _ (text n) t (text_back n (first_so (is_text n) (list_all is_text (names_of (list_of_members ms))) e)) (reads_back t (first_so (is_value t) (member_values ms) h)))
      (named_back ms (second_so (is_value t) (member_values ms) h) (second_so (is_text n) (list_all is_text (names_of (list_of_members ms))) e))

  members_back : (ms : Members) → member_values ms ≡ true → list_all is_text (names_of (list_of_members ms)) ≡ true → members_in (in_order ms) ≡ Some (list_of_members ms)
  members_back no_members h e = refl
  members_back (member_more n t ms) h e =
      named_more n _ t _ (list_of_members ms) (first_so (is_text n) (list_all is_text (names_of (list_of_members ms))) e) (reads_back t (first_so (is_value t) (member_values ms) h))
      (members_back ms (second_so (is_value t) (member_values ms) h) (second_so (is_text n) (list_all is_text (names_of (list_of_members ms))) e))
