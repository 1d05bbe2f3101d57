-- What a document reads as is well formed.
use Rattle.std.proofs.Common.{◌≡◌, ℕ, suc, ◌+◌, ◌≤◌, Bool, true, false, not, ◌&&◌, if◌then◌else◌, List, [], ◌∷◌, length, Option, Some, None, option_map, option_and_then, IfSome, Result, Ok, Err, IfOk, subst, map, ◌||◌, refl, ◌∙◌, ap, arith, nat_le, nat_eq, le-leb}
use Rattle.std.proofs.lemmas.Bool.{leb-true}
use Rattle.std.specs.Cmp.{first_so, second_so}
use Rattle.std.specs.List.{list_all}
use Rattle.clone_values.specs.Tree.{Tree, int, text, date, bytes, array, map_object, set_object, trees_of, members_of, pairs_of, list_of_members}
use Rattle.clone_values.specs.Names.{names_of, set_members}
use Rattle.clone_values.specs.WellFormed.{is_value, IsValue, are_values, member_values, pair_values, are_once, is_int, is_date, is_within_limit, is_text, is_byte_string, is_array_name, are_properties}
use Rattle.clone_values.proofs.Laws.{trees_again, members_again, pairs_again, both_so, array_again, object_again, map_again, set_again}
use Rattle.clone_values.specs.View.{tree_of}
use Rattle.clone_values.specs.declared.value_types.Value.{Value}
use Rattle.serde_json.specs.Data.{Data, Num, Members}
use Rattle.serde_json.specs.Data as json
use Rattle.serde_json.specs.Events.{items_len, members_len}
use Rattle.serde_json.specs.Find.{as_i64}
use Rattle.hex.specs.Hex.{decode_of}
use Rattle.hex.specs.declared.error.FromHexError.{FromHexError}
use Rattle.value_json.specs.Marks.{mark_in, is_full_array, any_marked}
use Rattle.value_json.specs.declared.marks.Mark.{Mark}
use Rattle.value_json.specs.declared.marks.Mark.TheVariants as mark
use Rattle.idb_base.specs.Results.{Gives}
use Rattle.value_json.specs.declared.error.JsonError.{JsonError}
use Rattle.value_json.specs.Reading.{IsUnread, tested, int_in, date_in, decoded, short_list, plain_array, plain_object, full_array, set_of, map_of, each_named, named_apart, named_in, tree_in, object_in, marked_in, list_in, pair_list_in, trees_in, pairs_in, pair_in, members_in}
use Rattle.value_json.proofs.Kept.{set_kept, map_kept, is_good, AreGood, properties_kept, named_kept}

-- ---- through the steps of an Option
if_tested : {A : Type 0} (P : A → Type 0) (b : Bool) (a : A) → (b ≡ true → P a) → IfSome (tested b a) P
if_tested P true a h = h refl
if_tested P false a h = tt

if_map : {A B : Type 0} (P : A → Type 0) (Q : B → Type 0) (f : A → B) (o : Option A) → IfSome o P → ((a : A) → P a → Q (f a)) → IfSome (option_map f o) Q
if_map P Q f None h k = tt
if_map P Q f (Some a) h k = k a h

if_then : {A B : Type 0} (P : A → Type 0) (Q : B → Type 0) (f : A → Option B) (o : Option A) → IfSome o P → ((a : A) → P a → IfSome (f a) Q) → IfSome (option_and_then f o) Q
if_then P Q f None h k = tt
if_then P Q f (Some a) h k = k a h

if_either : {A : Type 0} (P : A → Type 0) (b : Bool) (o q : Option A) → IfSome o P → IfSome q P → IfSome (if b then o else q) P
if_either P true o q h k = h
if_either P false o q h k = k

-- what holds of each member, and a bound of their number
abbrev Counted : {A : Type 0} → (List A → Type 0) → ℕ → List A → Type 0
Counted V n xs = V xs × (length xs ≤ n)

few : {A : Type 0} (V : List A → Type 0) (m n : ℕ) (o : Option (List A)) → m ≤ n → IfSome o (Counted V m) → IfSome o (Counted V n)
few V m n None le h = tt
few V m n (Some xs) le h = (h.0, omega (arith, le, h.1))

if_list : {A : Type 0} (V : List A → Type 0) (n : ℕ) (o : Option (List A)) → IfSome o (Counted V n) → IfSome (short_list n o) (Counted V 4294967295)
if_list {A} V n o h = by (nat_le n 4294967295) refl
  where
    by : (b : Bool) → nat_le n 4294967295 ≡ b → IfSome (if b then o else None) (Counted V 4294967295)
    by true e = few V n 4294967295 o (leb-true n 4294967295 e) h
    by false e = tt

-- ---- parts
number_good : (n : Num) → IfSome (int_in n) IsValue
number_good n = by (as_i64 n)
  where
    by : (o : Option _) → IfSome (option_and_then (λ z. tested (is_int z) (int z)) o) IsValue
    by None = tt
    by (Some z) = if_tested IsValue (is_int z) (int z) (λ h. h)

date_good : (n : Num) → IfSome (date_in n) IsValue
date_good n = by (as_i64 n)
  where
    by : (o : Option _) → IfSome (option_and_then (λ z. tested (is_date z) (date z)) o) IsValue
    by None = tt
    by (Some z) = if_tested IsValue (is_date z) (date z) (λ h. h)

decoded_good : (r : Result (List ℕ) FromHexError) → IfSome (decoded r) IsValue
decoded_good (Ok bs) = if_tested IsValue (is_byte_string bs) (bytes bs) (λ h. h)
decoded_good (Err e) = tt

within : {A : Type 0} (xs : List A) → length xs ≤ 4294967295 → is_within_limit xs ≡ true
within xs h = le-leb (length xs) 4294967295 h

abbrev AreTrees : List Tree → Type 0
AreTrees ts = are_values (trees_of ts) ≡ true

abbrev ArePairs : List (Tree × Tree) → Type 0
ArePairs ps = pair_values (pairs_of ps) ≡ true

abbrev AreNamed : Bool → List (List ℕ × Tree) → Type 0
AreNamed of_array ms = list_all (is_good of_array) ms ≡ true

abbrev Items : List Tree → Type 0
Items = Counted AreTrees 4294967295

abbrev Pairs : List (Tree × Tree) → Type 0
Pairs = Counted ArePairs 4294967295

abbrev Named : Bool → List (List ℕ × Tree) → Type 0
Named of_array = Counted (AreGood of_array) 4294967295

-- what is good name by name, as the rules say it of the list
values_apart : (of_array : Bool) (ms : List (List ℕ × Tree)) → list_all (is_good of_array) ms ≡ true → member_values (members_of ms) ≡ true
values_apart of_array [] h = refl
values_apart of_array (m ∷ ms) h =
    both_so (is_value m.1) _ (first_so (is_value m.1) _ (first_so (is_good of_array m) (list_all (is_good of_array) ms) h)) (values_apart of_array ms (second_so (is_good of_array m) (list_all (is_good of_array) ms) h))

sizes_apart : (of_array : Bool) (ms : List (List ℕ × Tree)) → list_all (is_good of_array) ms ≡ true → list_all is_text (names_of ms) ≡ true
sizes_apart of_array [] h = refl
sizes_apart of_array (m ∷ ms) h =
    let name = second_so (is_value m.1) (is_text m.0 && (not of_array || is_array_name m.0)) (first_so (is_good of_array m) (list_all (is_good of_array) ms) h) in
    both_so (is_text m.0) _ (first_so (is_text m.0) (not of_array || is_array_name m.0) name) (sizes_apart of_array ms (second_so (is_good of_array m) (list_all (is_good of_array) ms) h))

names_apart : (ms : List (List ℕ × Tree)) → list_all (is_good true) ms ≡ true → list_all is_array_name (names_of ms) ≡ true
names_apart [] h = refl
names_apart (m ∷ ms) h =
    let name = second_so (is_value m.1) (is_text m.0 && is_array_name m.0) (first_so (is_good true m) (list_all (is_good true) ms) h) in
    both_so (is_array_name m.0) _ (second_so (is_text m.0) (is_array_name m.0) name) (names_apart ms (second_so (is_good true m) (list_all (is_good true) ms) h))

properties : (of_array : Bool) (ms : List (List ℕ × Tree)) → Named of_array ms → are_properties (list_of_members (members_of ms)) ≡ true
properties of_array ms h =
    ap are_properties (members_again ms) ∙ both_so (is_within_limit ms && list_all is_text (names_of ms)) _ (both_so (is_within_limit ms) _ (within ms h.1) (sizes_apart of_array ms h.0.0)) h.0.1

object_good : (ms : List (List ℕ × Tree)) → Named false ms → IsValue (plain_object ms)
object_good ms h = object_again (members_of ms) (record { values = values_apart false ms h.0.0; props = properties false ms h })

array_good : (ts : List Tree) (ms : List (List ℕ × Tree)) → Items ts → Named true ms → IsValue (array (trees_of ts) (members_of ms))
array_good ts ms h k =
    array_again (trees_of ts) (members_of ms) (record {
      items = h.0;
      count = ap is_within_limit (trees_again ts) ∙ within ts h.1;
      values = values_apart true ms k.0.0;
      props = properties true ms k;
      names = ap (λ w. list_all is_array_name (names_of w)) (members_again ms) ∙ names_apart ms k.0.0;
    })

plain_array_good : (ts : List Tree) → Items ts → IsValue (plain_array ts)
plain_array_good ts h = array_good ts [] h ((refl, refl), omega arith)

set_good : (ts : List Tree) → Items ts → IsValue (set_object (trees_of (set_of ts)))
set_good ts h =
    let kept = set_kept ts [] h.0 (refl, refl) in
    set_again (trees_of (set_of ts)) (record {
      items = kept.0.0;
      count = ap is_within_limit (trees_again (set_of ts)) ∙ within (set_of ts) (omega (arith, kept.1, h.1));
      once = ap are_once (trees_again (set_of ts)) ∙ kept.0.1;
    })

map_good : (ps : List (Tree × Tree)) → Pairs ps → IsValue (map_object (pairs_of (map_of ps)))
map_good ps h =
    let kept = map_kept ps [] h.0 (refl, refl) in
    map_again (pairs_of (map_of ps)) (record {
      pairs = kept.0.0;
      count = ap is_within_limit (pairs_again (map_of ps)) ∙ within (map_of ps) (omega (arith, kept.1, h.1));
      once = ap (λ w. are_once (map (λ p. p.0) w)) (pairs_again (map_of ps)) ∙ kept.0.1;
    })

set_named : (of_array : Bool) (ms : List (List ℕ × Tree)) → Counted (AreNamed of_array) 4294967295 ms → Named of_array (set_members [] ms)
set_named of_array ms h = let kept = properties_kept of_array ms [] h.0 (refl, refl) in (kept.0, omega (arith, kept.1, h.1))

named_good : (of_array : Bool) (o : Option (List (Tree × Tree))) → IfSome o Pairs → IfSome (named_in of_array o) (Named of_array)
named_good of_array o h =
    if_then (Counted (AreNamed of_array) 4294967295) (Named of_array) named_apart (option_and_then (each_named of_array) o)
    (if_then Pairs (Counted (AreNamed of_array) 4294967295) (each_named of_array) o h (λ ps k. few (AreNamed of_array) (length ps) 4294967295 (each_named of_array ps) k.1 (named_kept of_array ps k.0)))
    (λ ms g. if_tested (Named of_array) (nat_eq (length (set_members [] ms)) (length ms)) (set_members [] ms) (λ _. set_named of_array ms g))

full_good : (o : Option (List Tree)) (q : Option (List (List ℕ × Tree))) → IfSome o Items → IfSome q (Named true) → IfSome (full_array o q) IsValue
full_good o q h k = if_then Items IsValue _ o h (λ ts g. if_map (Named true) IsValue _ q k (λ ms n. array_good ts ms g n))

abbrev IsPair : Tree × Tree → Type 0
IsPair p = IsValue p.0 × IsValue p.1

named_member : (name : List ℕ) (o : Option Tree) (q : Option (List (List ℕ × Tree))) (n : ℕ) (b : Bool) → is_text name ≡ b → IfSome o IsValue → IfSome q (Counted (AreNamed false) n)
    → IfSome (if b then option_and_then (λ t. option_map (λ ps. (name, t) ∷ ps) q) o else None) (Counted (AreNamed false) (suc n))
named_member name o q n true e h k = if_then IsValue (Counted (AreNamed false) (suc n)) _ o h (λ t v. if_map (Counted (AreNamed false) n) (Counted (AreNamed false) (suc n)) _ q k
    (λ ps g. (both_so (is_good false (name, t)) _ (both_so (is_value t) _ v (both_so (is_text name) true e refl)) g.0, omega (arith, g.1))))
named_member name o q n false e h k = tt

-- ---- documents
mutual
  pub tree_good : (d : Data) → IfSome (tree_in d) IsValue
  tree_good json.null = refl
  tree_good (json.boolean b) = refl
  tree_good (json.number n) = number_good n
  tree_good (json.string s) = if_tested IsValue (is_text s) (text s) (λ h. h)
  tree_good (json.array ds) = if_map Items IsValue plain_array _ (if_list AreTrees (items_len ds) (trees_in ds) (trees_good ds)) plain_array_good
  tree_good (json.object ms) = if_either IsValue (any_marked ms) (object_in ms) _ (marked_object_good ms)
      (if_map (Named false) IsValue plain_object _ (if_map (Counted (AreNamed false) 4294967295) (Named false) (set_members []) _ (if_list (AreNamed false) (members_len ms) (members_in ms) (members_good ms)) (set_named false)) object_good)

  marked_object_good : (ms : Members) → IfSome (object_in ms) IsValue
  marked_object_good json.no_members = tt
  marked_object_good (json.member name d json.no_members) = marked_good (mark_in name) d
  marked_object_good (json.member name d (json.member other e json.no_members)) = if_either IsValue (is_full_array name other) _ None (full_good (list_in d) (named_in true (pair_list_in e)) (list_good d) (named_good true (pair_list_in e) (pair_list_good e))) tt
  marked_object_good (json.member name d (json.member other e (json.member third f ms))) = tt

  marked_good : (o : Option Mark) (d : Data) → IfSome (marked_in o d) IsValue
  marked_good (Some mark.Undefined) json.null = refl
  marked_good (Some mark.Function) json.null = refl
  marked_good (Some mark.Date) (json.number n) = date_good n
  marked_good (Some mark.Bytes) (json.string s) = decoded_good (decode_of s)
  marked_good (Some mark.Array) (json.array ds) = if_map Items IsValue plain_array _ (if_list AreTrees (items_len ds) (trees_in ds) (trees_good ds)) plain_array_good
  marked_good (Some mark.Object) (json.array ds) = if_map (Named false) IsValue plain_object _ (named_good false _ (if_list ArePairs (items_len ds) (pairs_in ds) (pairs_good ds))) object_good
  marked_good (Some mark.Map) (json.array ds) = if_map Pairs IsValue _ _ (if_list ArePairs (items_len ds) (pairs_in ds) (pairs_good ds)) map_good
  marked_good (Some mark.Set) (json.array ds) = if_map Items IsValue _ _ (if_list AreTrees (items_len ds) (trees_in ds) (trees_good ds)) set_good
  marked_good _ _ = tt

  list_good : (d : Data) → IfSome (list_in d) Items
  list_good (json.array ds) = if_list AreTrees (items_len ds) (trees_in ds) (trees_good ds)
  list_good _ = tt

  pair_list_good : (d : Data) → IfSome (pair_list_in d) Pairs
  pair_list_good (json.array ds) = if_list ArePairs (items_len ds) (pairs_in ds) (pairs_good ds)
  pair_list_good _ = tt

  trees_good : (ds : json.Items) → IfSome (trees_in ds) (Counted AreTrees (items_len ds))
  trees_good json.no_items = (refl, omega arith)
  trees_good (json.item d ds) = if_then IsValue (Counted AreTrees (suc (items_len ds))) _ (tree_in d) (tree_good d) (λ t v. if_map (Counted AreTrees (items_len ds)) (Counted AreTrees (suc (items_len ds))) _ (trees_in ds) (trees_good ds) (λ ts h. (both_so (is_value t) _ v h.0, omega (arith, h.1))))

  pairs_good : (ds : json.Items) → IfSome (pairs_in ds) (Counted ArePairs (items_len ds))
  pairs_good json.no_items = (refl, omega arith)
  pairs_good (json.item d ds) = if_then IsPair (Counted ArePairs (suc (items_len ds))) _ (pair_in d) (pair_good d) (λ p v. if_map (Counted ArePairs (items_len ds)) (Counted ArePairs (suc (items_len ds))) _ (pairs_in ds) (pairs_good ds) (λ ps h. (both_so (is_value p.0 && is_value p.1) _ (both_so (is_value p.0) _ v.0 v.1) h.0, omega (arith, h.1))))

  pair_good : (d : Data) → IfSome (pair_in d) IsPair
  pair_good (json.array (json.item k (json.item v json.no_items))) = if_then IsValue IsPair _ (tree_in k) (tree_good k) (λ s h. if_map IsValue IsPair _ (tree_in v) (tree_good v) (λ t g. (h, g)))
  pair_good _ = tt

  members_good : (ms : Members) → IfSome (members_in ms) (Counted (AreNamed false) (members_len ms))
  members_good json.no_members = (refl, omega arith)
  members_good (json.member name d ms) = named_member name (tree_in d) (members_in ms) (members_len ms) (is_text name) refl (tree_good d) (members_good ms)

pub read_well : (d : Data) (r : Result Value JsonError) → Gives IsUnread tree_of r (tree_in d) → IfOk r (λ v. IsValue (tree_of v))
read_well d (Ok v) e = subst (λ o. IfSome o IsValue) e (tree_good d)
read_well d (Err e) h = tt
