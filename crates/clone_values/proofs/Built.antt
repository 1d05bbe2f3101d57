-- What is built of well formed values keeps to the rules of their lists.
use Rattle.std.proofs.Common.{◌≡◌, ℕ, zero, suc, ◌+◌, ◌≤◌, Bool, true, false, not, ◌&&◌, ◌||◌, cond, if◌then◌else◌, le-leb, List, [], ◌∷◌, ◌++◌, length, length-append, map, slice_set, get_or, Option, Some, None, refl, sym, ◌∙◌, ap, arith, true≢false}
use Rattle.std.specs.declared.cmp.Ordering.{Ordering}
use Rattle.std.specs.declared.cmp.Ordering.TheVariants.{Less, Equal, Greater}
use Rattle.std.specs.Ordering.{nat_cmp, match_ordering}
use Rattle.std.specs.Cmp.{first_so, second_so}
use Rattle.std.specs.Cmp.Lexicographic.{slice_cmp}
use Rattle.std.specs.List.{list_any, list_all, position_from}
use Rattle.std.proofs.lemmas.List.Folds.{list_any-append}
use Rattle.std.proofs.lemmas.List.{map-append, map-set, set-get_or, length-set}
use Rattle.value_trees.specs.Lists.{IsWithinLimit, FitsOneMore}
use Rattle.value_trees.specs.TheConstants.{GREATEST_LENGTH}
use Rattle.value_trees.specs.Tree.{Tree, Trees, Members, PairTrees, list_of_trees, list_of_members, list_of_pairs, array, object, map_object, set_object, trees_of, members_of, pairs_of}
use Rattle.value_trees.specs.Names.{names_of, is_rising, set_member}
use Rattle.value_trees.specs.Sameness.{is_primitive, same_tree, repeats, put_once, put_pair, set_at_place}
use Rattle.value_trees.specs.WellFormed.{is_value, are_values, member_values, pair_values, are_once, are_properties, is_within_limit, is_text, is_array_name, IsValue}
use Rattle.value_trees.specs.Cloneable.{is_cloneable_within, members_cloneable_within}
use Rattle.value_trees.proofs.Laws.{trees_again, members_again, pairs_again, same_tree_decides}
use Rattle.clone_values.proofs.NamesLaws.{rising_set}
use Rattle.clone_values.proofs.Sorting.{set_longer}

pub both_so : (a b : Bool) → a ≡ true → b ≡ true → (a && b) ≡ true
both_so a b e f = rw e f

-- ---- a property set
module _ (p : List ℕ × Tree → Bool) (n : List ℕ) (v : Tree) (new : p (n, v) ≡ true) where
  pub all_set : (ms : List (List ℕ × Tree)) → list_all p ms ≡ true → list_all p (set_member ms n v) ≡ true
  all_set [] h = both_so (p (n, v)) true new refl
  all_set (m ∷ ms) h = by (slice_cmp nat_cmp n m.0) (first_so (p m) (list_all p ms) h) (second_so (p m) (list_all p ms) h) (all_set ms (second_so (p m) (list_all p ms) h))
    where
      by : (o : Ordering) → p m ≡ true → list_all p ms ≡ true → list_all p (set_member ms n v) ≡ true → list_all p (match_ordering o ((n, v) ∷ m ∷ ms) ((n, v) ∷ ms) (m ∷ set_member ms n v)) ≡ true
      by Less here rest later = both_so (p (n, v)) _ new (both_so (p m) _ here rest)
      by Equal here rest later = both_so (p (n, v)) _ new rest
      by Greater here rest later = both_so (p m) _ here later

values_each : (ms : List (List ℕ × Tree)) → member_values (members_of ms) ≡ list_all (λ m. is_value m.1) ms
values_each [] = refl
values_each (m ∷ ms) = ap (λ b. is_value m.1 && b) (values_each ms)

cloneable_each : (n : ℕ) (ms : List (List ℕ × Tree)) → members_cloneable_within n (members_of ms) ≡ list_all (λ m. is_cloneable_within n m.1) ms
cloneable_each n [] = refl
cloneable_each n (m ∷ ms) = ap (λ b. is_cloneable_within n m.1 && b) (cloneable_each n ms)

names_each : (p : List ℕ → Bool) (ms : List (List ℕ × Tree)) → list_all p (names_of ms) ≡ list_all (λ m. p m.0) ms
names_each p [] = refl
names_each p (m ∷ ms) = ap (λ b. p m.0 && b) (names_each p ms)

pub values_set : (ms : List (List ℕ × Tree)) (n : List ℕ) (v : Tree) → member_values (members_of ms) ≡ true → IsValue v → member_values (members_of (set_member ms n v)) ≡ true
values_set ms n v h e = values_each (set_member ms n v) ∙ all_set (λ m. is_value m.1) n v e ms (sym (values_each ms) ∙ h)

pub names_set : (p : List ℕ → Bool) (ms : List (List ℕ × Tree)) (n : List ℕ) (v : Tree) → list_all p (names_of ms) ≡ true → p n ≡ true → list_all p (names_of (set_member ms n v)) ≡ true
names_set p ms n v h e = names_each p (set_member ms n v) ∙ all_set (λ m. p m.0) n v e ms (sym (names_each p ms) ∙ h)

pub cloneable_set : (levels : ℕ) (ms : List (List ℕ × Tree)) (n : List ℕ) (v : Tree) → members_cloneable_within levels (members_of ms) ≡ true → is_cloneable_within levels v ≡ true
    → members_cloneable_within levels (members_of (set_member ms n v)) ≡ true
cloneable_set levels ms n v h e = cloneable_each levels (set_member ms n v) ∙ all_set (λ m. is_cloneable_within levels m.1) n v e ms (sym (cloneable_each levels ms) ∙ h)

pub properties_set : (ms : List (List ℕ × Tree)) (n : List ℕ) (v : Tree) → are_properties ms ≡ true → is_text n ≡ true → IsWithinLimit (set_member ms n v) → are_properties (set_member ms n v) ≡ true
properties_set ms n v h text short =
    let a = is_within_limit ms in
    let b = list_all is_text (names_of ms) in
    let new = set_member ms n v in
    let ab = first_so (a && b) (is_rising (names_of ms)) h in
    both_so (is_within_limit new && list_all is_text (names_of new)) _ (both_so (is_within_limit new) _ (le-leb _ _ short) (names_set is_text ms n v (second_so a b ab) text))
    (rising_set n v ms (second_so (a && b) (is_rising (names_of ms)) h))

-- ---- members put once
neither : (a b : Bool) → (a || b) ≡ false → (a ≡ false) × (b ≡ false)
neither true b e = absurd (true≢false e)
neither false b e = (refl, e)

alone_and : (a b : Bool) → (not a && b) ≡ true → (a ≡ false) × (b ≡ true)
alone_and true b e = absurd (true≢false (sym e))
alone_and false b e = (refl, e)

once_push : (ts : List Tree) (u : Tree) → are_once ts ≡ true → list_any (λ s. repeats s u) ts ≡ false → are_once (ts ++ u ∷ []) ≡ true
once_push [] u h n = refl
once_push (t ∷ ts) u h n =
    let before = alone_and (list_any (λ s. repeats t s) ts) (are_once ts) h in
    let new = neither (repeats t u) (list_any (λ s. repeats s u) ts) n in
    let alone : list_any (λ s. repeats t s) (ts ++ u ∷ []) ≡ false = list_any-append (λ s. repeats t s) ts (u ∷ []) ∙ (λ i. before.0 i || (new.0 i || false)) in
    λ i. not (alone i) && once_push ts u before.1 new.1 i

pub values_push : (ts : List Tree) (t : Tree) → are_values (trees_of ts) ≡ true → IsValue t → are_values (trees_of (ts ++ t ∷ [])) ≡ true
values_push [] t h e = both_so (is_value t) true e refl
values_push (s ∷ ts) t h e =
    both_so (is_value s) _ (first_so (is_value s) (are_values (trees_of ts)) h) (values_push ts t (second_so (is_value s) (are_values (trees_of ts)) h) e)

-- well formed members, of which no primitive stands twice
abbrev pub IsSet : List Tree → Type 0
IsSet ts = (are_values (trees_of ts) ≡ true) × (are_once ts ≡ true)

pub put_kept : (ts : List Tree) (t : Tree) → IsSet ts → IsValue t → IsSet (put_once ts t)
put_kept ts t h e = by (list_any (λ s. repeats s t) ts) refl
  where
    by : (b : Bool) → list_any (λ s. repeats s t) ts ≡ b → IsSet (if b then ts else ts ++ t ∷ [])
    by true n = h
    by false n = (values_push ts t h.0 e, once_push ts t h.1 n)

pub put_longer : (ts : List Tree) (t : Tree) → length (put_once ts t) ≤ length ts + 1
put_longer ts t = by (list_any (λ s. repeats s t) ts)
  where
    by : (b : Bool) → length (if b then ts else ts ++ t ∷ []) ≤ length ts + 1
    by true = omega arith
    by false = omega (arith, length-append ts (t ∷ []))

-- ---- entries put by their keys
-- well formed entries, of which no two have one primitive key
abbrev pub IsMap : List (Tree × Tree) → Type 0
IsMap ps = (pair_values (pairs_of ps) ≡ true) × (are_once (map (λ p. p.0) ps) ≡ true)

pair_so : (a b c : Bool) → a ≡ true → b ≡ true → c ≡ true → (a && b && c) ≡ true
pair_so a b c e f g = both_so (a && b) c (both_so a b e f) g

pairs_push : (ps : List (Tree × Tree)) (k v : Tree) → pair_values (pairs_of ps) ≡ true → IsValue k → IsValue v → pair_values (pairs_of (ps ++ (k, v) ∷ [])) ≡ true
pairs_push [] k v h e f = pair_so (is_value k) (is_value v) true e f refl
pairs_push (p ∷ ps) k v h e f =
    both_so (is_value p.0 && is_value p.1) _ (first_so (is_value p.0 && is_value p.1) (pair_values (pairs_of ps)) h) (pairs_push ps k v (second_so (is_value p.0 && is_value p.1) (pair_values (pairs_of ps)) h) e f)

pairs_set : (ps : List (Tree × Tree)) (i : ℕ) (k v : Tree) → pair_values (pairs_of ps) ≡ true → IsValue k → IsValue v → pair_values (pairs_of (slice_set ps i (k, v))) ≡ true
pairs_set [] i k v h e f = refl
pairs_set (p ∷ ps) zero k v h e f = both_so (is_value k && is_value v) _ (both_so (is_value k) _ e f) (second_so (is_value p.0 && is_value p.1) (pair_values (pairs_of ps)) h)
pairs_set (p ∷ ps) (suc i) k v h e f =
    both_so (is_value p.0 && is_value p.1) _ (first_so (is_value p.0 && is_value p.1) (pair_values (pairs_of ps)) h) (pairs_set ps i k v (second_so (is_value p.0 && is_value p.1) (pair_values (pairs_of ps)) h) e f)

passes_there : {A : Type 0} (f : A → Bool) (i j : ℕ) (xs : List A) (d : A) → position_from f i xs ≡ Some j → (k : ℕ) × (j ≡ i + k) × (f (get_or xs k d) ≡ true)
passes_there f i j [] d e = cc
passes_there f i j (x ∷ xs) d e = by (f x) refl e (passes_there f (i + 1) j xs d)
  where
    by : (b : Bool) → f x ≡ b → cond b (Some i) (position_from f (i + 1) xs) ≡ Some j → (position_from f (i + 1) xs ≡ Some j → (k : ℕ) × (j ≡ i + 1 + k) × (f (get_or xs k d) ≡ true)) → (k : ℕ) × (j ≡ i + k) × (f (get_or (x ∷ xs) k d) ≡ true)
    by true h e later = let same : i ≡ j = cc in (0, omega arith, h)
    by false h e later = let there = later e in (suc there.0, omega (arith, there.1), there.2)

none_passes : {A B : Type 0} (f : B → Bool) (g : A → B) (i : ℕ) (xs : List A) → position_from (λ x. f (g x)) i xs ≡ None → list_any f (map g xs) ≡ false
none_passes f g i [] e = refl
none_passes f g i (x ∷ xs) e = by (f (g x)) e (none_passes f g (i + 1) xs)
  where
    by : (b : Bool) → cond b (Some i) (position_from (λ y. f (g y)) (i + 1) xs) ≡ None → (position_from (λ y. f (g y)) (i + 1) xs ≡ None → list_any f (map g xs) ≡ false) → (b || list_any f (map g xs)) ≡ false
    by true e later = cc
    by false e later = later e

get-map : {A B : Type 0} (g : A → B) (xs : List A) (i : ℕ) (d : A) → g (get_or xs i d) ≡ get_or (map g xs) i (g d)
get-map g [] i d = refl
get-map g (x ∷ xs) zero d = refl
get-map g (x ∷ xs) (suc i) d = get-map g xs i d

repeats_same : (s t : Tree) → repeats s t ≡ true → s ≡ t
repeats_same s t e = (same_tree_decides s t (same_tree s t) refl).0 (second_so (is_primitive s) (same_tree s t) e)

keys_stay : (ps : List (Tree × Tree)) (k v : Tree) (j : ℕ) → position_from (λ p. repeats p.0 k) 0 ps ≡ Some j → map (λ p. p.0) (slice_set ps j (k, v)) ≡ map (λ p. p.0) ps
keys_stay ps k v j e =
    let there = passes_there (λ p. repeats p.0 k) 0 j ps (k, v) e in
    let same : j ≡ there.0 = omega (arith, there.1) in
    let key : get_or (map (λ p. p.0) ps) j k ≡ k = sym (get-map (λ p. p.0) ps j (k, v)) ∙ ap (λ i. (get_or ps i (k, v)).0) same ∙ repeats_same (get_or ps there.0 (k, v)).0 k there.2 in
    map-set (λ p. p.0) ps j (k, v) ∙ ap (λ w. slice_set (map (λ p. p.0) ps) j w) (sym key) ∙ set-get_or (map (λ p. p.0) ps) j k

pub pair_kept : (ps : List (Tree × Tree)) (k v : Tree) → IsMap ps → IsValue k → IsValue v → IsMap (put_pair ps k v)
pair_kept ps k v h e f = by (position_from (λ p. repeats p.0 k) 0 ps) refl
  where
    by : (o : Option ℕ) → position_from (λ p. repeats p.0 k) 0 ps ≡ o → IsMap (set_at_place ps k v o)
    by None n = (pairs_push ps k v h.0 e f, ap are_once (map-append (λ p. p.0) ps ((k, v) ∷ [])) ∙ once_push (map (λ p. p.0) ps) k h.1 (none_passes (λ s. repeats s k) (λ p. p.0) 0 ps n))
    by (Some j) n = (pairs_set ps j k v h.0 e f, ap are_once (keys_stay ps k v j n) ∙ h.1)

pub pair_longer : (ps : List (Tree × Tree)) (k v : Tree) → length (put_pair ps k v) ≤ length ps + 1
pair_longer ps k v = by (position_from (λ p. repeats p.0 k) 0 ps)
  where
    by : (o : Option ℕ) → length (set_at_place ps k v o) ≤ length ps + 1
    by None = omega (arith, length-append ps ((k, v) ∷ []))
    by (Some i) = omega (arith, length-set ps i (k, v))

-- ---- the whole value
within : {A : Type 0} (xs : List A) → IsWithinLimit xs → is_within_limit xs ≡ true
within xs h = le-leb (length xs) GREATEST_LENGTH h

-- what the test of an Array says, part by part
pub record ArrayFits (ts : Trees) (ms : Members) : Type 0 where
  pub items : are_values ts ≡ true
  pub count : is_within_limit (list_of_trees ts) ≡ true
  pub values : member_values ms ≡ true
  pub props : are_properties (list_of_members ms) ≡ true
  pub names : list_all is_array_name (names_of (list_of_members ms)) ≡ true

pub array_fits : (ts : Trees) (ms : Members) → IsValue (array ts ms) → ArrayFits ts ms
array_fits ts ms h =
    let a = is_within_limit (list_of_trees ts) in
    let b = are_properties (list_of_members ms) in
    let c = list_all is_array_name (names_of (list_of_members ms)) in
    let d = are_values ts in
    let e = member_values ms in
    let abcd = first_so (a && b && c && d) e h in
    let abc = first_so (a && b && c) d abcd in
    let ab = first_so (a && b) c abc in
    record { items = second_so (a && b && c) d abcd; count = first_so a b ab; values = second_so (a && b && c && d) e h; props = second_so a b ab; names = second_so (a && b) c abc }

pub array_again : (ts : Trees) (ms : Members) → ArrayFits ts ms → IsValue (array ts ms)
array_again ts ms f =
    let a = is_within_limit (list_of_trees ts) in
    let b = are_properties (list_of_members ms) in
    let c = list_all is_array_name (names_of (list_of_members ms)) in
    both_so (a && b && c && are_values ts) _ (both_so (a && b && c) _ (pair_so a b c f.count f.props f.names) f.items) f.values

-- and that of an Object, of a Map and of a Set
pub record ObjectFits (ms : Members) : Type 0 where
  pub values : member_values ms ≡ true
  pub props : are_properties (list_of_members ms) ≡ true

pub object_fits : (ms : Members) → IsValue (object ms) → ObjectFits ms
object_fits ms h = let a = are_properties (list_of_members ms) in record { values = second_so a (member_values ms) h; props = first_so a (member_values ms) h }

pub object_again : (ms : Members) → ObjectFits ms → IsValue (object ms)
object_again ms f = both_so (are_properties (list_of_members ms)) _ f.props f.values

pub record MapFits (ps : PairTrees) : Type 0 where
  pub pairs : pair_values ps ≡ true
  pub count : is_within_limit (list_of_pairs ps) ≡ true
  pub once : are_once (map (λ p. p.0) (list_of_pairs ps)) ≡ true

pub map_fits : (ps : PairTrees) → IsValue (map_object ps) → MapFits ps
map_fits ps h =
    let a = is_within_limit (list_of_pairs ps) in
    let b = are_once (map (λ p. p.0) (list_of_pairs ps)) in
    let ab = first_so (a && b) (pair_values ps) h in
    record { pairs = second_so (a && b) (pair_values ps) h; count = first_so a b ab; once = second_so a b ab }

pub map_again : (ps : PairTrees) → MapFits ps → IsValue (map_object ps)
map_again ps f = pair_so (is_within_limit (list_of_pairs ps)) (are_once (map (λ p. p.0) (list_of_pairs ps))) _ f.count f.once f.pairs

pub record SetFits (ts : Trees) : Type 0 where
  pub items : are_values ts ≡ true
  pub count : is_within_limit (list_of_trees ts) ≡ true
  pub once : are_once (list_of_trees ts) ≡ true

pub set_fits : (ts : Trees) → IsValue (set_object ts) → SetFits ts
set_fits ts h =
    let a = is_within_limit (list_of_trees ts) in
    let b = are_once (list_of_trees ts) in
    let ab = first_so (a && b) (are_values ts) h in
    record { items = second_so (a && b) (are_values ts) h; count = first_so a b ab; once = second_so a b ab }

pub set_again : (ts : Trees) → SetFits ts → IsValue (set_object ts)
set_again ts f = pair_so (is_within_limit (list_of_trees ts)) (are_once (list_of_trees ts)) _ f.count f.once f.items

pub pushed : (ts : List Tree) (ms : Members) (t : Tree) → IsValue (array (trees_of ts) ms) → IsValue t → FitsOneMore ts → IsValue (array (trees_of (ts ++ t ∷ [])) ms)
pushed ts ms t h e fits =
    let f = array_fits (trees_of ts) ms h in
    let new = ts ++ t ∷ [] in
    array_again (trees_of new) ms (record {
      items = values_push ts t f.items e;
      count = ap is_within_limit (trees_again new) ∙ within new (omega (arith, length-append ts (t ∷ []), fits));
      values = f.values;
      props = f.props;
      names = f.names;
    })

pub put : (ts : List Tree) (t : Tree) → IsValue (set_object (trees_of ts)) → IsValue t → FitsOneMore ts → IsValue (set_object (trees_of (put_once ts t)))
put ts t h e fits =
    let f = set_fits (trees_of ts) h in
    let new = put_once ts t in
    let kept = put_kept ts t (f.items, ap are_once (sym (trees_again ts)) ∙ f.once) e in
    set_again (trees_of new) (record {
      items = kept.0;
      count = ap is_within_limit (trees_again new) ∙ within new (omega (arith, put_longer ts t, fits));
      once = ap are_once (trees_again new) ∙ kept.1;
    })

pub entered : (ps : List (Tree × Tree)) (k v : Tree) → IsValue (map_object (pairs_of ps)) → IsValue k → IsValue v → FitsOneMore ps → IsValue (map_object (pairs_of (put_pair ps k v)))
entered ps k v h e f fits =
    let m = map_fits (pairs_of ps) h in
    let new = put_pair ps k v in
    let keys : List (Tree × Tree) → Bool = λ qs. are_once (map (λ p. p.0) qs) in
    let kept = pair_kept ps k v (m.pairs, ap keys (sym (pairs_again ps)) ∙ m.once) e f in
    map_again (pairs_of new) (record {
      pairs = kept.0;
      count = ap is_within_limit (pairs_again new) ∙ within new (omega (arith, pair_longer ps k v, fits));
      once = ap keys (pairs_again new) ∙ kept.1;
    })

pub set_in_object : (ms : List (List ℕ × Tree)) (n : List ℕ) (v : Tree) → IsValue (object (members_of ms)) → is_text n ≡ true → IsValue v → FitsOneMore ms → IsValue (object (members_of (set_member ms n v)))
set_in_object ms n v h text e fits =
    let f = object_fits (members_of ms) h in
    let new = set_member ms n v in
    object_again (members_of new) (record {
      values = values_set ms n v f.values e;
      props = ap are_properties (members_again new) ∙ properties_set ms n v (sym (ap are_properties (members_again ms)) ∙ f.props) text (omega (arith, set_longer ms n v, fits));
    })

pub set_in_array : (ts : Trees) (ms : List (List ℕ × Tree)) (n : List ℕ) (v : Tree) → IsValue (array ts (members_of ms)) → is_text n ≡ true → is_array_name n ≡ true → IsValue v → FitsOneMore ms
    → IsValue (array ts (members_of (set_member ms n v)))
set_in_array ts ms n v h text name e fits =
    let f = array_fits ts (members_of ms) h in
    let new = set_member ms n v in
    let names : List (List ℕ × Tree) → Bool = λ ns. list_all is_array_name (names_of ns) in
    array_again ts (members_of new) (record {
      items = f.items;
      count = f.count;
      values = values_set ms n v f.values e;
      props = ap are_properties (members_again new) ∙ properties_set ms n v (sym (ap are_properties (members_again ms)) ∙ f.props) text (omega (arith, set_longer ms n v, fits));
      names = ap names (members_again new) ∙ names_set is_array_name ms n v (sym (ap names (members_again ms)) ∙ f.names) name;
    })
