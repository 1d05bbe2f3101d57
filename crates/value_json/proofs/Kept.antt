-- What is built of well formed values keeps to the rules of their lists.
use Rattle.std.proofs.Common.{◌≡◌, ℕ, zero, suc, ◌+◌, ◌≤◌, Bool, true, false, not, ◌&&◌, ◌||◌, cond, if◌then◌else◌, List, [], ◌∷◌, ◌++◌, length, map, slice_set, get_or, Option, Some, None, option_map, option_and_then, IfSome, refl, sym, ◌∙◌, ap, arith, true≢false}
use Rattle.std.specs.Cmp.{first_so, second_so}
use Rattle.std.specs.List.{fold, list_all}
use Rattle.clone_values.specs.Tree.{Tree, text, trees_of, pairs_of}
use Rattle.clone_values.specs.Names.{names_of, is_rising, set_member, set_members}
use Rattle.clone_values.specs.Sameness.{put_once, put_pair}
use Rattle.clone_values.specs.WellFormed.{is_value, are_values, pair_values, are_once, is_text, is_array_name}
use Rattle.clone_values.proofs.Laws.{both_so, IsSet, IsMap, put_kept, put_longer, pair_kept, pair_longer, set_longer, rising_set, all_set}
use Rattle.value_json.specs.Reading.{tested, named_one, each_named}

-- ---- members put once
pub neither : (a b : Bool) → (a || b) ≡ false → (a ≡ false) × (b ≡ false)
neither true b e = absurd (true≢false e)
neither false b e = (refl, e)

pub alone_and : (a b : Bool) → (not a && b) ≡ true → (a ≡ false) × (b ≡ true)
alone_and true b e = absurd (true≢false (sym e))
alone_and false b e = (refl, e)

pub set_kept : (ts done : List Tree) → are_values (trees_of ts) ≡ true → IsSet done → IsSet (fold put_once done ts) × (length (fold put_once done ts) ≤ length done + length ts)
set_kept [] done h k = (k, omega arith)
set_kept (t ∷ ts) done h k =
    let later = set_kept ts (put_once done t) (second_so (is_value t) (are_values (trees_of ts)) h) (put_kept done t k (first_so (is_value t) (are_values (trees_of ts)) h)) in
    (later.0, omega (arith, later.1, put_longer done t))

-- ---- entries put by their keys
pub map_kept : (ps done : List (Tree × Tree)) → pair_values (pairs_of ps) ≡ true → IsMap done
    → IsMap (fold (λ d p. put_pair d p.0 p.1) done ps) × (length (fold (λ d p. put_pair d p.0 p.1) done ps) ≤ length done + length ps)
map_kept [] done h k = (k, omega arith)
map_kept (p ∷ ps) done h k =
    let here = first_so (is_value p.0 && is_value p.1) (pair_values (pairs_of ps)) h in
    let later = map_kept ps (put_pair done p.0 p.1) (second_so (is_value p.0 && is_value p.1) (pair_values (pairs_of ps)) h) (pair_kept done p.0 p.1 k (first_so (is_value p.0) (is_value p.1) here) (second_so (is_value p.0) (is_value p.1) here)) in
    (later.0, omega (arith, later.1, pair_longer done p.0 p.1))

-- ---- properties
-- a well formed value under a name that may stand there
abbrev pub is_good : Bool → List ℕ × Tree → Bool
is_good of_array m = is_value m.1 && (is_text m.0 && (not of_array || is_array_name m.0))

abbrev pub AreGood : Bool → List (List ℕ × Tree) → Type 0
AreGood of_array ms = (list_all (is_good of_array) ms ≡ true) × (is_rising (names_of ms) ≡ true)

pub good_set : (of_array : Bool) (ms : List (List ℕ × Tree)) (n : List ℕ) (v : Tree) → AreGood of_array ms → is_good of_array (n, v) ≡ true → AreGood of_array (set_member ms n v)
good_set of_array ms n v h e = (all_set (is_good of_array) n v e ms h.0, rising_set n v ms h.1)

pub properties_kept : (of_array : Bool) (ms done : List (List ℕ × Tree)) → list_all (is_good of_array) ms ≡ true → AreGood of_array done
    → AreGood of_array (set_members done ms) × (length (set_members done ms) ≤ length done + length ms)
properties_kept of_array [] done h k = (k, omega arith)
properties_kept of_array (m ∷ ms) done h k =
    let later = properties_kept of_array ms (set_member done m.0 m.1) (second_so (is_good of_array m) (list_all (is_good of_array) ms) h) (good_set of_array done m.0 m.1 k (first_so (is_good of_array m) (list_all (is_good of_array) ms) h)) in
    (later.0, omega (arith, later.1, set_longer done m.0 m.1))

-- ---- names and values of a list
tested_good : (of_array b : Bool) (n : List ℕ) (v : Tree) → b ≡ is_array_name n → is_text n ≡ true → is_value v ≡ true → IfSome (tested (not of_array || b) (n, v)) (λ m. is_good of_array m ≡ true)
tested_good true true n v e w f = both_so (is_value v) _ f (both_so (is_text n) _ w (sym e))
tested_good true false n v e w f = tt
tested_good false b n v e w f = both_so (is_value v) _ f (both_so (is_text n) true w refl)

one_kept : (of_array : Bool) (k v : Tree) → is_value k ≡ true → is_value v ≡ true → IfSome (named_one of_array k v) (λ m. is_good of_array m ≡ true)
one_kept of_array (text n) v h e = tested_good of_array (is_array_name n) n v refl h e
one_kept of_array _ v h e = tt

pub named_kept : (of_array : Bool) (ps : List (Tree × Tree)) → pair_values (pairs_of ps) ≡ true → IfSome (each_named of_array ps) (λ ms. (list_all (is_good of_array) ms ≡ true) × (length ms ≤ length ps))
named_kept of_array [] h = (refl, omega arith)
named_kept of_array (p ∷ ps) h =
    by (named_one of_array p.0 p.1) (one_kept of_array p.0 p.1 (first_so (is_value p.0) (is_value p.1) here) (second_so (is_value p.0) (is_value p.1) here))
    (each_named of_array ps) (named_kept of_array ps (second_so (is_value p.0 && is_value p.1) (pair_values (pairs_of ps)) h))
  where
    here : (is_value p.0 && is_value p.1) ≡ true
    here = first_so (is_value p.0 && is_value p.1) (pair_values (pairs_of ps)) h

    by : (o : Option (List ℕ × Tree)) → IfSome o (λ m. is_good of_array m ≡ true) → (q : Option (List (List ℕ × Tree))) → IfSome q (λ ms. (list_all (is_good of_array) ms ≡ true) × (length ms ≤ length ps))
        → IfSome (option_and_then (λ m. option_map (λ ms. m ∷ ms) q) o) (λ ms. (list_all (is_good of_array) ms ≡ true) × (length ms ≤ length (p ∷ ps)))
    by None g q k = tt
    by (Some m) g None k = tt
    by (Some m) g (Some ms) k = (both_so (is_good of_array m) _ g k.0, omega (arith, k.1))
