-- Each key once, with the keys found so far in front.
--     Adds                  what is found so far, and what these items add to it
--     kept                  an item's key goes to those found, unless it is there
use Rattle.std.proofs.Common.{◌≡◌, Bool, true, false, not, ◌&&◌, ◌||◌, cond, List, [], ◌∷◌, ◌++◌, Some, None, refl, sym, ◌∙◌, ap, append_assoc}
use Rattle.std.specs.List.{filter, filter_map, cons_option, list_any}
use Rattle.std.specs.Ordering.{is_eq}
use Rattle.std.specs.declared.cmp.Ordering.TheVariants.{Less, Equal, Greater}
use Rattle.clone_values.specs.Tree.{Tree}
use Rattle.clone_values.specs.KeyTree.{KeyTree}
use Rattle.key_order.specs.KeyOrder.{key_cmp}
use Rattle.std.specs.BTreeMap.{is_at}
use Rattle.std.specs.BTreeSet.{BTreeSet, Updates}
use Rattle.std.specs.Cmp.{eq_by_cmp_equiv}
use Rattle.key_order.proofs.Laws.{key_cmp_same, key_cmp_total}
use Rattle.std.specs.Prelude.{if◌then◌else◌}
use Rattle.key_order.specs.Conversion.{key_of, keys_of, each_once}
use Rattle.key_paths.specs.KeysSeen.{is_among_keys, with_new, HasExactly}

-- the keys that are not among those found
abbrev pub others : List KeyTree → List KeyTree → List KeyTree
others found ks = filter (λ j. not (is_among_keys found j)) ks

-- what is found so far, and what these items add to it
abbrev pub Adds : List KeyTree → List Tree → List KeyTree
Adds found ts = found ++ others found (each_once (filter_map key_of ts))

-- ---- one filter for two
filters : (p q r : KeyTree → Bool) → ((x : KeyTree) → r x ≡ (q x && p x)) → (ks : List KeyTree) → filter p (filter q ks) ≡ filter r ks
filters p q r h [] = refl
filters p q r h (x ∷ ks) =
    let rest = filters p q r h ks in
    elim (q x) as (λ a. r x ≡ (a && p x) → filter p (cond a (x ∷ filter q ks) (filter q ks)) ≡ cond (r x) (x ∷ filter r ks) (filter r ks)) [
      | true ↦ λ e. λ i. cond (sym e i) (x ∷ rest i) (rest i)
      | false ↦ λ e. rest ∙ ap (λ b. cond b (x ∷ filter r ks) (filter r ks)) (sym e)
    ] (h x)

among_more : (found : List KeyTree) (k x : KeyTree) → is_among_keys (found ++ k ∷ []) x ≡ (is_eq (key_cmp x k) || is_among_keys found x)
among_more [] k x = refl
among_more (j ∷ found) k x = ap (λ b. is_eq (key_cmp x j) || b) (among_more found k x) ∙ turned (is_eq (key_cmp x j)) (is_eq (key_cmp x k)) (is_among_keys found x)
  where
    turned : (a b c : Bool) → (a || (b || c)) ≡ (b || (a || c))
    turned true true c = refl
    turned true false c = refl
    turned false b c = refl

not_either : (a b : Bool) → not (a || b) ≡ (not a && not b)
not_either true b = refl
not_either false b = refl

pub nothing_found : (ts : List Tree) → keys_of ts ≡ Adds [] ts
nothing_found ts = sym (all_others (each_once (filter_map key_of ts)))
  where
    all_others : (ks : List KeyTree) → others [] ks ≡ ks
    all_others [] = refl
    all_others (k ∷ ks) = ap (λ r. k ∷ r) (all_others ks)

-- an invalid item adds nothing
pub skipped : (found : List KeyTree) (t : Tree) (ts rest : List Tree) → ts ≡ t ∷ rest → key_of t ≡ None → Adds found rest ≡ Adds found ts
skipped found t ts rest starts e = sym (ap (λ us. Adds found us) starts ∙ ap (λ o. found ++ others found (each_once (cons_option o (filter_map key_of rest)))) e)

module _ (found : List KeyTree) (k : KeyTree) (t : Tree) (ts rest : List Tree) (starts : ts ≡ t ∷ rest) where
  first_key : key_of t ≡ Some k → each_once (filter_map key_of ts) ≡ k ∷ filter (λ j. not (is_eq (key_cmp j k))) (each_once (filter_map key_of rest))
  first_key e = ap (λ us. each_once (filter_map key_of us)) starts ∙ ap (λ o. each_once (cons_option o (filter_map key_of rest))) e

  -- a key that is there already adds nothing
  repeated : key_of t ≡ Some k → is_among_keys found k ≡ true → Adds found rest ≡ Adds found ts
  repeated e h =
      let all = each_once (filter_map key_of rest) in
      let one = filters (λ j. not (is_among_keys found j)) (λ j. not (is_eq (key_cmp j k))) (λ j. not (is_among_keys found j)) (λ x.
      elim (key_cmp x k) as (λ o. key_cmp x k ≡ o → not (is_among_keys found x) ≡ (not (is_eq o) && not (is_among_keys found x))) [
        | Less ↦ λ q. refl
        | Equal ↦ λ q. ap (λ y. not (is_among_keys found y)) (key_cmp_same x k q) ∙ ap not h
        | Greater ↦ λ q. refl
      ] refl) all in
      sym (ap (λ ks. found ++ others found ks) (first_key e)
      ∙ ap (λ b. found ++ cond (not b) (k ∷ others found (filter (λ j. not (is_eq (key_cmp j k))) all)) (others found (filter (λ j. not (is_eq (key_cmp j k))) all))) h
      ∙ ap (λ ks. found ++ ks) one)

  -- a new one goes to the end
  added : key_of t ≡ Some k → is_among_keys found k ≡ false → Adds (found ++ k ∷ []) rest ≡ Adds found ts
  added e h =
      let all = each_once (filter_map key_of rest) in
      let one = filters (λ j. not (is_among_keys found j)) (λ j. not (is_eq (key_cmp j k))) (λ j. not (is_among_keys (found ++ k ∷ []) j))
      (λ x. ap not (among_more found k x) ∙ not_either (is_eq (key_cmp x k)) (is_among_keys found x)) all in
      sym (ap (λ ks. found ++ others found ks) (first_key e)
      ∙ ap (λ b. found ++ cond (not b) (k ∷ others found (filter (λ j. not (is_eq (key_cmp j k))) all)) (others found (filter (λ j. not (is_eq (key_cmp j k))) all))) h
      ∙ ap (λ ks. found ++ k ∷ ks) one
      ∙ sym (append_assoc found (k ∷ []) _))

  -- a valid item adds its key, where it isn't there
  pub kept : key_of t ≡ Some k → Adds (with_new found k) rest ≡ Adds found ts
  kept e = elim (is_among_keys found k) as (λ b. is_among_keys found k ≡ b → Adds (if b then found else found ++ k ∷ []) rest ≡ Adds found ts) [ true ↦ repeated e | false ↦ added e ] refl

-- ---- the set of the keys found
either : (b c : Bool) → cond b true c ≡ (b || c)
either true c = refl
either false c = refl

pub none_seen : (s : BTreeSet KeyTree) → s.keys ≡ [] → HasExactly s []
none_seen s e k = ap (list_any (is_at (key_cmp k))) e

pub still_same : (s n : BTreeSet KeyTree) (found : List KeyTree) (k : KeyTree) → HasExactly s found → Updates key_cmp s n k true → HasExactly n (found ++ k ∷ [])
still_same s n found k h u q =
    u.0 q ∙ (λ i. cond ((eq_by_cmp_equiv key_cmp_total).symm k q i) true (h q i)) ∙ either (is_eq (key_cmp q k)) (is_among_keys found q) ∙ sym (among_more found k q)
