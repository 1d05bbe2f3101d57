-- A key of depth 1 makes no value that can't be cloned: at most 99 identifiers, and no Function.
use Rattle.std.proofs.Common.{◌≡◌, ℕ, ◌+◌, ◌≤◌, nat_eq, cond, Bool, true, false, ◌||◌, max, List, [], ◌∷◌, length, option_map, unwrap_or, Some, refl, ◌∙◌, ap, arith}
use Rattle.std.specs.Cmp.Lexicographic.{slice_cmp, pointwise}
use Rattle.std.specs.List.{find}
use Rattle.std.specs.Ordering.{nat_cmp, match_ordering}
use Rattle.std.specs.declared.cmp.Ordering.TheVariants.{Less, Equal, Greater}
use Rattle.clone_values.specs.Tree.{Tree, Members, array, object, no_members, member_more, members_of, list_of_members}
use Rattle.clone_values.specs.KeyTree.{KeyTree, KeyTrees, number, date, text, binary, array as keys_array, no_keys, key_more}
use Rattle.clone_values.specs.Names.{set_member}
use Rattle.clone_values.specs.Values.{depth_of, members_depth, holds_function, trees_hold_function, members_hold_function, IsCloneable}
use Rattle.clone_values.specs.declared.path_types.PathSpec.{PathSpec}
use Rattle.clone_values.specs.declared.path_types.PathSpec.TheVariants.{One, Many}
use Rattle.path_grammar.specs.KeyPath.{parts_of, is_key_path}
use Rattle.path_grammar.proofs.Laws.{few_parts}
use Rattle.clone_values.specs.KeyValues.{value_of_key, values_of_keys, key_depth}
use Rattle.key_paths.specs.Evaluation.{named_properties}
use Rattle.key_paths.specs.Injection.{held_under, with_properties, placed, injected}
use Rattle.key_paths.proofs.KeysFound.{same_depth}

pub members_back : (ms : Members) → members_of (list_of_members ms) ≡ ms
members_back no_members = refl
members_back (member_more n t ms) = ap (member_more n t) (members_back ms)

-- ---- depth
set_depth : (ms : List (List ℕ × Tree)) (n : List ℕ) (w : Tree) → members_depth (members_of (set_member ms n w)) ≤ max (members_depth (members_of ms)) (depth_of w)
set_depth [] n w = omega arith
set_depth (m ∷ ms) n w =
    let rest = set_depth ms n w in
    elim (slice_cmp nat_cmp n m.0) as (λ o. members_depth (members_of (match_ordering o ((n, w) ∷ m ∷ ms) ((n, w) ∷ ms) (m ∷ set_member ms n w))) ≤ max (members_depth (members_of (m ∷ ms))) (depth_of w)) [
      | Less ↦ omega arith
      | Equal ↦ omega arith
      | Greater ↦ omega arith
    ]

held_depth : (ms : List (List ℕ × Tree)) (n : List ℕ) → depth_of (held_under n ms) ≤ max (members_depth (members_of ms)) 1
held_depth [] n = omega arith
held_depth (m ∷ ms) n =
    let rest = held_depth ms n in
    elim (pointwise nat_eq m.0 n) as (λ b. depth_of (unwrap_or (option_map (λ p. p.1) (cond b (Some m) (find (λ p. pointwise nat_eq p.0 n) ms))) (object no_members)) ≤ max (members_depth (members_of (m ∷ ms))) 1) [
      | true ↦ omega arith
      | false ↦ omega arith
    ]

with_depth : (t : Tree) (ps : List (List ℕ × Tree)) → depth_of (with_properties t ps) ≤ max (depth_of t) (1 + members_depth (members_of ps))
with_depth (array ts ms) ps = omega arith
with_depth (object ms) ps = omega arith
with_depth _ ps = omega arith

properties_depth : (t : Tree) → 1 + members_depth (members_of (named_properties t)) ≤ depth_of t
properties_depth (array ts ms) = omega (arith, ap members_depth (members_back ms))
properties_depth (object ms) = omega (arith, ap members_depth (members_back ms))
properties_depth _ = omega arith

placed_depth : (ns : List (List ℕ)) (t v : Tree) → 1 ≤ depth_of v → depth_of (placed ns t v) ≤ max (depth_of t) (length ns + depth_of v)
placed_depth [] t v h = omega arith
placed_depth (n ∷ ns) t v h =
    let ms = named_properties t in
    let w = placed ns (held_under n ms) v in
    omega (arith, with_depth t (set_member ms n w), set_depth ms n w, placed_depth ns (held_under n ms) v h, held_depth ms n, properties_depth t)

-- ---- Functions
neither : (a b : Bool) → a ≡ false → b ≡ false → (a || b) ≡ false
neither a b e f = ap (λ x. x || b) e ∙ f

no_first : (a b : Bool) → (a || b) ≡ false → a ≡ false
no_first true b e = e
no_first false b e = refl

no_second : (a b : Bool) → (a || b) ≡ false → b ≡ false
no_second true true e = e
no_second true false e = refl
no_second false b e = e

set_none : (ms : List (List ℕ × Tree)) (n : List ℕ) (w : Tree) → members_hold_function (members_of ms) ≡ false → holds_function w ≡ false → members_hold_function (members_of (set_member ms n w)) ≡ false
set_none [] n w h g = neither (holds_function w) false g refl
set_none (m ∷ ms) n w h g =
    let first = no_first (holds_function m.1) (members_hold_function (members_of ms)) h in
    let rest = no_second (holds_function m.1) (members_hold_function (members_of ms)) h in
    elim (slice_cmp nat_cmp n m.0) as (λ o. members_hold_function (members_of (match_ordering o ((n, w) ∷ m ∷ ms) ((n, w) ∷ ms) (m ∷ set_member ms n w))) ≡ false) [
      | Less ↦ neither (holds_function w) _ g h
      | Equal ↦ neither (holds_function w) _ g rest
      | Greater ↦ neither (holds_function m.1) _ first (set_none ms n w rest g)
    ]

held_none : (ms : List (List ℕ × Tree)) (n : List ℕ) → members_hold_function (members_of ms) ≡ false → holds_function (held_under n ms) ≡ false
held_none [] n h = refl
held_none (m ∷ ms) n h =
    elim (pointwise nat_eq m.0 n) as (λ b. holds_function (unwrap_or (option_map (λ p. p.1) (cond b (Some m) (find (λ p. pointwise nat_eq p.0 n) ms))) (object no_members)) ≡ false) [
      | true ↦ no_first (holds_function m.1) (members_hold_function (members_of ms)) h
      | false ↦ held_none ms n (no_second (holds_function m.1) (members_hold_function (members_of ms)) h)
    ]

with_none : (t : Tree) (ps : List (List ℕ × Tree)) → holds_function t ≡ false → members_hold_function (members_of ps) ≡ false → holds_function (with_properties t ps) ≡ false
with_none (array ts ms) ps h g = neither (trees_hold_function ts) _ (no_first (trees_hold_function ts) (members_hold_function ms) h) g
with_none (object ms) ps h g = g
with_none _ ps h g = h

properties_none : (t : Tree) → holds_function t ≡ false → members_hold_function (members_of (named_properties t)) ≡ false
properties_none (array ts ms) h = ap members_hold_function (members_back ms) ∙ no_second (trees_hold_function ts) (members_hold_function ms) h
properties_none (object ms) h = ap members_hold_function (members_back ms) ∙ h
properties_none _ h = refl

placed_none : (ns : List (List ℕ)) (t v : Tree) → holds_function t ≡ false → holds_function v ≡ false → holds_function (placed ns t v) ≡ false
placed_none [] t v h g = g
placed_none (n ∷ ns) t v h g =
    let ms = named_properties t in
    let none = properties_none t h in
    with_none t (set_member ms n (placed ns (held_under n ms) v)) h (set_none ms n (placed ns (held_under n ms) v) none (placed_none ns (held_under n ms) v (held_none ms n none) g))

mutual
  key_none : (k : KeyTree) → holds_function (value_of_key k) ≡ false
  key_none (number n) = refl
  key_none (date d) = refl
  key_none (text s) = refl
  key_none (binary b) = refl
  key_none (keys_array ks) = neither (trees_hold_function (values_of_keys ks)) false (keys_none ks) refl

  keys_none : (ks : KeyTrees) → trees_hold_function (values_of_keys ks) ≡ false
  keys_none no_keys = refl
  keys_none (key_more k ks) = neither (holds_function (value_of_key k)) (trees_hold_function (values_of_keys ks)) (key_none k) (keys_none ks)

pub key_cloneable : (k : KeyTree) → key_depth k ≤ 100 → IsCloneable (value_of_key k)
key_cloneable k h = (key_none k, omega (arith, same_depth k))

-- ---- the path
some_depth : (k : KeyTree) → 1 ≤ key_depth k
some_depth (keys_array ks) = omega arith
some_depth _ = omega arith

pub stays_cloneable : (path : PathSpec) (t : Tree) (k : KeyTree) → is_key_path path ≡ true → key_depth k ≤ 1 → IsCloneable t → IsCloneable (injected path t k)
stays_cloneable (One s) t k p h c =
    let v = value_of_key k in (
      placed_none (parts_of s) t v c.0 (key_none k),
      let flat : depth_of v ≡ 1 = same_depth k ∙ (let some = some_depth k in omega arith) in
          omega (arith, placed_depth (parts_of s) t v (omega arith), few_parts s p, c.1),
    )
stays_cloneable (Many ss) t k p h c = c
