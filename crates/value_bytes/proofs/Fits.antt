-- A list of values is fit to be spelled exactly where each of its members is.
use Rattle.std.proofs.Common.{◌≡◌, ℕ, ◌≤◌, Bool, true, false, ◌&&◌, ◌||◌, List, [], ◌∷◌, ◌++◌, refl, ap, arith}
use Rattle.std.specs.List.{flat_map, AllByRecursion, list_all}
use Rattle.std.specs.Cmp.{first_so, second_so}
use Rattle.clone_values.specs.Tree.{Tree, Trees, Members, PairTrees, no_trees, tree_more, no_members, member_more, no_pairs, pair_more, trees_of, members_of, pairs_of, list_of_trees, list_of_members, list_of_pairs}
use Rattle.clone_values.specs.Names.{names_of}
use Rattle.clone_values.specs.WellFormed.{is_value, are_values, member_values, pair_values, is_text}
use Rattle.clone_values.specs.Values.{depth_of, trees_depth, members_depth, pairs_depth, holds_function, trees_hold_function, members_hold_function, pairs_hold_function}
use Rattle.value_bytes.specs.Spelling.{string_bytes, spelling_of, items_spelling, members_spelling, pairs_spelling}
use Rattle.value_bytes.proofs.FieldFormats.{IsText}

-- a value of that depth at most may be spelled
pub record Fits (d : ℕ) (t : Tree) : Type 0 where
  pub formed : is_value t ≡ true
  pub plain : holds_function t ≡ false
  pub depth : depth_of t ≤ d

abbrev pub MemberFits : ℕ → List ℕ × Tree → Type 0
MemberFits d m = IsText m.0 × Fits d m.1

abbrev pub PairFits : ℕ → Tree × Tree → Type 0
PairFits d p = Fits d p.0 × Fits d p.1

pub record ItemsFit (d : ℕ) (ts : Trees) : Type 0 where
  pub formed : are_values ts ≡ true
  pub plain : trees_hold_function ts ≡ false
  pub depth : trees_depth ts ≤ d

pub record MembersFit (d : ℕ) (ms : Members) : Type 0 where
  pub formed : member_values ms ≡ true
  pub names : list_all is_text (names_of (list_of_members ms)) ≡ true
  pub plain : members_hold_function ms ≡ false
  pub depth : members_depth ms ≤ d

pub record PairsFit (d : ℕ) (ps : PairTrees) : Type 0 where
  pub formed : pair_values ps ≡ true
  pub plain : pairs_hold_function ps ≡ false
  pub depth : pairs_depth ps ≤ d

-- ---- both of two tests, neither of two
pub neither : (s t : Bool) → (s || t) ≡ false → (s ≡ false) × (t ≡ false)
neither false t h = (refl, h)
neither true t h = absurd cc

module _ (d : ℕ) where
  pub items_fit : (ts : List Tree) → AllByRecursion (Fits d) ts → ItemsFit d (trees_of ts)
  items_fit [] h = record { formed = refl; plain = refl; depth = omega arith }
  items_fit (t ∷ ts) h =
      let one = h.0 in
      let more = items_fit ts h.1 in
      record { formed = λ i. one.formed i && more.formed i; plain = λ i. one.plain i || more.plain i; depth = omega (arith, one.depth, more.depth) }

  pub items_each : (ts : Trees) → ItemsFit d ts → AllByRecursion (Fits d) (list_of_trees ts)
  items_each no_trees f = tt
  items_each (tree_more t ts) f =
      let functions = neither (holds_function t) (trees_hold_function ts) f.plain in (
        record { formed = first_so (is_value t) (are_values ts) f.formed; plain = functions.0; depth = omega (arith, f.depth) },
        items_each ts (record { formed = second_so (is_value t) (are_values ts) f.formed; plain = functions.1; depth = omega (arith, f.depth) }),
      )

  pub members_fit : (ms : List (List ℕ × Tree)) → AllByRecursion (MemberFits d) ms → MembersFit d (members_of ms)
  members_fit [] h = record { formed = refl; names = refl; plain = refl; depth = omega arith }
  members_fit (m ∷ ms) h =
      let one = h.0.1 in
      let more = members_fit ms h.1 in
      record { formed = λ i. one.formed i && more.formed i; names = λ i. h.0.0 i && more.names i; plain = λ i. one.plain i || more.plain i; depth = omega (arith, one.depth, more.depth) }

  pub members_each : (ms : Members) → MembersFit d ms → AllByRecursion (MemberFits d) (list_of_members ms)
  members_each no_members f = tt
  members_each (member_more n t ms) f =
      let functions = neither (holds_function t) (members_hold_function ms) f.plain in
      let names = list_all is_text (names_of (list_of_members ms)) in (
        (first_so (is_text n) names f.names, record { formed = first_so (is_value t) (member_values ms) f.formed; plain = functions.0; depth = omega (arith, f.depth) }),
        members_each ms (record { formed = second_so (is_value t) (member_values ms) f.formed; names = second_so (is_text n) names f.names; plain = functions.1; depth = omega (arith, f.depth) }),
      )

  pub pairs_fit : (ps : List (Tree × Tree)) → AllByRecursion (PairFits d) ps → PairsFit d (pairs_of ps)
  pairs_fit [] h = record { formed = refl; plain = refl; depth = omega arith }
  pairs_fit (p ∷ ps) h =
      let key = h.0.0 in
      let value = h.0.1 in
      let more = pairs_fit ps h.1 in
      record { formed = λ i. key.formed i && value.formed i && more.formed i; plain = λ i. key.plain i || value.plain i || more.plain i; depth = omega (arith, key.depth, value.depth, more.depth) }

  pub pairs_each : (ps : PairTrees) → PairsFit d ps → AllByRecursion (PairFits d) (list_of_pairs ps)
  pairs_each no_pairs f = tt
  pairs_each (pair_more s t ps) f =
      let functions = neither (holds_function s || holds_function t) (pairs_hold_function ps) f.plain in
      let two = neither (holds_function s) (holds_function t) functions.0 in
      let front = first_so (is_value s && is_value t) (pair_values ps) f.formed in (
        (
          record { formed = first_so (is_value s) (is_value t) front; plain = two.0; depth = omega (arith, f.depth) },
          record { formed = second_so (is_value s) (is_value t) front; plain = two.1; depth = omega (arith, f.depth) },
        ),
        pairs_each ps (record { formed = second_so (is_value s && is_value t) (pair_values ps) f.formed; plain = functions.1; depth = omega (arith, f.depth) }),
      )

-- ---- the lists of a tree as plain lists, and back
pub trees_listed : (ts : Trees) → trees_of (list_of_trees ts) ≡ ts
trees_listed no_trees = refl
trees_listed (tree_more t ts) = ap (λ r. tree_more t r) (trees_listed ts)

pub members_listed : (ms : Members) → members_of (list_of_members ms) ≡ ms
members_listed no_members = refl
members_listed (member_more n t ms) = ap (λ r. member_more n t r) (members_listed ms)

pub pairs_listed : (ps : PairTrees) → pairs_of (list_of_pairs ps) ≡ ps
pairs_listed no_pairs = refl
pairs_listed (pair_more s t ps) = ap (λ r. pair_more s t r) (pairs_listed ps)

-- ---- their bytes
abbrev pub member_bytes : List ℕ × Tree → List ℕ
member_bytes m = string_bytes m.0 ++ spelling_of m.1

abbrev pub pair_bytes : Tree × Tree → List ℕ
pair_bytes p = spelling_of p.0 ++ spelling_of p.1

pub items_bytes : (ts : Trees) → items_spelling ts ≡ flat_map spelling_of (list_of_trees ts)
items_bytes no_trees = refl
items_bytes (tree_more t ts) = ap (λ r. spelling_of t ++ r) (items_bytes ts)

pub members_bytes : (ms : Members) → members_spelling ms ≡ flat_map member_bytes (list_of_members ms)
members_bytes no_members = refl
members_bytes (member_more n t ms) = ap (λ r. (string_bytes n ++ spelling_of t) ++ r) (members_bytes ms)

pub pairs_bytes : (ps : PairTrees) → pairs_spelling ps ≡ flat_map pair_bytes (list_of_pairs ps)
pairs_bytes no_pairs = refl
pairs_bytes (pair_more s t ps) = ap (λ r. (spelling_of s ++ spelling_of t) ++ r) (pairs_bytes ps)
