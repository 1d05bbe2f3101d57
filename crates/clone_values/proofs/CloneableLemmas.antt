-- The walk that stops at a depth tells whether a value can be cloned.
use Rattle.std.proofs.Common.{List, ◌<◌, ◌≡◌, ◌↔◌, ℕ, ◌+◌, ◌-◌, ◌≤◌, Bool, true, false, not, ◌&&◌, ◌||◌, nat_lt, nat_le, max, IsTrue, le-leb, refl, sym, ◌∙◌, ap, arith}
use Rattle.std.proofs.lemmas.Grind.{common_steps}
use Rattle.value_trees.specs.TheConstants.{GREATEST_DEPTH}
use Rattle.value_trees.specs.Tree.{Tree, Trees, Members, PairTrees, undefined, null, boolean, int, text, date, bytes, array, object, map_object, set_object, function, members_of, no_trees, tree_more, no_members, member_more, no_pairs, pair_more}
use Rattle.value_trees.specs.Names.{set_member}
use Rattle.value_trees.specs.Values.{depth_of, trees_depth, members_depth, pairs_depth, holds_function, trees_hold_function, members_hold_function, pairs_hold_function, IsCloneable}
use Rattle.clone_values.proofs.Built.{cloneable_set}
use Rattle.value_trees.specs.Cloneable.{is_cloneable_within, are_cloneable_within, members_cloneable_within, pairs_cloneable_within}

-- none of the first sort, and at most so deep
abbrev fits : Bool → ℕ → ℕ → Bool
fits a x n = not a && nat_le x n

both_fit : (a b : Bool) (x y n : ℕ) → (fits a x n && fits b y n) ≡ fits (a || b) (max x y) n
both_fit a b x y n = grind (arith, common_steps)

leaf_fits : (n : ℕ) → nat_lt 0 n ≡ fits false 1 n
leaf_fits n = grind (arith, common_steps)

none_fit : (n : ℕ) → true ≡ fits false 0 n
none_fit n = grind (arith, common_steps)

one_deeper : (a : Bool) (x n : ℕ) → (nat_lt 0 n && fits a x (n - 1)) ≡ fits a (1 + x) n
one_deeper a x n = grind (arith, common_steps)

regroup : (a b c : Bool) → (a && b && c) ≡ (a && (b && c))
regroup a b c = grind (arith, common_steps)

one_list : (n : ℕ) (b a : Bool) (x : ℕ) → b ≡ fits a x (n - 1) → (nat_lt 0 n && b) ≡ fits a (1 + x) n
one_list n b a x e = ap (λ w. nat_lt 0 n && w) e ∙ one_deeper a x n

two_lists : (n : ℕ) (b c a d : Bool) (x y : ℕ) → b ≡ fits a x (n - 1) → c ≡ fits d y (n - 1) → (nat_lt 0 n && b && c) ≡ fits (a || d) (1 + max x y) n
two_lists n b c a d x y e f = regroup (nat_lt 0 n) b c ∙ one_list n (b && c) (a || d) (max x y) ((λ i. e i && f i) ∙ both_fit a d x y (n - 1))

one_more : (n : ℕ) (b c a d : Bool) (x y : ℕ) → b ≡ fits a x n → c ≡ fits d y n → (b && c) ≡ fits (a || d) (max x y) n
one_more n b c a d x y e f = (λ i. e i && f i) ∙ both_fit a d x y n

mutual
  within : (n : ℕ) (t : Tree) → is_cloneable_within n t ≡ fits (holds_function t) (depth_of t) n
  within n (array ts ms) =
      two_lists n (are_cloneable_within (n - 1) ts) (members_cloneable_within (n - 1) ms) (trees_hold_function ts) (members_hold_function ms) (trees_depth ts) (members_depth ms)
      (trees_within (n - 1) ts) (members_within (n - 1) ms)
  within n (object ms) = one_list n (members_cloneable_within (n - 1) ms) (members_hold_function ms) (members_depth ms) (members_within (n - 1) ms)
  within n (map_object ps) = one_list n (pairs_cloneable_within (n - 1) ps) (pairs_hold_function ps) (pairs_depth ps) (pairs_within (n - 1) ps)
  within n (set_object ts) = one_list n (are_cloneable_within (n - 1) ts) (trees_hold_function ts) (trees_depth ts) (trees_within (n - 1) ts)
  within n function = refl
  within n undefined = leaf_fits n
  within n null = leaf_fits n
  within n (boolean b) = leaf_fits n
  within n (int i) = leaf_fits n
  within n (text s) = leaf_fits n
  within n (date d) = leaf_fits n
  within n (bytes b) = leaf_fits n

  trees_within : (n : ℕ) (ts : Trees) → are_cloneable_within n ts ≡ fits (trees_hold_function ts) (trees_depth ts) n
  trees_within n no_trees = none_fit n
  trees_within n (tree_more t ts) =
      one_more n (is_cloneable_within n t) (are_cloneable_within n ts) (holds_function t) (trees_hold_function ts) (depth_of t) (trees_depth ts) (within n t) (trees_within n ts)

  members_within : (n : ℕ) (ms : Members) → members_cloneable_within n ms ≡ fits (members_hold_function ms) (members_depth ms) n
  members_within n no_members = none_fit n
  members_within n (member_more m t ms) =
      one_more n (is_cloneable_within n t) (members_cloneable_within n ms) (holds_function t) (members_hold_function ms) (depth_of t) (members_depth ms) (within n t) (members_within n ms)

  pairs_within : (n : ℕ) (ps : PairTrees) → pairs_cloneable_within n ps ≡ fits (pairs_hold_function ps) (pairs_depth ps) n
  pairs_within n no_pairs = none_fit n
  pairs_within n (pair_more s t ps) =
      one_more n (is_cloneable_within n s && is_cloneable_within n t) (pairs_cloneable_within n ps) (holds_function s || holds_function t) (pairs_hold_function ps) (max (depth_of s) (depth_of t)) (pairs_depth ps)
      (one_more n (is_cloneable_within n s) (is_cloneable_within n t) (holds_function s) (holds_function t) (depth_of s) (depth_of t) (within n s) (within n t)) (pairs_within n ps)

told_by : (a r : Bool) (x n : ℕ) → r ≡ fits a x n → IsTrue r ↔ ((a ≡ false) × (x ≤ n))
told_by true r x n e = grind (arith, common_steps)
told_by false r x n e = grind (arith, common_steps)

pub told : (t : Tree) (r : Bool) → r ≡ is_cloneable_within GREATEST_DEPTH t → IsTrue r ↔ IsCloneable t
told t r e = told_by (holds_function t) r (depth_of t) GREATEST_DEPTH (e ∙ within GREATEST_DEPTH t)

fits_so : (a : Bool) (x n : ℕ) → a ≡ false → x ≤ n → fits a x n ≡ true
fits_so a x n e l = rw e (le-leb x n l)

-- what can be cloned, as the walk tells it
pub cloneable_within : (n : ℕ) (t : Tree) → holds_function t ≡ false → depth_of t ≤ n → is_cloneable_within n t ≡ true
cloneable_within n t h d = within n t ∙ fits_so (holds_function t) (depth_of t) n h d

pub within_cloneable : (t : Tree) → is_cloneable_within GREATEST_DEPTH t ≡ true → IsCloneable t
within_cloneable t h = (told t true (sym h)).0 refl

pub still_cloneable : (ms : List (List ℕ × Tree)) (n : List ℕ) (v : Tree) → IsCloneable (object (members_of ms)) → holds_function v ≡ false → depth_of v < GREATEST_DEPTH
    → IsCloneable (object (members_of (set_member ms n v)))
still_cloneable ms n v h e d =
    let before = cloneable_within GREATEST_DEPTH (object (members_of ms)) h.0 h.1 in
    within_cloneable (object (members_of (set_member ms n v))) (cloneable_set (GREATEST_DEPTH - 1) ms n v before (cloneable_within (GREATEST_DEPTH - 1) v e (omega (arith, d))))
