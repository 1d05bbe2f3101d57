-- The keys that conversion gives: how deep they are, and that none stands twice.
use Rattle.std.proofs.Common.{cond, ◌≡◌, ◌≢◌, ℕ, ◌+◌, ◌≤◌, nat_le, Bool, true, false, not, max, List, [], ◌∷◌, Option, Some, None, IfSome, option_map, refl, sym, ◌∙◌, ap, arith, leb-true}
use Rattle.std.specs.Prelude.{if◌then◌else◌}
use Rattle.std.specs.List.{All, filter, filter_map, cons_option}
use Rattle.std.specs.Ordering.{is_eq}
use Rattle.std.proofs.lemmas.List.Elements.{All-nil, All-cons, All-head, All-tail, All-weaker, All-filter, filter_passes}
use Rattle.std.proofs.lemmas.Cmp.{tied_itself}
use Rattle.clone_values.specs.Tree.{Tree, Trees, undefined, null, boolean, int, text, date, bytes, array, object, map_object, set_object, function, no_trees, tree_more}
use Rattle.clone_values.specs.KeyTree.{KeyTree, KeyTrees}
use Rattle.clone_values.specs.KeyTree as keys
use Rattle.clone_values.specs.Values.{depth_of, trees_depth, members_depth}
use Rattle.key_order.specs.KeyOrder.{key_cmp}
use Rattle.key_order.proofs.TotalOrder.{key_cmp_total}
use Rattle.key_order.specs.Conversion.{with_first, key_within, keys_within, key_of, each_once, keys_of, AreDistinctKeys}
use Rattle.clone_values.specs.KeyValues.{key_depth, keys_depth}

-- ---- depth
joined : (o : Option KeyTree) (p : Option KeyTrees) (a b : ℕ) → IfSome o (λ k. key_depth k ≤ a) → IfSome p (λ ks. keys_depth ks ≤ b) → IfSome (with_first o p) (λ ks. keys_depth ks ≤ max a b)
joined None p a b h g = tt
joined (Some k) None a b h g = tt
joined (Some k) (Some ks) a b h g = omega arith

as_array : (p : Option KeyTrees) (a b : ℕ) → IfSome p (λ ks. keys_depth ks ≤ a) → IfSome (option_map keys.array p) (λ k. key_depth k ≤ 1 + max a b)
as_array None a b h = tt
as_array (Some ks) a b h = omega arith

mutual
  within_depth : (t : Tree) → IfSome (key_within t) (λ k. key_depth k ≤ depth_of t)
  within_depth (int n) = omega arith
  within_depth (date d) = omega arith
  within_depth (text s) = omega arith
  within_depth (bytes b) = omega arith
  within_depth (array ts ms) = as_array (keys_within ts) (trees_depth ts) (members_depth ms) (all_depth ts)
  within_depth undefined = tt
  within_depth null = tt
  within_depth (boolean b) = tt
  within_depth (object ms) = tt
  within_depth (map_object ps) = tt
  within_depth (set_object ts) = tt
  within_depth function = tt

  all_depth : (ts : Trees) → IfSome (keys_within ts) (λ ks. keys_depth ks ≤ trees_depth ts)
  all_depth no_trees = omega arith
  all_depth (tree_more t ts) = joined (key_within t) (keys_within ts) (depth_of t) (trees_depth ts) (within_depth t) (all_depth ts)

weaker : (o : Option KeyTree) (a : ℕ) → a ≤ 100 → IfSome o (λ k. key_depth k ≤ a) → IfSome o (λ k. key_depth k ≤ 100)
weaker None a l h = tt
weaker (Some k) a l h = omega arith

pub shallow : (t : Tree) → IfSome (key_of t) (λ k. key_depth k ≤ 100)
shallow t =
    elim (nat_le (depth_of t) 100) as (λ b. nat_le (depth_of t) 100 ≡ b → IfSome (if b then key_within t else None) (λ k. key_depth k ≤ 100)) [
      | true ↦ λ e. weaker (key_within t) (depth_of t) (leb-true _ _ e) (within_depth t)
      | false ↦ λ e. tt
    ] refl

-- ---- the keys of a list of items
module _ (P : KeyTree → Type 0) where
  front : (o : Option KeyTree) (ks : List KeyTree) → IfSome o P → All P ks → All P (cons_option o ks)
  front None ks h g = g
  front (Some k) ks h g = All-cons P k ks h g

  of_items : ((t : Tree) → IfSome (key_of t) P) → (ts : List Tree) → All P (filter_map key_of ts)
  of_items h [] = All-nil P
  of_items h (t ∷ ts) = front (key_of t) (filter_map key_of ts) (h t) (of_items h ts)

all_once : (P : KeyTree → Type 0) (ks : List KeyTree) → All P ks → All P (each_once ks)
all_once P [] h = All-nil P
all_once P (k ∷ ks) h = All-cons P k _ (All-head P k ks h) (All-filter (λ j. not (is_eq (key_cmp j k))) P (each_once ks) (all_once P ks (All-tail P k ks h)))

pub all_shallow : (ts : List Tree) → All (λ k. key_depth k ≤ 100) (keys_of ts)
all_shallow ts = all_once (λ k. key_depth k ≤ 100) (filter_map key_of ts) (of_items (λ k. key_depth k ≤ 100) shallow ts)

-- ---- none stands twice
distinct_filter : (p : KeyTree → Bool) (ks : List KeyTree) → AreDistinctKeys ks → AreDistinctKeys (filter p ks)
distinct_filter p [] h = tt
distinct_filter p (k ∷ ks) h =
    elim (p k) as (λ b. AreDistinctKeys (cond b (k ∷ filter p ks) (filter p ks))) [
      | true ↦ (All-filter p (λ j. j ≢ k) ks h.0, distinct_filter p ks h.1)
      | false ↦ distinct_filter p ks h.1
    ]

pub once : (ks : List KeyTree) → AreDistinctKeys (each_once ks)
once [] = tt
once (k ∷ ks) =
    let other : KeyTree → Bool = λ j. not (is_eq (key_cmp j k)) in (
      All-weaker (λ j. other j ≡ true) (λ j. j ≢ k)
          (λ j e q. let same : is_eq (key_cmp j k) ≡ true = ap (λ i. is_eq (key_cmp i k)) q ∙ ap is_eq (tied_itself key_cmp_total k) in let wrong : false ≡ true = sym (ap not same) ∙ e in cc)
          _ (filter_passes other (each_once ks)),
      distinct_filter other (each_once ks) (once ks),
    )
