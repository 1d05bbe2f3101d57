-- Conversion item by item, and back.
--     onto                  keys found so far, in front of what the rest gives
--     key_again             the key of a key's value
use Rattle.std.proofs.lemmas.List.{map-append, append-nil}
use Rattle.std.proofs.Common.{◌≡◌, ◌≤◌, nat_le, true, List, [], ◌∷◌, ◌++◌, map, Option, Some, None, option_map, max, refl, sym, ◌∙◌, ap, arith}
use Rattle.std.proofs.lemmas.Grind.{common_steps}
use Rattle.clone_values.specs.Tree.{Tree, trees_of, tree_more}
use Rattle.clone_values.specs.KeyTree.{KeyTree, KeyTrees, number, date, text, binary, array, no_keys, key_more, key_trees_of}
use Rattle.clone_values.specs.Values.{depth_of, trees_depth}
use Rattle.clone_values.specs.declared.key_types.Key.{Key}
use Rattle.clone_values.specs.View.{key_tree_of}
use Rattle.key_order.specs.Conversion.{with_first, key_within, keys_within, key_of}
use Rattle.clone_values.specs.KeyValues.{value_of_key, values_of_keys, key_depth, keys_depth}

abbrev pub onto : List KeyTree → Option KeyTrees → Option KeyTrees
onto [] r = r
onto (k ∷ ks) r = with_first (Some k) (onto ks r)

pub onto_none : (ks : List KeyTree) → onto ks None ≡ None
onto_none [] = refl
onto_none (k ∷ ks) = ap (with_first (Some k)) (onto_none ks)

pub onto_all : (ks : List KeyTree) → onto ks (Some no_keys) ≡ Some (key_trees_of ks)
onto_all [] = refl
onto_all (k ∷ ks) = ap (with_first (Some k)) (onto_all ks)

pub onto_more : (ks : List KeyTree) (k : KeyTree) (r : Option KeyTrees) → onto ks (with_first (Some k) r) ≡ onto (ks ++ k ∷ []) r
onto_more [] k r = refl
onto_more (j ∷ ks) k r = ap (with_first (Some j)) (onto_more ks k r)

module _ (vs : List Key) (ts rest : List Tree) (t : Tree) (whole : Option KeyTrees) (starts : ts ≡ t ∷ rest) (so_far : onto (map key_tree_of vs) (keys_within (trees_of ts)) ≡ whole) where
  next : (o : Option KeyTree) → o ≡ key_within t → onto (map key_tree_of vs) (with_first o (keys_within (trees_of rest))) ≡ whole
  next o e = ap (λ p. onto (map key_tree_of vs) (with_first p (keys_within (trees_of rest)))) e ∙ ap (λ us. onto (map key_tree_of vs) (keys_within (trees_of us))) (sym starts) ∙ so_far

  -- an invalid item makes the whole invalid
  pub item_invalid : None ≡ key_within t → None ≡ whole
  item_invalid e = sym (onto_none (map key_tree_of vs)) ∙ next None e

  pub item_valid : (x : Key) (ws : List Key) → Some (key_tree_of x) ≡ key_within t → ws ≡ vs ++ x ∷ [] → onto (map key_tree_of ws) (keys_within (trees_of rest)) ≡ whole
  item_valid x ws e more =
      ap (λ us. onto us (keys_within (trees_of rest))) (ap (map key_tree_of) more ∙ map-append key_tree_of vs (x ∷ []))
      ∙ sym (onto_more (map key_tree_of vs) (key_tree_of x) _) ∙ next _ e

pub all_valid : (vs : List KeyTree) (ts : List Tree) (whole : Option KeyTrees) → ts ≡ [] → onto vs (keys_within (trees_of ts)) ≡ whole → Some (key_trees_of vs) ≡ whole
all_valid vs ts whole e h = sym (onto_all vs) ∙ ap (λ us. onto vs (keys_within (trees_of us))) (sym e) ∙ h

-- ---- keys as values
values_are : (ks : List KeyTree) → trees_of (map value_of_key ks) ≡ values_of_keys (key_trees_of ks)
values_are [] = refl
values_are (k ∷ ks) = ap (tree_more (value_of_key k)) (values_are ks)

pub values_done : (vs : List Tree) (ks rest : List KeyTree) → rest ≡ [] → vs ++ map value_of_key rest ≡ map value_of_key ks → trees_of vs ≡ values_of_keys (key_trees_of ks)
values_done vs ks rest e h = ap trees_of (sym (append-nil vs) ∙ ap (λ r. vs ++ map value_of_key r) (sym e) ∙ h) ∙ values_are ks

mutual
  within_again : (k : KeyTree) → key_within (value_of_key k) ≡ Some k
  within_again (number n) = refl
  within_again (date d) = refl
  within_again (text s) = refl
  within_again (binary b) = refl
  within_again (array ks) = ap (option_map array) (all_again ks)

  all_again : (ks : KeyTrees) → keys_within (values_of_keys ks) ≡ Some ks
  all_again no_keys = refl
  all_again (key_more k ks) = λ i. with_first (within_again k i) (all_again ks i)

mutual
  pub same_depth : (k : KeyTree) → depth_of (value_of_key k) ≡ key_depth k
  same_depth (number n) = refl
  same_depth (date d) = refl
  same_depth (text s) = refl
  same_depth (binary b) = refl
  same_depth (array ks) = let e = all_depths ks in omega arith

  all_depths : (ks : KeyTrees) → trees_depth (values_of_keys ks) ≡ keys_depth ks
  all_depths no_keys = refl
  all_depths (key_more k ks) = λ i. max (same_depth k i) (all_depths ks i)

pub key_again : (k : KeyTree) → key_depth k ≤ 100 → key_of (value_of_key k) ≡ Some k
key_again k h =
    let e = same_depth k in
    let shallow : nat_le (depth_of (value_of_key k)) 100 ≡ true = grind (arith, common_steps) in
    rw shallow (within_again k)
