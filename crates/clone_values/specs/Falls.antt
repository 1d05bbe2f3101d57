-- A list of values is larger than each of its members.
use Rattle.std.specs.Prelude.{◌≡◌, ℕ, zero, suc, ◌+◌, ◌<◌, ◌≤◌, List, [], ◌∷◌, map}
use Rattle.std.proofs.Common.{arith, add-one}
use denote.Param.Weighed.{most}
use Rattle.value_trees.specs.Lists.{StandsAt}
use Rattle.value_trees.specs.Tree.{Tree, tree_size, trees_size, members_size, pairs_size, trees_of, members_of, pairs_of}
use Rattle.value_trees.specs.KeyTree.{KeyTree, key_size, keys_size, key_trees_of}
use Rattle.clone_values.specs.View.{tree_of, prop_of, pair_of, key_tree_of}
use Rattle.clone_values.specs.declared.value_types.Value.{Value}
use Rattle.clone_values.specs.declared.value_types.Value.TheVariants as value
use Rattle.clone_values.specs.declared.value_types.Prop.{Prop}
use Rattle.clone_values.specs.declared.value_types.Pair.{Pair}
use Rattle.clone_values.specs.declared.value_types.Items.TheDeep as deep
use Rattle.clone_values.specs.Held.{items_held}
use Rattle.clone_values.specs.declared.holding.Held.{Held}
use Rattle.clone_values.specs.declared.holding.Held.TheVariants.{Empty, Shared}
use Rattle.std.specs.Arc.{arc_value}
use Rattle.std.specs.declared.alloc.Global.{Global}
use Rattle.clone_values.specs.declared.key_types.Key.{Key}
use Rattle.clone_values.specs.declared.key_types.Key.TheVariants as key
use Rattle.clone_values.specs.declared.key_types.Keys.TheDeep as deep_keys

pub value_falls : (v : Value) → deep.deep-Value v ≤ tree_size (tree_of v)
value_falls value.Undefined = omega arith
value_falls value.Null = omega arith
value_falls (value.Bool b) = omega arith
value_falls (value.Int n) = omega arith
value_falls (value.Text s) = omega arith
value_falls (value.Date d) = omega arith
value_falls (value.Bytes b) = omega arith
value_falls (value.Array items props) = omega arith
value_falls (value.Object props) = omega arith
value_falls (value.Map pairs) = omega arith
value_falls (value.Set items) = omega arith
value_falls value.Function = omega arith

pub items_fall : (vs : List Value) → most (λ v. deep.deep-Value v) vs ≤ trees_size (trees_of (map tree_of vs))
items_fall [] = omega arith
items_fall (v ∷ vs) = omega (arith, value_falls v, items_fall vs)

pub props_fall : (ps : List Prop) → most (λ p. deep.deep-Prop p) ps ≤ members_size (members_of (map prop_of ps))
props_fall [] = omega arith
props_fall (p ∷ ps) = omega (arith, value_falls p.value, props_fall ps)

pub pairs_fall : (ps : List Pair) → most (λ p. deep.deep-Pair p) ps ≤ pairs_size (pairs_of (map pair_of ps))
pairs_fall [] = omega arith
pairs_fall (p ∷ ps) = omega (arith, value_falls p.key, value_falls p.value, pairs_fall ps)

pub held_items_fall : (l : Held Value) (g : Global) → deep.deep-Items (record { items = l; alloc = g }) ≤ trees_size (trees_of (map tree_of (items_held l)))
held_items_fall Empty g = omega arith
held_items_fall (Shared l) g = omega (arith, items_fall (arc_value l).items)

pub held_props_fall : (l : Held Prop) (g : Global) → deep.deep-Props (record { props = l; alloc = g }) ≤ members_size (members_of (map prop_of (items_held l)))
held_props_fall Empty g = omega arith
held_props_fall (Shared l) g = omega (arith, props_fall (arc_value l).items)

pub held_pairs_fall : (l : Held Pair) (g : Global) → deep.deep-Pairs (record { pairs = l; alloc = g }) ≤ pairs_size (pairs_of (map pair_of (items_held l)))
held_pairs_fall Empty g = omega arith
held_pairs_fall (Shared l) g = omega (arith, pairs_fall (arc_value l).items)

pub key_falls : (k : Key) → deep_keys.deep-Key k ≤ key_size (key_tree_of k)
key_falls (key.Number n) = omega arith
key_falls (key.Date d) = omega arith
key_falls (key.Text s) = omega arith
key_falls (key.Binary b) = omega arith
key_falls (key.Array ks) = omega arith

pub keys_fall : (ks : List Key) → most (λ k. deep_keys.deep-Key k) ks ≤ keys_size (key_trees_of (map key_tree_of ks))
keys_fall [] = omega arith
keys_fall (k ∷ ks) = omega (arith, key_falls k, keys_fall ks)

pub held_keys_fall : (l : Held Key) (g : Global) → deep_keys.deep-Keys (record { keys = l; alloc = g }) ≤ keys_size (key_trees_of (map key_tree_of (items_held l)))
held_keys_fall Empty g = omega arith
held_keys_fall (Shared l) g = omega (arith, keys_fall (arc_value l).items)

pub below_StandsAt : {A : Type 0} (w : A) (xs : List A) (i : ℕ) (x : A) → StandsAt (w ∷ xs) (suc i) x → StandsAt xs i x
below_StandsAt w xs i x e = rw add-one (rw (add-one (suc i)) at e)

-- ---- what stands at a place of a list is smaller than the list: for a recursion that takes members by `at`
pub smaller_tree : (ts : List Tree) (i : ℕ) (t : Tree) → StandsAt ts i t → tree_size t < trees_size (trees_of ts)
smaller_tree [] zero t e = cc
smaller_tree [] (suc i) t e = cc
smaller_tree (s ∷ ts) zero t e = let same : s ≡ t = cc in rw (← same) (omega arith)
smaller_tree (s ∷ ts) (suc i) t e = omega (arith, smaller_tree ts i t (below_StandsAt s ts i t e))

pub smaller_member : (ms : List (List ℕ × Tree)) (i : ℕ) (m : List ℕ × Tree) → StandsAt ms i m → tree_size m.1 < members_size (members_of ms)
smaller_member [] zero m e = cc
smaller_member [] (suc i) m e = cc
smaller_member (n ∷ ms) zero m e = let same : n ≡ m = cc in rw (← same) (omega arith)
smaller_member (n ∷ ms) (suc i) m e = omega (arith, smaller_member ms i m (below_StandsAt n ms i m e))

pub smaller_pair : (ps : List (Tree × Tree)) (i : ℕ) (p : Tree × Tree) → StandsAt ps i p → tree_size p.0 + tree_size p.1 < pairs_size (pairs_of ps)
smaller_pair [] zero p e = cc
smaller_pair [] (suc i) p e = cc
smaller_pair (q ∷ ps) zero p e = let same : q ≡ p = cc in rw (← same) (omega arith)
smaller_pair (q ∷ ps) (suc i) p e = omega (arith, smaller_pair ps i p (below_StandsAt q ps i p e))

pub smaller_key : (ks : List KeyTree) (i : ℕ) (k : KeyTree) → StandsAt ks i k → key_size k < keys_size (key_trees_of ks)
smaller_key [] zero k e = cc
smaller_key [] (suc i) k e = cc
smaller_key (j ∷ ks) zero k e = let same : j ≡ k = cc in rw (← same) (omega arith)
smaller_key (j ∷ ks) (suc i) k e = omega (arith, smaller_key ks i k (below_StandsAt j ks i k e))
