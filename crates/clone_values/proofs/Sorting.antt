-- Properties set one after the other in a map of their names.
use Rattle.std.proofs.Common.{◌≡◌, ℕ, ◌+◌, ◌≤◌, true, List, [], ◌∷◌, length, map, refl, sym, ap, arith}
use Rattle.std.specs.declared.cmp.Ordering.{Ordering}
use Rattle.std.specs.declared.cmp.Ordering.TheVariants.{Less, Equal, Greater}
use Rattle.std.specs.Ordering.{nat_cmp, match_ordering}
use Rattle.std.specs.Cmp.Lexicographic.{slice_cmp}
use Rattle.std.specs.BTreeMap.{insert_entry}
use Rattle.std.specs.FinMap.{nat_cmp-IsAntisymmetric, slice_cmp-IsAntisymmetric}
use Rattle.value_trees.specs.Tree.{Tree}
use Rattle.clone_values.specs.View.{tree_of, named_value_of}
use Rattle.value_trees.specs.Names.{names_of, is_rising, set_member, set_members}
use Rattle.clone_values.specs.declared.value_types.Value.{Value}
use Rattle.clone_values.proofs.NamesLaws.{rising_set}

-- a name is set in the map as in the list
pub inserted : (es : List (List ℕ × Value)) (n : List ℕ) (v : Value) → map named_value_of (insert_entry (slice_cmp nat_cmp) es n v) ≡ set_member (map named_value_of es) n (tree_of v)
inserted [] n v = refl
inserted (e ∷ es) n v = by (slice_cmp nat_cmp n e.0) refl (inserted es n v)
  where
    by : (o : Ordering) → slice_cmp nat_cmp n e.0 ≡ o → map named_value_of (insert_entry (slice_cmp nat_cmp) es n v) ≡ set_member (map named_value_of es) n (tree_of v)
        → map named_value_of (match_ordering o ((n, v) ∷ e ∷ es) ((e.0, v) ∷ es) (e ∷ insert_entry (slice_cmp nat_cmp) es n v))
        ≡ match_ordering o ((n, tree_of v) ∷ map named_value_of (e ∷ es)) ((n, tree_of v) ∷ map named_value_of es) (named_value_of e ∷ set_member (map named_value_of es) n (tree_of v))
    by Less h later = refl
    by Equal h later = ap (λ m. (m, tree_of v) ∷ map named_value_of es) (sym (slice_cmp-IsAntisymmetric nat_cmp-IsAntisymmetric n e.0 h))
    by Greater h later = ap (λ r. named_value_of e ∷ r) later

-- a list is at most one longer with a property set
pub set_longer : (ms : List (List ℕ × Tree)) (n : List ℕ) (v : Tree) → length (set_member ms n v) ≤ length ms + 1
set_longer [] n v = omega arith
set_longer (m ∷ ms) n v = by (slice_cmp nat_cmp n m.0) (set_longer ms n v)
  where
    by : (o : Ordering) → length (set_member ms n v) ≤ length ms + 1 → length (match_ordering o ((n, v) ∷ m ∷ ms) ((n, v) ∷ ms) (m ∷ set_member ms n v)) ≤ length (m ∷ ms) + 1
    by Less h = omega arith
    by Equal h = omega arith
    by Greater h = omega (arith, h)

pub all_longer : (done ms : List (List ℕ × Tree)) → length (set_members done ms) ≤ length done + length ms
all_longer done [] = omega arith
all_longer done (m ∷ ms) = omega (arith, all_longer (set_member done m.0 m.1) ms, set_longer done m.0 m.1)

pub all_rising : (done ms : List (List ℕ × Tree)) → is_rising (names_of done) ≡ true → is_rising (names_of (set_members done ms)) ≡ true
all_rising done [] h = h
all_rising done (m ∷ ms) h = all_rising (set_member done m.0 m.1) ms (rising_set m.0 m.1 done h)
