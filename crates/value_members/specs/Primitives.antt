-- What a primitive is told apart by.
--     mark_of               the mark of a primitive: its kind, its number and its text
--     mark_cmp              an order of marks, in which a set of them halves
--     has, place_in         whether a primitive is among these; the place that is kept with it
use Rattle.std.specs.Prelude.{ℕ, Bool, ◌&&◌, ℤ, pos, List, [], if◌then◌else◌, Option, None}
use Rattle.std.specs.List.{list_any}
use Rattle.std.specs.Map.{lookup}
use Rattle.std.specs.declared.cmp.Ordering.{Ordering}
use Rattle.std.specs.Ordering.{nat_cmp, int_cmp, is_eq, ordering_then}
use Rattle.std.specs.Cmp.Lexicographic.{slice_cmp}
use Rattle.clone_values.specs.Tree.{Tree, undefined, null, boolean, int, text}
use Rattle.clone_values.specs.Sameness.{is_primitive}

abbrev pub Mark : Type 0
Mark = ℕ × ℤ × List ℕ

-- a Bool's number is 1 or 0; what is no primitive has a mark that none of them has
abbrev pub mark_of : Tree → Mark
mark_of undefined = (0, pos 0, [])
mark_of null = (1, pos 0, [])
mark_of (boolean b) = (2, (if b then pos 1 else pos 0), [])
mark_of (int n) = (3, n, [])
mark_of (text s) = (4, pos 0, s)
mark_of _ = (5, pos 0, [])

-- by kind, then by number, then by text
abbrev pub mark_cmp : Mark → Mark → Ordering
mark_cmp m n = ordering_then (nat_cmp m.0 n.0) (ordering_then (int_cmp m.1 n.1) (slice_cmp nat_cmp m.2 n.2))

-- whether a tree is a primitive that is among these keys, each shown by its mark
abbrev pub has : {K : Type 0} → (K → Mark) → List K → Tree → Bool
has shown ks t = is_primitive t && list_any (λ k. is_eq (mark_cmp (mark_of t) (shown k))) ks

-- the place that is kept with a primitive, where it is among these
abbrev pub place_in : {K : Type 0} → (K → Mark) → List (K × ℕ) → Tree → Option ℕ
place_in shown es t = if is_primitive t then lookup (λ k. is_eq (mark_cmp (mark_of t) (shown k))) es else None
