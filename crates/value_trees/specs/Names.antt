-- Lists of named properties. Names compare by their UTF-8 bytes.
--     names_of, is_rising   the names of a list; whether they rise strictly
--     set_member            the list with the property of this name set
--     set_members           the list with the properties of another set, one after the other
--     get_member            what the property of this name holds
--     HasNameAt             the name of the property at a place
use Rattle.std.specs.Prelude.{◌≡◌, ℕ, Bool, true, ◌&&◌, nat_eq, List, [], ◌∷◌, map, slice_get, Option, Some}
use Rattle.std.specs.Option.{option_map}
use Rattle.std.specs.Ordering.{nat_cmp, is_lt, match_ordering}
use Rattle.std.specs.List.{find, fold}
use Rattle.std.specs.Cmp.Lexicographic.{slice_cmp, pointwise}
use Rattle.value_trees.specs.Tree.{Tree}

-- the names, in order
abbrev pub names_of : List (List ℕ × Tree) → List (List ℕ)
names_of ms = map (λ m. m.0) ms

-- each name is greater than the one before, the first than n
abbrev pub rises_after : List ℕ → List (List ℕ) → Bool
rises_after n [] = true
rises_after n (m ∷ ms) = is_lt (slice_cmp nat_cmp n m) && rises_after m ms

-- the names rise strictly
abbrev pub is_rising : List (List ℕ) → Bool
is_rising [] = true
is_rising (n ∷ ns) = rises_after n ns

-- in the place of the property of that name, or else before the first of a greater name
abbrev pub set_member : List (List ℕ × Tree) → List ℕ → Tree → List (List ℕ × Tree)
set_member [] n v = (n, v) ∷ []
set_member (m ∷ ms) n v = match_ordering (slice_cmp nat_cmp n m.0) ((n, v) ∷ m ∷ ms) ((n, v) ∷ ms) (m ∷ set_member ms n v)

-- each property of the second list set in the first, one after the other
abbrev pub set_members : List (List ℕ × Tree) → List (List ℕ × Tree) → List (List ℕ × Tree)
set_members done ms = fold (λ d m. set_member d m.0 m.1) done ms

-- the value of the property of that name, where there is one
abbrev pub get_member : List (List ℕ × Tree) → List ℕ → Option Tree
get_member ms n = option_map (λ m. m.1) (find (λ m. pointwise nat_eq m.0 n) ms)

-- at this place, counted from 0, stands the property of that name
abbrev pub HasNameAt : List (List ℕ × Tree) → ℕ → List ℕ → Type 0
HasNameAt ms i n = slice_get (names_of ms) i ≡ Some n
