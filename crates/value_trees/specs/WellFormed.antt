-- Well formed values: the ranges, sizes, names and members that a value keeps to.
--     is_value, IsValue     the rules for the whole tree
--     is_well_made          the rules for one value of it, whatever stands in its lists
--     is_int, is_date       the ranges of numbers and of dates
--     is_text, is_byte_string      texts and byte strings of a stored size
--     are_once              no primitive stands twice
--     is_array_name         what a named property of an Array may be called
use Rattle.std.specs.Prelude.{◌≡◌, ℕ, Bool, true, not, ◌&&◌, ◌==◌, nat_eq, nat_le, nat_lt, ℤ, List, [], ◌∷◌, map, length, codes}
use Rattle.std.specs.List.{list_any, list_all}
use Rattle.std.specs.Str.{is_utf8}
use Rattle.std.specs.Ordering.{int_cmp, is_le}
use Rattle.std.specs.Cmp.Lexicographic.{pointwise}
use Rattle.idb_base.specs.declared.limits.TheConstants.{GREATEST_LENGTH, GREATEST_INT, LEAST_INT, GREATEST_DATE, LEAST_DATE}
use Rattle.value_trees.specs.Tree.{Tree, Trees, Members, PairTrees, int, text, date, bytes, array, object, map_object, set_object, list_of_trees, list_of_members, list_of_pairs}
use Rattle.value_trees.specs.Parts.{every_part, every_item, every_property, every_pair}
use Rattle.value_trees.specs.Names.{names_of, is_rising}
use Rattle.value_trees.specs.Sameness.{repeats}

-- from -2^53 to 2^53
abbrev pub is_int : ℤ → Bool
is_int n = is_le (int_cmp LEAST_INT n) && is_le (int_cmp n GREATEST_INT)

-- a date's milliseconds, from -8,640,000,000,000,000 to 8,640,000,000,000,000 (ECMAScript, Time Values)
abbrev pub is_date : ℤ → Bool
is_date d = is_le (int_cmp LEAST_DATE d) && is_le (int_cmp d GREATEST_DATE)

-- at most 4,294,967,295 bytes or members
abbrev pub is_within_limit : {A : Type 0} → List A → Bool
is_within_limit xs = nat_le (length xs) GREATEST_LENGTH

-- Unicode text of a stored size, as its UTF-8 bytes
abbrev pub is_text : List ℕ → Bool
is_text s = is_utf8 s && is_within_limit s

abbrev pub is_byte : ℕ → Bool
is_byte b = nat_lt b 256

-- bytes, in a stored size
abbrev pub is_byte_string : List ℕ → Bool
is_byte_string bs = list_all is_byte bs && is_within_limit bs

-- a primitive stands at its first place alone
abbrev pub are_once : List Tree → Bool
are_once [] = true
are_once (t ∷ ts) = not (list_any (λ s. repeats t s) ts) && are_once ts

abbrev pub is_digit : ℕ → Bool
is_digit b = nat_le 48 b && nat_le b 57

-- one digit or more, and nothing else
abbrev pub are_digits : List ℕ → Bool
are_digits n = list_all is_digit n && not (length n == 0)

-- neither `length` nor digits alone, which name the items
abbrev pub is_array_name : List ℕ → Bool
is_array_name n = not (pointwise nat_eq n (codes "length")) && not (are_digits n)

-- the names rise strictly, and are texts of a stored size, as is their list
abbrev pub are_properties : List (List ℕ × Tree) → Bool
are_properties ms = is_within_limit ms && list_all is_text (names_of ms) && is_rising (names_of ms)

-- the value by itself, whatever stands in its lists
abbrev pub is_well_made : Tree → Bool
is_well_made (int n) = is_int n
is_well_made (date d) = is_date d
is_well_made (text s) = is_text s
is_well_made (bytes b) = is_byte_string b
is_well_made (array ts ms) = is_within_limit (list_of_trees ts) && are_properties (list_of_members ms) && list_all is_array_name (names_of (list_of_members ms))
is_well_made (object ms) = are_properties (list_of_members ms)
is_well_made (map_object ps) = is_within_limit (list_of_pairs ps) && are_once (map (λ p. p.0) (list_of_pairs ps))
is_well_made (set_object ts) = is_within_limit (list_of_trees ts) && are_once (list_of_trees ts)
is_well_made _ = true

abbrev pub is_value : Tree → Bool
is_value t = every_part is_well_made t

-- the same of every value in a list of items, of properties or of pairs
abbrev pub are_values : Trees → Bool
are_values ts = every_item is_well_made ts

abbrev pub member_values : Members → Bool
member_values ms = every_property is_well_made ms

abbrev pub pair_values : PairTrees → Bool
pair_values ps = every_pair is_well_made ps

-- the tree is a well formed value
abbrev pub IsValue : Tree → Type 0
IsValue t = is_value t ≡ true
