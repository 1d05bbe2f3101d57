-- The bytes of values. Numbers stand with their highest byte first.
--     count_bytes, number_bytes, word_bytes, string_bytes      the fields
--     spelling_of           the bytes of a value
--     items_field, members_field, pairs_field      the bytes of a list: a count, and the members
--     SpellsValue           the grammar: these bytes, of a value that can be cloned
--     ValueStands           a spelling stands in longer bytes
use Rattle.std.specs.Prelude.{◌≡◌, ℕ, Bool, true, false, ℤ, List, [], ◌∷◌, ◌++◌, length}
use Rattle.std.specs.Int.{w32, w64, to_be_bytes, cast_unsigned}
use Rattle.clone_values.specs.Tree.{Tree, Trees, Members, PairTrees, undefined, null, boolean, int, text, date, bytes, array, object, map_object, set_object, function, no_trees, tree_more, no_members, member_more, no_pairs, pair_more, list_of_trees, list_of_members, list_of_pairs}
use Rattle.clone_values.specs.WellFormed.{IsValue}
use Rattle.clone_values.specs.Values.{IsCloneable}
use Rattle.value_bytes.specs.Places.{StandsSpelled}

-- a count or a length: four bytes
abbrev pub count_bytes : ℕ → List ℕ
count_bytes n = to_be_bytes w32 n

-- a number: eight bytes, in two's complement
abbrev pub number_bytes : ℤ → List ℕ
number_bytes z = to_be_bytes w64 (cast_unsigned w64 z)

-- a natural number of a log's record: eight bytes
abbrev pub word_bytes : ℕ → List ℕ
word_bytes n = to_be_bytes w64 n

-- a text or a byte string: its length and its bytes
abbrev pub string_bytes : List ℕ → List ℕ
string_bytes s = count_bytes (length s) ++ s

abbrev pub bool_bytes : Bool → List ℕ
bool_bytes false = 0x02 ∷ []
bool_bytes true = 0x03 ∷ []

-- the bytes of a value: its kind, and what it holds. A Function counts as one byte, which begins no spelling.
abbrev mutual
  pub spelling_of : Tree → List ℕ
  spelling_of undefined = 0x00 ∷ []
  spelling_of null = 0x01 ∷ []
  spelling_of (boolean b) = bool_bytes b
  spelling_of (int n) = 0x04 ∷ number_bytes n
  spelling_of (text s) = 0x05 ∷ string_bytes s
  spelling_of (date d) = 0x06 ∷ number_bytes d
  spelling_of (bytes b) = 0x07 ∷ string_bytes b
  spelling_of (array ts ms) = 0x08 ∷ ((count_bytes (length (list_of_trees ts)) ++ items_spelling ts) ++ (count_bytes (length (list_of_members ms)) ++ members_spelling ms))
  spelling_of (object ms) = 0x09 ∷ (count_bytes (length (list_of_members ms)) ++ members_spelling ms)
  spelling_of (map_object ps) = 0x0a ∷ (count_bytes (length (list_of_pairs ps)) ++ pairs_spelling ps)
  spelling_of (set_object ts) = 0x0b ∷ (count_bytes (length (list_of_trees ts)) ++ items_spelling ts)
  spelling_of function = 0xff ∷ []

  -- one item after the other
  pub items_spelling : Trees → List ℕ
  items_spelling no_trees = []
  items_spelling (tree_more t ts) = spelling_of t ++ items_spelling ts

  -- each property's name, and then its value
  pub members_spelling : Members → List ℕ
  members_spelling no_members = []
  members_spelling (member_more n t ms) = (string_bytes n ++ spelling_of t) ++ members_spelling ms

  -- each pair's key, and then its value
  pub pairs_spelling : PairTrees → List ℕ
  pairs_spelling no_pairs = []
  pairs_spelling (pair_more s t ps) = (spelling_of s ++ spelling_of t) ++ pairs_spelling ps

-- the bytes of a list as part of a value: how many members it has, and each of them
abbrev pub items_field : Trees → List ℕ
items_field ts = count_bytes (length (list_of_trees ts)) ++ items_spelling ts

abbrev pub members_field : Members → List ℕ
members_field ms = count_bytes (length (list_of_members ms)) ++ members_spelling ms

abbrev pub pairs_field : PairTrees → List ℕ
pairs_field ps = count_bytes (length (list_of_pairs ps)) ++ pairs_spelling ps

-- the grammar of values: the bytes of a well formed value that can be cloned, so holds no Function and is at most 100 deep
pub record SpellsValue (word : List ℕ) (t : Tree) : Type 0 where
  pub spelled : word ≡ spelling_of t
  pub well_formed : IsValue t
  pub cloneable : IsCloneable t

-- from a place up to another the bytes are a spelling of the value
abbrev pub ValueStands : List ℕ → ℕ → ℕ → Tree → Type 0
ValueStands = StandsSpelled SpellsValue
