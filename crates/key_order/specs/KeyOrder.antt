-- The order of keys (Indexed Database API 3.0, "compare two keys").
--     code_units s          the UTF-16 code units of a text that is given by its UTF-8 bytes
--     text_cmp              strings by their code units
--     char_rank, byte_rank  where a character stands in that order, and a byte of its UTF-8
--     type_rank             where a key's type stands: number, date, string, binary, array
--     key_cmp, IsBelow      the order of keys
--     DifferAt              two lists begin alike and then have these two members
use Rattle.std.specs.Prelude.{◌≡◌, ◌≢◌, ℕ, ◌+◌, ◌<◌, ◌≤◌, ◌&&◌, nat_le, nat_lt, if◌then◌else◌, List, ◌∷◌, ◌++◌}
use Rattle.std.specs.List.{flat_map}
use Rattle.std.specs.Str.{chars}
use Rattle.std.specs.Char.Escape.{encode_utf16}
use Rattle.std.specs.declared.cmp.Ordering.{Ordering}
use Rattle.std.specs.declared.cmp.Ordering.TheVariants.{Less, Equal, Greater}
use Rattle.std.specs.Ordering.{nat_cmp, int_cmp, ordering_then}
use Rattle.std.specs.Cmp.Lexicographic.{slice_cmp}
use Rattle.clone_values.specs.KeyTree.{KeyTree, KeyTrees, number, date, text, binary, array, no_keys, key_more}

-- the UTF-16 code units of a text
abbrev pub code_units : List ℕ → List ℕ
code_units s = flat_map encode_utf16 (chars s)

-- Strings compare by their code units. What follows speaks only of lists of bytes that are no text, which no string is:
-- among them too only equal ones tie, so that the order is total on all lists.
abbrev pub text_cmp : List ℕ → List ℕ → Ordering
text_cmp s t = ordering_then (slice_cmp nat_cmp (code_units s) (code_units t)) (slice_cmp nat_cmp s t)

-- where a character stands in the order of code units: those from U+E000 to U+FFFF stand behind the ones above
abbrev pub char_rank : ℕ → ℕ
char_rank c = if nat_le 57344 c && nat_lt c 65536 then c + 1114112 else c

-- where a byte of UTF-8 stands: 0xEE and 0xEF, which begin the characters from U+E000 to U+FFFF, stand behind the others
abbrev pub byte_rank : ℕ → ℕ
byte_rank b = if nat_le 238 b && nat_lt b 240 then b + 18 else b

-- the rising types of keys
abbrev pub type_rank : KeyTree → ℕ
type_rank (number n) = 0
type_rank (date d) = 1
type_rank (text s) = 2
type_rank (binary b) = 3
type_rank (array ks) = 4

-- the type decides first; numbers and dates compare by value, strings by code units, binaries by unsigned bytes, arrays
-- member by member, a proper prefix being smaller
abbrev mutual
  pub key_cmp : KeyTree → KeyTree → Ordering
  key_cmp (number m) (number n) = int_cmp m n
  key_cmp (date c) (date d) = int_cmp c d
  key_cmp (text s) (text t) = text_cmp s t
  key_cmp (binary a) (binary b) = slice_cmp nat_cmp a b
  key_cmp (array js) (array ks) = keys_cmp js ks
  key_cmp j k = nat_cmp (type_rank j) (type_rank k)

  pub keys_cmp : KeyTrees → KeyTrees → Ordering
  keys_cmp no_keys no_keys = Equal
  keys_cmp no_keys (key_more k ks) = Less
  keys_cmp (key_more j js) no_keys = Greater
  keys_cmp (key_more j js) (key_more k ks) = ordering_then (key_cmp j k) (keys_cmp js ks)

-- the first key is less than the second
abbrev pub IsBelow : KeyTree → KeyTree → Type 0
IsBelow j k = key_cmp j k ≡ Less

-- the lists begin alike, and then u stands in the one where v stands in the other
abbrev pub DifferAt : List ℕ → List ℕ → ℕ → ℕ → Type 0
DifferAt us vs u v = (front rest others : List ℕ) × (us ≡ front ++ u ∷ rest) × (vs ≡ front ++ v ∷ others) × (u ≢ v)

-- a surrogate meets a unit from U+E000 on
abbrev pub SurrogateMeetsHigh : ℕ → ℕ → Type 0
SurrogateMeetsHigh u v = (55296 ≤ u) × (u < 57344) × (57344 ≤ v)
