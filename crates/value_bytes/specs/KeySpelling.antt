-- The bytes of keys (Indexed Database API 3.0, "Keys", for the kinds). Numbers stand with their highest byte first.
--     key_spelling_of       the bytes of a key
--     keys_field            the bytes of a list of keys: a count, and the keys
--     SpellsKey             the grammar: these bytes, of such a key
--     KeyStands             a spelling stands in longer bytes
use Rattle.std.specs.Prelude.{◌≡◌, ℕ, ◌≤◌, List, ◌∷◌, [], ◌++◌, length}
use Rattle.clone_values.specs.KeyTree.{KeyTree, KeyTrees, number, date, text, binary, array, no_keys, key_more, list_of_keys}
use Rattle.idb_base.specs.declared.limits.TheConstants.{GREATEST_DEPTH}
use Rattle.clone_values.specs.KeyValues.{IsKey, key_depth}
use Rattle.value_bytes.specs.Places.{StandsSpelled}
use Rattle.value_bytes.specs.Spelling.{count_bytes, number_bytes, string_bytes}

-- the bytes of a key: its kind, and what it holds
abbrev mutual
  pub key_spelling_of : KeyTree → List ℕ
  key_spelling_of (number n) = 0x21 ∷ number_bytes n
  key_spelling_of (date d) = 0x22 ∷ number_bytes d
  key_spelling_of (text s) = 0x23 ∷ string_bytes s
  key_spelling_of (binary b) = 0x24 ∷ string_bytes b
  key_spelling_of (array ks) = 0x25 ∷ (count_bytes (length (list_of_keys ks)) ++ keys_spelling ks)

  -- one key after the other
  pub keys_spelling : KeyTrees → List ℕ
  keys_spelling no_keys = []
  keys_spelling (key_more k ks) = key_spelling_of k ++ keys_spelling ks

-- the bytes of a list as part of a key: how many keys it has, and each of them
abbrev pub keys_field : KeyTrees → List ℕ
keys_field ks = count_bytes (length (list_of_keys ks)) ++ keys_spelling ks

-- the grammar of keys: the bytes of a well formed key that is at most 100 deep
pub record SpellsKey (word : List ℕ) (k : KeyTree) : Type 0 where
  pub spelled : word ≡ key_spelling_of k
  pub well_formed : IsKey k
  pub depth : key_depth k ≤ GREATEST_DEPTH

-- from a place up to another the bytes are a spelling of the key
abbrev pub KeyStands : List ℕ → ℕ → ℕ → KeyTree → Type 0
KeyStands = StandsSpelled SpellsKey
