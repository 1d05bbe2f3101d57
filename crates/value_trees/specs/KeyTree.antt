-- A key as a plain tree, which contracts see in place of `Key` (Indexed Database API 3.0, 2.4).
--     KeyTree           a key; a string is the list of its UTF-8 bytes
--     KeyTrees          the list of an array key's members, and key_trees_of, list_of_keys from and to plain lists
--     key_size          a measure: greater than that of each part
--     key_code          by which a proof tells two keys apart
use Rattle.std.specs.Prelude.{◌≡◌, ℕ, ◌+◌, ℤ, List, [], ◌∷◌, slice_index_or, refl}
use Rattle.std.proofs.Common.{sym, ◌∙◌, ap}
use base.Stored.{Gv, gnil, gnum, gcons, Coded}
use Rattle.value_trees.specs.Tree.{bytes_code, coded_bytes, bytes_back, int_code, coded_int, int_back}

mutual
  pub data KeyTree : Type 0 where
    number : ℤ → KeyTree
    date : ℤ → KeyTree
    text : List ℕ → KeyTree
    binary : List ℕ → KeyTree
    array : KeyTrees → KeyTree

  pub data KeyTrees : Type 0 where
    no_keys : KeyTrees
    key_more : KeyTree → KeyTrees → KeyTrees

-- the list of keys as a part of a key
abbrev pub key_trees_of : List KeyTree → KeyTrees
key_trees_of [] = no_keys
key_trees_of (k ∷ ks) = key_more k (key_trees_of ks)

-- and back
abbrev pub list_of_keys : KeyTrees → List KeyTree
list_of_keys no_keys = []
list_of_keys (key_more k ks) = k ∷ list_of_keys ks

-- how many parts a key has, more than each part
abbrev mutual
  pub key_size : KeyTree → ℕ
  key_size (number n) = 1
  key_size (date d) = 1
  key_size (text s) = 1
  key_size (binary b) = 1
  key_size (array ks) = 1 + keys_size ks

  pub keys_size : KeyTrees → ℕ
  keys_size no_keys = 1
  keys_size (key_more k ks) = 1 + key_size k + keys_size ks

-- ---- a code, and what reads it back: a kind's number and a part
abbrev mutual
  pub key_to_code : KeyTree → Gv
  key_to_code (number n) = gcons (gnum 0) (int_code n)
  key_to_code (date d) = gcons (gnum 1) (int_code d)
  key_to_code (text s) = gcons (gnum 2) (bytes_code s)
  key_to_code (binary b) = gcons (gnum 3) (bytes_code b)
  key_to_code (array ks) = gcons (gnum 4) (keys_to_code ks)

  pub keys_to_code : KeyTrees → Gv
  keys_to_code no_keys = gnil
  keys_to_code (key_more k ks) = gcons (key_to_code k) (keys_to_code ks)

abbrev mutual
  pub code_to_key : Gv → KeyTree
  code_to_key (gcons (gnum n) a) = slice_index_or (number (coded_int a) ∷ date (coded_int a) ∷ text (coded_bytes a) ∷ binary (coded_bytes a) ∷ []) n (array (code_to_keys a))
  code_to_key _ = array no_keys

  pub code_to_keys : Gv → KeyTrees
  code_to_keys (gcons a b) = key_more (code_to_key a) (code_to_keys b)
  code_to_keys _ = no_keys

mutual
  pub key_back : (k : KeyTree) → code_to_key (key_to_code k) ≡ k
  key_back (number n) = ap number (int_back n)
  key_back (date d) = ap date (int_back d)
  key_back (text s) = ap text (bytes_back s)
  key_back (binary b) = ap binary (bytes_back b)
  key_back (array ks) = ap array (keys_back ks)

  pub keys_back : (ks : KeyTrees) → code_to_keys (keys_to_code ks) ≡ ks
  keys_back no_keys = refl
  keys_back (key_more k ks) = λ i. key_more (key_back k i) (keys_back ks i)

abbrev pub key_code : Coded KeyTree
key_code = record { code = key_to_code; inj = λ j k e. sym (key_back j) ∙ ap code_to_key e ∙ key_back k }
