-- A key is read exactly where it is spelled.
use Rattle.std.proofs.Common.{◌≡◌, ℕ, zero, suc, ◌-◌, ◌<◌, ◌≤◌, ◌^◌, true, ◌&&◌, List, [], ◌∷◌, ◌++◌, length, drop, Some, refl, sym, ap, subst, ◌∙◌, arith}
use Rattle.std.specs.List.{flat_map, AllByRecursion}
use Rattle.std.specs.Cmp.{first_so, second_so}
use Rattle.clone_values.specs.KeyTree.{KeyTree, KeyTrees, number, date, text, binary, array, no_keys, key_more, key_trees_of, list_of_keys}
use Rattle.clone_values.specs.WellFormed.{is_int, is_date, is_within_limit, is_byte_string}
use Rattle.value_bytes.specs.declared.kinds.KeyKind.{KeyKind}
use Rattle.value_bytes.specs.declared.kinds.KeyKind.TheVariants as kind
use Rattle.value_bytes.specs.Spelling.{count_bytes, number_bytes, string_bytes}
use Rattle.value_bytes.specs.KeySpelling.{key_spelling_of, keys_spelling, SpellsKey}
use Rattle.clone_values.specs.KeyValues.{is_key, are_keys, key_depth, keys_depth}
use Rattle.value_bytes.specs.Steps.{◌>>=◌, byte_at, whole_number_at, string_at, text_at, mapped_at, checked_at, counted_at}
use Rattle.value_bytes.specs.KeyReading.{key_kind_of, key_body_at, key_at}
use Rattle.value_bytes.proofs.Formats.{IsBytes, behind, bind_some, Took, Format, this_kind, first_byte, Gave, made, remade, within_limit, limit_within}
use Rattle.value_bytes.proofs.Grammars.{Grammar}
use Rattle.value_bytes.proofs.FieldFormats as field
use Rattle.value_bytes.proofs.FieldFormats.{int_fits, date_fits, IsText, counted}

-- a key of that depth at most may be spelled
pub record KeyFits (d : ℕ) (k : KeyTree) : Type 0 where
  pub formed : is_key k ≡ true
  pub depth : key_depth k ≤ d

record KeysFit (d : ℕ) (ks : KeyTrees) : Type 0 where
  formed : are_keys ks ≡ true
  depth : keys_depth ks ≤ d

keys_fit : (d : ℕ) (ks : List KeyTree) → AllByRecursion (KeyFits d) ks → KeysFit d (key_trees_of ks)
keys_fit d [] h = record { formed = refl; depth = omega arith }
keys_fit d (k ∷ ks) h =
    let one = h.0 in
    let more = keys_fit d ks h.1 in
    record { formed = λ i. one.formed i && more.formed i; depth = omega (arith, one.depth, more.depth) }

keys_each : (d : ℕ) (ks : KeyTrees) → KeysFit d ks → AllByRecursion (KeyFits d) (list_of_keys ks)
keys_each d no_keys f = tt
keys_each d (key_more k ks) f = (
  record { formed = first_so (is_key k) (are_keys ks) f.formed; depth = omega (arith, f.depth) },
  keys_each d ks (record { formed = second_so (is_key k) (are_keys ks) f.formed; depth = omega (arith, f.depth) }),
)

keys_listed : (ks : KeyTrees) → key_trees_of (list_of_keys ks) ≡ ks
keys_listed no_keys = refl
keys_listed (key_more k ks) = ap (λ r. key_more k r) (keys_listed ks)

pub keys_again : (ks : List KeyTree) → list_of_keys (key_trees_of ks) ≡ ks
keys_again [] = refl
keys_again (k ∷ ks) = ap (λ r. k ∷ r) (keys_again ks)

keys_bytes : (ks : KeyTrees) → keys_spelling ks ≡ flat_map key_spelling_of (list_of_keys ks)
keys_bytes no_keys = refl
keys_bytes (key_more k ks) = ap (λ r. key_spelling_of k ++ r) (keys_bytes ks)

abbrev byte_of : KeyKind → ℕ
byte_of kind.Number = 0x21
byte_of kind.Date = 0x22
byte_of kind.Text = 0x23
byte_of kind.Binary = 0x24
byte_of kind.Array = 0x25

kind_is : (b : ℕ) (k : KeyKind) → key_kind_of b ≡ Some k → b ≡ byte_of k
kind_is b k =
    this_kind byte_of b 0x21 kind.Number k _ refl (this_kind byte_of b 0x22 kind.Date k _ refl (this_kind byte_of b 0x23 kind.Text k _ refl
    (this_kind byte_of b 0x24 kind.Binary k _ refl (this_kind byte_of b 0x25 kind.Array k _ refl (λ e. absurd cc)))))

module _ (d : ℕ) (key : Format (key_at d) key_spelling_of (KeyFits d)) where
  abbrev KeysGood : List KeyTree → Type 0
  KeysGood ks = (length ks < 2 ^ 32) × AllByRecursion (KeyFits d) ks

  abbrev keys_word : List KeyTree → List ℕ
  keys_word ks = count_bytes (length ks) ++ flat_map key_spelling_of ks

  keys : Format (counted_at (key_at d)) keys_word KeysGood
  keys = counted (key_at d) key_spelling_of (KeyFits d) key

  keys_same : (ks : KeyTrees) → count_bytes (length (list_of_keys ks)) ++ keys_spelling ks ≡ keys_word (list_of_keys ks)
  keys_same ks = ap (λ w. count_bytes (length (list_of_keys ks)) ++ w) (keys_bytes ks)

  array_fits : (ks : List KeyTree) → KeysGood ks → (0x25 ∷ keys_word ks ≡ key_spelling_of (array (key_trees_of ks))) × KeyFits (suc d) (array (key_trees_of ks))
  array_fits ks good =
      let fit = keys_fit d ks good.1 in
      let limit : is_within_limit (list_of_keys (key_trees_of ks)) ≡ true = ap (λ (l : List KeyTree). is_within_limit l) (keys_again ks) ∙ within_limit ks good.0 in (
        ap (λ w. 0x25 ∷ w) (sym (keys_same (key_trees_of ks) ∙ ap keys_word (keys_again ks))),
        record { formed = λ i. fit.formed i && limit i; depth = omega (arith, fit.depth) },
      )

  body_sound : (k : KeyKind) (bs : List ℕ) (x : KeyTree × List ℕ) → IsBytes bs → key_body_at (key_at d) k bs ≡ Some x → Gave key_spelling_of (KeyFits (suc d)) (byte_of k ∷ bs) x
  body_sound kind.Number bs x = made key_spelling_of (KeyFits (suc d)) 0x21 number (checked_at is_int whole_number_at) number_bytes (λ z. is_int z ≡ true) (field.number is_int int_fits)
      (λ z good. (refl, record { formed = good; depth = omega arith })) bs x
  body_sound kind.Date bs x = made key_spelling_of (KeyFits (suc d)) 0x22 date (checked_at is_date whole_number_at) number_bytes (λ z. is_date z ≡ true) (field.number is_date date_fits)
      (λ z good. (refl, record { formed = good; depth = omega arith })) bs x
  body_sound kind.Text bs x = made key_spelling_of (KeyFits (suc d)) 0x23 text text_at string_bytes IsText field.text
      (λ s good. (refl, record { formed = good; depth = omega arith })) bs x
  body_sound kind.Binary bs x = made key_spelling_of (KeyFits (suc d)) 0x24 binary string_at string_bytes (λ s. is_byte_string s ≡ true) field.byte_string
      (λ s good. (refl, record { formed = good; depth = omega arith })) bs x
  body_sound kind.Array bs x = made key_spelling_of (KeyFits (suc d)) 0x25 (λ ks. array (key_trees_of ks)) (counted_at (key_at d)) keys_word KeysGood keys array_fits bs x

  key_sound : (bs : List ℕ) (x : KeyTree × List ℕ) → IsBytes bs → key_at (suc d) bs ≡ Some x → Took bs (key_spelling_of x.0) x.1 × KeyFits (suc d) x.0
  unfolding key_at
  key_sound bs x fits e =
      let a = bind_some (byte_at bs) (λ b. key_kind_of b.0 >>= λ k. key_body_at (key_at d) k b.1) x e in
      let k = bind_some (key_kind_of a.0.0) (λ j. key_body_at (key_at d) j a.0.1) x a.2 in
      let whole = first_byte bs a.0 a.1 in
      let got = body_sound k.0 a.0.1 x (behind (a.0.0 ∷ []) a.0.1 (subst IsBytes whole fits)) k.2 in
      (record { parts = whole ∙ ap (λ b. b ∷ a.0.1) (kind_is a.0.0 k.0 k.1) ∙ got.parts; fits = got.rest }, got.fits)

  key_again : (k : KeyTree) (rest : List ℕ) → KeyFits (suc d) k → key_at (suc d) (key_spelling_of k ++ rest) ≡ Some (k, rest)
  unfolding key_at
  key_again (number z) rest f = remade number (checked_at is_int whole_number_at) number_bytes (λ n. is_int n ≡ true) (field.number is_int int_fits) z rest f.formed
  key_again (date z) rest f = remade date (checked_at is_date whole_number_at) number_bytes (λ n. is_date n ≡ true) (field.number is_date date_fits) z rest f.formed
  key_again (text s) rest f = remade text text_at string_bytes IsText field.text s rest f.formed
  key_again (binary s) rest f = remade binary string_at string_bytes (λ b. is_byte_string b ≡ true) field.byte_string s rest f.formed
  key_again (array ks) rest f =
      let formed = first_so (are_keys ks) (is_within_limit (list_of_keys ks)) f.formed in
      let limit = second_so (are_keys ks) (is_within_limit (list_of_keys ks)) f.formed in
      let each = keys_each d ks (record { formed = formed; depth = omega (arith, f.depth) }) in
      ap (λ w. mapped_at (λ l. array (key_trees_of l)) (counted_at (key_at d)) (w ++ rest)) (keys_same ks)
      ∙ remade (λ l. array (key_trees_of l)) (counted_at (key_at d)) keys_word KeysGood keys (list_of_keys ks) rest (limit_within (list_of_keys ks) limit, each)
      ∙ ap (λ l. Some (array l, rest)) (keys_listed ks)

none_so_shallow : (k : KeyTree) → key_depth k ≤ 0 → ⊥
none_so_shallow (number z) h = omega arith
none_so_shallow (date z) h = omega arith
none_so_shallow (text s) h = omega arith
none_so_shallow (binary s) h = omega arith
none_so_shallow (array ks) h = omega arith

pub key : (d : ℕ) → Format (key_at d) key_spelling_of (KeyFits d)
unfolding key_at
key zero = record { sound = λ bs x fits e. absurd cc; again = λ k rest f. absurd (none_so_shallow k f.depth) }
key (suc d) = record { sound = key_sound d (key d); again = key_again d (key d) }

pub key_grammar : Grammar (key_at 100) key_spelling_of (KeyFits 100) SpellsKey
key_grammar = record {
  format = key 100;
  spelled = λ word k s. s.spelled;
  fits = λ word k s. record { formed = s.well_formed; depth = s.depth };
  spells = λ word k e f. record { spelled = e; well_formed = f.formed; depth = f.depth };
}
