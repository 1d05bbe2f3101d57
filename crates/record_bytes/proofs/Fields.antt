-- The fields of changes: each is read exactly where it is spelled.
use Rattle.std.proofs.Common.{◌≡◌, ℕ, ◌<◌, ◌^◌, Bool, true, false, not, ◌&&◌, ◌||◌, cond, eqb, List, [], ◌∷◌, ◌++◌, length, Option, Some, None, refl, sym, ap, subst, ◌∙◌, suc, nat_le, ◌==◌, ◌⊎◌, inl, inr, arith}
use Rattle.std.specs.Bool.{⊤}
use Rattle.std.specs.List.{flat_map, list_all, AllByRecursion}
use Rattle.std.specs.Cmp.{first_so, second_so}
use Rattle.std.proofs.lemmas.Bool.{eqb-true, leb-true}
use Rattle.clone_values.specs.WellFormed.{is_text, is_within_limit}
use Rattle.clone_values.specs.Tree.{Tree}
use Rattle.clone_values.specs.KeyTree.{KeyTree}
use Rattle.clone_values.specs.declared.path_types.PathSpec.{PathSpec}
use Rattle.clone_values.specs.declared.path_types.PathSpec.TheVariants.{One, Many}
use Rattle.path_grammar.specs.KeyPath.{fits_grammar, is_path_string, is_key_path}
use Rattle.idb_schema.specs.Definitions.{takes_generator, is_list_path}
use Rattle.value_bytes.specs.Spelling.{count_bytes, word_bytes, string_bytes, spelling_of, SpellsValue}
use Rattle.value_bytes.specs.KeySpelling.{key_spelling_of, SpellsKey}
use Rattle.value_bytes.specs.Steps.{◌>>=◌, byte_at, word_at, text_at, mapped_at, checked_at, pair_at, counted_at}
use Rattle.value_bytes.specs.Reading.{value_at}
use Rattle.value_bytes.specs.KeyReading.{key_at}
use Rattle.value_bytes.proofs.Laws as field
use Rattle.value_bytes.proofs.Laws.{IsBytes, Took, Format, Grammar, checked, pair, good_as, counted}
use Rattle.record_bytes.specs.Loggable.{is_logged_version, is_logged_current}
use Rattle.record_bytes.specs.Spelling.{flag_bytes, key_path_spelling, path_spelling}
use Rattle.record_bytes.specs.Reading.{flag_of, flag_at, path_body_at, key_path_at, path_at, store_name_at, index_name_at, logged_version_at, logged_current_at, store_kind_at, index_kind_at, record_entry_at}

-- ---- steps
pub bind_some : {A B : Type 0} (o : Option A) (f : A → Option B) (y : B) → (o >>= f) ≡ Some y → (x : A) × (o ≡ Some x) × (f x ≡ Some y)
bind_some None f y e = absurd cc
bind_some (Some x) f y e = (x, refl, e)

abbrev some : {A : Type 0} → A → Option A
some x = Some x

pub some_is : {A : Type 0} (x y : A) → some x ≡ some y → x ≡ y
some_is x y e = cc

pub chosen : {A : Type 0} (b : Bool) (x y z : A) → cond b x y ≡ z → ((b ≡ true) × (x ≡ z)) ⊎ ((b ≡ false) × (y ≡ z))
chosen true x y z e = inl (refl, e)
chosen false x y z e = inr (refl, e)

pub first_byte : (bs : List ℕ) (b : ℕ × List ℕ) → byte_at bs ≡ Some b → bs ≡ b.0 ∷ b.1
first_byte [] b e = absurd cc
first_byte (c ∷ bs) b e = ap (λ x. x.0 ∷ x.1) (some_is (c, bs) b e)

pub behind_first : (b : ℕ) (bs : List ℕ) → IsBytes (b ∷ bs) → IsBytes bs
behind_first b bs h i = h (suc i)

-- ---- what is read, made into something else: what stands there is what it was made of
module _ {T : Type 0} (word : T → List ℕ) (Fine : T → Type 0) where
  pub made : {A : Type 0} (b : ℕ) (f : A → T) (r : List ℕ → Option (A × List ℕ)) (spell : A → List ℕ) (Good : A → Type 0) (format : Format r spell Good)
      → ((a : A) → Good a → (b ∷ spell a ≡ word (f a)) × Fine (f a)) → (bs : List ℕ) (x : T × List ℕ) → IsBytes bs → mapped_at f r bs ≡ Some x → Took (b ∷ bs) (word x.0) x.1 × Fine x.0
  made b f r spell Good format fit bs x fits e =
      let a = bind_some (r bs) (λ y. Some (f y.0, y.1)) x e in
      let got = format.sound bs a.0 fits a.1 in
      let fine = fit a.0.0 got.1 in
      subst (λ y. Took (b ∷ bs) (word y.0) y.1 × Fine y.0) (some_is (f a.0.0, a.0.1) x a.2)
      (record { parts = ap (λ w. b ∷ w) got.0.parts ∙ ap (λ w. w ++ a.0.1) fine.0; fits = got.0.fits }, fine.1)

pub remade : {A T : Type 0} (f : A → T) (r : List ℕ → Option (A × List ℕ)) (spell : A → List ℕ) (Good : A → Type 0) (format : Format r spell Good) (a : A) (rest : List ℕ) → Good a
    → mapped_at f r (spell a ++ rest) ≡ Some (f a, rest)
remade f r spell Good format a rest good = ap (λ o. o >>= λ y. Some (f y.0, y.1)) (format.again a rest good)

-- the readers of values and keys, by their grammars
of_grammar : {A : Type 0} (r : List ℕ → Option (A × List ℕ)) (spell : A → List ℕ) (Good : A → Type 0) (Spells : List ℕ → A → Type 0) → Grammar r spell Good Spells → Format r spell (λ x. Spells (spell x) x)
of_grammar r spell Good Spells g = good_as r spell Good (λ x. Spells (spell x) x) (λ x good. g.spells (spell x) x refl good) (λ x s. g.fits (spell x) x s) g.format

-- ---- names
abbrev pub IsText : List ℕ → Type 0
IsText s = is_text s ≡ true

abbrev pub AreTwo : List ℕ × List ℕ → Type 0
AreTwo x = IsText x.0 × IsText x.1

abbrev pub two_words : List ℕ × List ℕ → List ℕ
two_words x = string_bytes x.0 ++ string_bytes x.1

pub store_name : Format store_name_at two_words AreTwo
store_name = pair text_at string_bytes IsText text_at string_bytes IsText field.text field.text

abbrev pub AreThree : (List ℕ × List ℕ) × List ℕ → Type 0
AreThree x = AreTwo x.0 × IsText x.1

abbrev pub three_words : (List ℕ × List ℕ) × List ℕ → List ℕ
three_words x = two_words x.0 ++ string_bytes x.1

pub index_name : Format index_name_at three_words AreThree
index_name = pair store_name_at two_words AreTwo text_at string_bytes IsText store_name field.text

-- ---- numbers
version_fits : (n : ℕ) → is_logged_version n ≡ true → n < 2 ^ 64
version_fits n h = omega (arith, leb-true n 9007199254740991 (second_so (nat_le 1 n) (nat_le n 9007199254740991) h))

current_fits : (n : ℕ) → is_logged_current n ≡ true → n < 2 ^ 64
current_fits n h = omega (arith, leb-true n 9007199254740993 (second_so (nat_le 1 n) (nat_le n 9007199254740993) h))

in_word : (c : ℕ → Bool) → ((n : ℕ) → c n ≡ true → n < 2 ^ 64) → Format (checked_at c word_at) word_bytes (λ n. c n ≡ true)
in_word c fine = good_as (checked_at c word_at) word_bytes (λ n. (n < 2 ^ 64) × (c n ≡ true)) (λ n. c n ≡ true) (λ n g. g.1) (λ n h. (fine n h, h)) (checked c word_at word_bytes (λ n. n < 2 ^ 64) field.word)

pub version : Format logged_version_at word_bytes (λ n. is_logged_version n ≡ true)
version = in_word is_logged_version version_fits

pub current : Format logged_current_at word_bytes (λ n. is_logged_current n ≡ true)
current = in_word is_logged_current current_fits

-- ---- flags
flag_is : (b : ℕ) (flag : Bool) → flag_of b ≡ Some flag → b ∷ [] ≡ flag_bytes flag
flag_is b flag e = elim (chosen (eqb b 0) (Some false) _ (Some flag) e) [
  | inl p ↦ ap (λ n. n ∷ []) (eqb-true b 0 p.0) ∙ ap flag_bytes (some_is false flag p.1)
  | inr p ↦ elim (chosen (eqb b 1) (Some true) None (Some flag) p.1) [
    | inl q ↦ ap (λ n. n ∷ []) (eqb-true b 1 q.0) ∙ ap flag_bytes (some_is true flag q.1)
    | inr q ↦ absurd cc
  ]
]

flag_again : (flag : Bool) (rest : List ℕ) → flag_at (flag_bytes flag ++ rest) ≡ Some (flag, rest)
flag_again false rest = refl
flag_again true rest = refl

pub flag : Format flag_at flag_bytes (λ _. ⊤)
flag = record {
  sound = λ bs x fits e.
      let b = bind_some (byte_at bs) (λ y. flag_of y.0 >>= λ f. Some (f, y.1)) x e in
      let f = bind_some (flag_of b.0.0) (λ f. Some (f, b.0.1)) x b.2 in
      let whole = first_byte bs b.0 b.1 in
      subst (λ y. Took bs (flag_bytes y.0) y.1 × ⊤) (some_is (f.0, b.0.1) x f.2)
      (record { parts = whole ∙ ap (λ w. w ++ b.0.1) (flag_is b.0.0 f.0 f.1); fits = behind_first b.0.0 b.0.1 (subst IsBytes whole fits) }, tt);
  again = λ f rest good. flag_again f rest;
}

-- ---- key paths
abbrev AreTexts : List (List ℕ) → Type 0
AreTexts ss = (length ss < 2 ^ 32) × AllByRecursion IsText ss

abbrev texts_word : List (List ℕ) → List ℕ
texts_word ss = count_bytes (length ss) ++ flat_map string_bytes ss

texts : Format (counted_at text_at) texts_word AreTexts
texts = counted text_at string_bytes IsText field.text

abbrev HasTexts : PathSpec → Type 0
HasTexts (One s) = IsText s
HasTexts (Many ss) = AreTexts ss

abbrev path_spec_at : List ℕ → Option (PathSpec × List ℕ)
path_spec_at bs = byte_at bs >>= λ b. path_body_at b.0 b.1

path_body_sound : (b : ℕ) (bs : List ℕ) (x : PathSpec × List ℕ) → IsBytes bs → path_body_at b bs ≡ Some x → Took (b ∷ bs) (key_path_spelling x.0) x.1 × HasTexts x.0
path_body_sound b bs x fits e = elim (chosen (eqb b 0x41) (mapped_at One text_at bs) _ (Some x) e) [
  | inl p ↦ subst (λ n. Took (n ∷ bs) (key_path_spelling x.0) x.1 × HasTexts x.0) (sym (eqb-true b 0x41 p.0))
      (made key_path_spelling HasTexts 0x41 One text_at string_bytes IsText field.text (λ s good. (refl, good)) bs x fits p.1)
  | inr p ↦ elim (chosen (eqb b 0x42) (mapped_at Many (counted_at text_at) bs) None (Some x) p.1) [
    | inl q ↦ subst (λ n. Took (n ∷ bs) (key_path_spelling x.0) x.1 × HasTexts x.0) (sym (eqb-true b 0x42 q.0))
        (made key_path_spelling HasTexts 0x42 Many (counted_at text_at) texts_word AreTexts texts (λ ss good. (refl, good)) bs x fits q.1)
    | inr q ↦ absurd cc
  ]
]

path_body_again : (p : PathSpec) (rest : List ℕ) → HasTexts p → path_spec_at (key_path_spelling p ++ rest) ≡ Some (p, rest)
path_body_again (One s) rest good = remade One text_at string_bytes IsText field.text s rest good
path_body_again (Many ss) rest good = remade Many (counted_at text_at) texts_word AreTexts texts ss rest good

path_spec : Format path_spec_at key_path_spelling HasTexts
path_spec = record {
  sound = λ bs x fits e.
      let b = bind_some (byte_at bs) (λ y. path_body_at y.0 y.1) x e in
      let whole = first_byte bs b.0 b.1 in
      let got = path_body_sound b.0.0 b.0.1 x (behind_first b.0.0 b.0.1 (subst IsBytes whole fits)) b.2 in
      (record { parts = whole ∙ got.0.parts; fits = got.0.fits }, got.1);
  again = path_body_again;
}

texts_of_paths : (ss : List (List ℕ)) → list_all is_path_string ss ≡ true → AllByRecursion IsText ss
texts_of_paths [] h = tt
texts_of_paths (s ∷ ss) h = (first_so (is_text s) (fits_grammar s) (first_so (is_path_string s) (list_all is_path_string ss) h), texts_of_paths ss (second_so (is_path_string s) (list_all is_path_string ss) h))

path_has_texts : (p : PathSpec) → is_key_path p ≡ true → HasTexts p
path_has_texts (One s) h = first_so (is_text s) (fits_grammar s) h
path_has_texts (Many ss) h =
    let limit = first_so (is_within_limit ss) (not (length ss == 0)) (first_so (is_within_limit ss && not (length ss == 0)) (list_all is_path_string ss) h) in
    (omega (arith, leb-true (length ss) 4294967295 limit), texts_of_paths ss (second_so (is_within_limit ss && not (length ss == 0)) (list_all is_path_string ss) h))

abbrev pub IsPath : PathSpec → Type 0
IsPath p = is_key_path p ≡ true

pub key_path : Format key_path_at key_path_spelling IsPath
unfolding key_path_at
key_path = good_as key_path_at key_path_spelling (λ p. HasTexts p × IsPath p) IsPath (λ p g. g.1) (λ p h. (path_has_texts p h, h)) (checked is_key_path path_spec_at key_path_spelling HasTexts path_spec)

abbrev pub IsPathIfAny : Option PathSpec → Type 0
IsPathIfAny None = ⊤
IsPathIfAny (Some p) = IsPath p

path_again : (p : Option PathSpec) (rest : List ℕ) → IsPathIfAny p → path_at (path_spelling p ++ rest) ≡ Some (p, rest)
unfolding path_at
path_again None rest good = refl
path_again (Some (One s)) rest good = remade Some key_path_at key_path_spelling IsPath key_path (One s) rest good
path_again (Some (Many ss)) rest good = remade Some key_path_at key_path_spelling IsPath key_path (Many ss) rest good

path_sound : (bs : List ℕ) (x : Option PathSpec × List ℕ) → IsBytes bs → path_at bs ≡ Some x → Took bs (path_spelling x.0) x.1 × IsPathIfAny x.0
unfolding path_at
path_sound bs x fits e =
    let b = bind_some (byte_at bs) (λ y. cond (eqb y.0 0x40) (Some (None, y.1)) (mapped_at Some key_path_at bs)) x e in
    let whole = first_byte bs b.0 b.1 in
    elim (chosen (eqb b.0.0 0x40) (Some (None, b.0.1)) (mapped_at Some key_path_at bs) (Some x) b.2) [
      | inl p ↦ subst (λ y. Took bs (path_spelling y.0) y.1 × IsPathIfAny y.0) (some_is (None, b.0.1) x p.1)
          (record { parts = whole ∙ ap (λ n. n ∷ b.0.1) (eqb-true b.0.0 0x40 p.0); fits = behind_first b.0.0 b.0.1 (subst IsBytes whole fits) }, tt)
      | inr p ↦
          let a = bind_some (key_path_at bs) (λ y. Some (Some y.0, y.1)) x p.1 in
          let got = key_path.sound bs a.0 fits a.1 in
          subst (λ y. Took bs (path_spelling y.0) y.1 × IsPathIfAny y.0) (some_is (Some a.0.0, a.0.1) x a.2) got
    ]

pub path : Format path_at path_spelling IsPathIfAny
path = record { sound = path_sound; again = path_again }

-- ---- what stores, indexes and records are
abbrev pub store_kind_word : Option PathSpec × Bool → List ℕ
store_kind_word x = path_spelling x.0 ++ flag_bytes x.1

abbrev pub IsStoreKind : Option PathSpec × Bool → Type 0
IsStoreKind x = (IsPathIfAny x.0 × ⊤) × ((not x.1 || takes_generator x.0) ≡ true)

pub store_kind : Format store_kind_at store_kind_word IsStoreKind
store_kind = checked (λ x. not x.1 || takes_generator x.0) (pair_at path_at flag_at) store_kind_word (λ x. IsPathIfAny x.0 × ⊤) (pair path_at path_spelling IsPathIfAny flag_at flag_bytes (λ _. ⊤) path flag)

abbrev pub index_kind_word : PathSpec × (Bool × Bool) → List ℕ
index_kind_word x = key_path_spelling x.0 ++ (flag_bytes x.1.0 ++ flag_bytes x.1.1)

abbrev pub IsIndexKind : PathSpec × (Bool × Bool) → Type 0
IsIndexKind x = (IsPath x.0 × (⊤ × ⊤)) × (not (x.1.1 && is_list_path x.0) ≡ true)

pub index_kind : Format index_kind_at index_kind_word IsIndexKind
index_kind = checked (λ x. not (x.1.1 && is_list_path x.0)) (pair_at key_path_at (pair_at flag_at flag_at)) index_kind_word (λ x. IsPath x.0 × (⊤ × ⊤))
    (pair key_path_at key_path_spelling IsPath (pair_at flag_at flag_at) (λ y. flag_bytes y.0 ++ flag_bytes y.1) (λ _. ⊤ × ⊤) key_path (pair flag_at flag_bytes (λ _. ⊤) flag_at flag_bytes (λ _. ⊤) flag flag))

abbrev pub KeySpelled : KeyTree → Type 0
KeySpelled k = SpellsKey (key_spelling_of k) k

abbrev pub ValueSpelled : Tree → Type 0
ValueSpelled v = SpellsValue (spelling_of v) v

pub key : Format (key_at 100) key_spelling_of KeySpelled
key = of_grammar (key_at 100) key_spelling_of _ SpellsKey field.key_grammar

pub value : Format (value_at 100) spelling_of ValueSpelled
value = of_grammar (value_at 100) spelling_of _ SpellsValue field.value_grammar

pub entry : Format record_entry_at (λ x. key_spelling_of x.0 ++ spelling_of x.1) (λ x. KeySpelled x.0 × ValueSpelled x.1)
entry = pair (key_at 100) key_spelling_of KeySpelled (value_at 100) spelling_of ValueSpelled key value
