-- The fields: counts, numbers, texts and lists.
use Rattle.std.proofs.Common.{◌≡◌, ℕ, suc, ◌<◌, ◌≤◌, ◌^◌, Bool, true, false, ◌&&◌, cond, ltb, ℤ, pos, negsuc, List, [], ◌∷◌, ◌++◌, length, take, drop, Option, Some, None, refl, sym, ap, subst, ◌∙◌, append_assoc, arith, w32, w64, to_z-of_z, FitsSigned}
use mir.ValLaws.{of_z_fits}
use Rattle.std.specs.List.{flat_map, list_all, AllByRecursion}
use Rattle.std.specs.Int.{from_be_bytes, to_be_bytes, cast_signed, cast_unsigned}
use Rattle.std.specs.Ordering.{int_cmp, is_le}
use Rattle.std.specs.Int.Signed.{◌≤ℤ◌, ◌<ℤ◌}
use Rattle.std.specs.Str.{is_utf8}
use Rattle.std.specs.declared.cmp.Ordering.{Ordering}
use Rattle.std.specs.declared.cmp.Ordering.TheVariants.{Less, Equal, Greater}
use Rattle.std.proofs.lemmas.Bool.{ltb-false, le-ltb, lt-ltb}
use Rattle.std.specs.Cmp.{first_so, second_so}
use Rattle.std.proofs.lemmas.Cmp.{int_ranked}
use Rattle.std.proofs.lemmas.Int.{ints, of_z-to_z}
use Rattle.std.proofs.lemmas.List.{take_at, drop_at, take-append-drop, length-append, length-take}
use Rattle.std.proofs.lemmas.Nat.{be_bytes_4, be_bytes_8, from_be_bytes-to_be_bytes_4, from_be_bytes-to_be_bytes_8}
use Rattle.clone_values.specs.WellFormed.{is_int, is_date, is_within_limit, is_text, is_byte, is_byte_string}
use Rattle.value_bytes.specs.Spelling.{count_bytes, number_bytes, word_bytes, string_bytes}
use Rattle.value_bytes.specs.Steps.{◌>>=◌, front_at, count_at, whole_number_at, word_at, string_at, text_at, many_at, counted_at, checked_at}
use Rattle.value_bytes.proofs.Formats.{IsBytes, ahead, behind, bind_some, kept, some_is, Took, took_then, Format, checked, good_as, many_sound, many_again, within_limit, limit_within}

nothing_kept : {A : Type 0} (b : Bool) (x y : A) → cond b None (Some x) ≡ Some y → (b ≡ false) × (x ≡ y)
nothing_kept true x y e = absurd cc
nothing_kept false x y e = (refl, cc)

front_sound : (n : ℕ) (bs : List ℕ) (x : List ℕ × List ℕ) → IsBytes bs → front_at n bs ≡ Some x → Took bs x.0 x.1 × (length x.0 ≡ n)
front_sound n bs x fits e =
    let g = nothing_kept (ltb (length bs) n) (take n bs, drop n bs) x e in
    let long : n ≤ length bs = ltb-false _ _ g.0 in
    let whole = take-append-drop n bs in
    subst (λ (y : List ℕ × List ℕ). Took bs y.0 y.1 × (length y.0 ≡ n)) g.1
    (record { parts = sym whole; fits = behind (take n bs) (drop n bs) (subst IsBytes (sym whole) fits) }, omega (arith, length-take n bs))

front_again : (s rest : List ℕ) (n : ℕ) → length s ≡ n → front_at n (s ++ rest) ≡ Some (s, rest)
front_again s rest n len =
    let long : ltb (length (s ++ rest)) n ≡ false = le-ltb _ _ (omega (arith, length-append s rest)) in
    rw (long, take_at s rest n len, drop_at s rest n len) refl

pub count : Format count_at count_bytes (λ n. n < 2 ^ 32)
count = record {
  sound = λ bs x fits e.
      let a = bind_some (front_at 4 bs) (λ y. Some (from_be_bytes w32 y.0, y.1)) x e in
      let front = front_sound 4 bs a.0 fits a.1 in
      let fine : IsBytes a.0.0 = ahead a.0.0 a.0.1 (subst IsBytes front.0.parts fits) in
      let back = be_bytes_4 a.0.0 (from_be_bytes w32 a.0.0) front.1 fine refl in
      subst (λ (y : ℕ × List ℕ). Took bs (count_bytes y.0) y.1 × (y.0 < 2 ^ 32)) (some_is (from_be_bytes w32 a.0.0, a.0.1) x a.2)
      (subst (λ (w : List ℕ). Took bs w a.0.1) (sym back) front.0, omega (arith, fine 0, fine 1, fine 2, fine 3));
  again = λ n rest lt.
      ap (λ o. o >>= λ x. Some (from_be_bytes w32 x.0, x.1)) (front_again (count_bytes n) rest 4 refl) ∙ ap (λ m. Some (m, rest)) (from_be_bytes-to_be_bytes_4 n lt);
}

pub word : Format word_at word_bytes (λ n. n < 2 ^ 64)
word = record {
  sound = λ bs x fits e.
      let a = bind_some (front_at 8 bs) (λ y. Some (from_be_bytes w64 y.0, y.1)) x e in
      let front = front_sound 8 bs a.0 fits a.1 in
      let fine : IsBytes a.0.0 = ahead a.0.0 a.0.1 (subst IsBytes front.0.parts fits) in
      let back = be_bytes_8 a.0.0 (from_be_bytes w64 a.0.0) front.1 fine refl in
      subst (λ (y : ℕ × List ℕ). Took bs (word_bytes y.0) y.1 × (y.0 < 2 ^ 64)) (some_is (from_be_bytes w64 a.0.0, a.0.1) x a.2)
      (subst (λ (w : List ℕ). Took bs w a.0.1) (sym back) front.0, omega (arith, fine 0, fine 1, fine 2, fine 3, fine 4, fine 5, fine 6, fine 7));
  again = λ n rest lt.
      ap (λ o. o >>= λ x. Some (from_be_bytes w64 x.0, x.1)) (front_again (word_bytes n) rest 8 refl) ∙ ap (λ m. Some (m, rest)) (from_be_bytes-to_be_bytes_8 n lt);
}

-- a number within what eight bytes hold, where the test says so
pub number : (c : ℤ → Bool) → ((z : ℤ) → c z ≡ true → FitsSigned w64 z) → Format (checked_at c whole_number_at) number_bytes (λ z. c z ≡ true)
number c fine = record {
  sound = λ bs x fits e.
      let a = bind_some (whole_number_at bs) (λ y. cond (c y.0) (Some y) None) x e in
      let b = bind_some (front_at 8 bs) (λ y. Some (cast_signed w64 (from_be_bytes w64 y.0), y.1)) a.0 a.1 in
      let front = front_sound 8 bs b.0 fits b.1 in
      let within : IsBytes b.0.0 = ahead b.0.0 b.0.1 (subst IsBytes front.0.parts fits) in
      let small : from_be_bytes w64 b.0.0 < 2 ^ 64 = omega (arith, within 0, within 1, within 2, within 3, within 4, within 5, within 6, within 7) in
      let back : number_bytes (cast_signed w64 (from_be_bytes w64 b.0.0)) ≡ b.0.0 = ap (to_be_bytes w64) (of_z-to_z w64 (from_be_bytes w64 b.0.0) small) ∙ be_bytes_8 b.0.0 (from_be_bytes w64 b.0.0) front.1 within refl in
      let k = kept (c a.0.0) a.0 x a.2 in
      let read = some_is (cast_signed w64 (from_be_bytes w64 b.0.0), b.0.1) a.0 b.2 in
      (subst (λ (y : ℤ × List ℕ). Took bs (number_bytes y.0) y.1) (read ∙ k.1) (subst (λ (w : List ℕ). Took bs w b.0.1) (sym back) front.0), ap (λ (y : ℤ × List ℕ). c y.0) (sym k.1) ∙ k.0);
  again = λ z rest good.
      let same : cast_signed w64 (from_be_bytes w64 (number_bytes z)) ≡ z = ap (cast_signed w64) (from_be_bytes-to_be_bytes_8 (cast_unsigned w64 z) (omega (arith, of_z_fits w64 z (fine z good)))) ∙ to_z-of_z (fine z good) in
      let read : whole_number_at (number_bytes z ++ rest) ≡ Some (z, rest) = ap (λ o. o >>= λ x. Some (cast_signed w64 (from_be_bytes w64 x.0), x.1)) (front_again (number_bytes z) rest 8 refl) ∙ ap (λ m. Some (m, rest)) same in
      ap (λ o. o >>= λ y. cond (c y.0) (Some y) None) read ∙ rw good refl;
}

at_most : (a b : ℤ) (o : Ordering) → o ≡ int_cmp a b → is_le o ≡ true → a ≤ℤ b
at_most a b Less e h = let lt : a <ℤ b = int_ranked a b Less e in omega (arith, ints)
at_most a b Equal e h = let same : a ≡ b = int_ranked a b Equal e in rw same (omega (arith, ints))
at_most a b Greater e h = absurd cc

-- the tests of Ints and Dates keep to what eight bytes hold
within : (a b z : ℤ) → (is_le (int_cmp a z) && is_le (int_cmp z b)) ≡ true → (a ≤ℤ z) × (z ≤ℤ b)
within a b z h = (at_most a z (int_cmp a z) refl (first_so (is_le (int_cmp a z)) (is_le (int_cmp z b)) h), at_most z b (int_cmp z b) refl (second_so (is_le (int_cmp a z)) (is_le (int_cmp z b)) h))

pub int_fits : (z : ℤ) → is_int z ≡ true → FitsSigned w64 z
int_fits z h = let ends = within (negsuc 9007199254740991) (pos 9007199254740992) z h in omega (arith, ints, ends.0, ends.1)

pub date_fits : (z : ℤ) → is_date z ≡ true → FitsSigned w64 z
date_fits z h = let ends = within (negsuc 8639999999999999) (pos 8640000000000000) z h in omega (arith, ints, ends.0, ends.1)

-- ---- texts and byte strings
pub string : Format string_at string_bytes (λ s. length s < 2 ^ 32)
string = record {
  sound = λ bs x fits e.
      let a = bind_some (count_at bs) (λ n. front_at n.0 n.1) x e in
      let one = count.sound bs a.0 fits a.1 in
      let two = front_sound a.0.0 a.0.1 x one.0.fits a.2 in
      let both = took_then bs (count_bytes a.0.0) a.0.1 x.0 x.1 one.0 two.0 in
      (subst (λ (n : ℕ). Took bs (count_bytes n ++ x.0) x.1) (sym two.1) both, omega (arith, two.1, one.1));
  again = λ s rest lt.
      ap string_at (append_assoc (count_bytes (length s)) s rest) ∙ ap (λ o. o >>= λ n. front_at n.0 n.1) (count.again (length s) (s ++ rest) lt) ∙ front_again s rest (length s) refl;
}

abbrev pub IsText : List ℕ → Type 0
IsText s = is_text s ≡ true

pub text : Format text_at string_bytes IsText
text = good_as text_at string_bytes (λ s. (length s < 2 ^ 32) × (is_utf8 s ≡ true)) IsText
    (λ s g i. g.1 i && within_limit s g.0 i) (λ s g. (limit_within s (second_so (is_utf8 s) (is_within_limit s) g), first_so (is_utf8 s) (is_within_limit s) g)) (checked is_utf8 string_at string_bytes (λ s. length s < 2 ^ 32) string)

all_bytes : (s : List ℕ) → IsBytes s → list_all is_byte s ≡ true
all_bytes [] h = refl
all_bytes (x ∷ s) h = let here = lt-ltb x 256 (h 0) in λ i. here i && all_bytes s (λ j. h (suc j)) i

pub byte_string : Format string_at string_bytes (λ s. is_byte_string s ≡ true)
byte_string = record {
  sound = λ bs x fits e.
      let got = string.sound bs x fits e in
      let fine = behind (count_bytes (length x.0)) x.0 (ahead (string_bytes x.0) x.1 (subst IsBytes got.0.parts fits)) in
      (got.0, λ i. all_bytes x.0 fine i && within_limit x.0 got.1 i);
  again = λ s rest good. string.again s rest (limit_within s (second_so (list_all is_byte s) (is_within_limit s) good));
}

-- ---- lists
pub counted : {A : Type 0} (r : List ℕ → Option (A × List ℕ)) (spell : A → List ℕ) (Good : A → Type 0) → Format r spell Good
    → Format (counted_at r) (λ xs. count_bytes (length xs) ++ flat_map spell xs) (λ xs. (length xs < 2 ^ 32) × AllByRecursion Good xs)
counted r spell Good f = record {
  sound = λ bs x fits e.
      let a = bind_some (count_at bs) (λ n. many_at r n.0 n.1) x e in
      let one = count.sound bs a.0 fits a.1 in
      let two = many_sound r spell Good f a.0.0 a.0.1 x one.0.fits a.2 in
      let both = took_then bs (count_bytes a.0.0) a.0.1 (flat_map spell x.0) x.1 one.0 two.0 in
      (subst (λ (n : ℕ). Took bs (count_bytes n ++ flat_map spell x.0) x.1) (sym two.1) both, (omega (arith, two.1, one.1), two.2));
  again = λ xs rest good.
      ap (counted_at r) (append_assoc (count_bytes (length xs)) (flat_map spell xs) rest)
      ∙ ap (λ o. o >>= λ n. many_at r n.0 n.1) (count.again (length xs) (flat_map spell xs ++ rest) good.0) ∙ many_again r spell Good f xs rest good.1;
}
