-- What other crates cite of the parts of a string.
--     parts_cut, one_part       where the first full stop cuts a string
--     some_part                 there is a part
--     few_parts, parts_are_names      there are few parts in a key path, and they are names for properties
use Rattle.std.proofs.Common.{◌≡◌, ℕ, zero, suc, ◌+◌, ◌<◌, ◌≤◌, ◌==◌, Bool, true, false, ◌&&◌, ◌||◌, not, le-leb, cond, nat_le, nat_lt, leb-true, ltb-true, ltb-false, List, [], ◌∷◌, length, length-take, length-drop, take, drop, get_or, refl, sym, ◌∙◌, ap, arith}
use Rattle.std.proofs.lemmas.Grind.{common_steps}
use Rattle.std.proofs.lemmas.List.Splits.{slice_split_first, length-slice_split}
use Rattle.std.proofs.lemmas.Str.{IsUtf8-take, IsUtf8-drop, IsCharBoundary-before_ascii, IsCharBoundary-after_ascii}
use Rattle.std.proofs.lemmas.List.Sums.{passes_at_first, prefix_len-le-length, count_by-le-length}
use Rattle.std.proofs.lemmas.Bool.{eqb-true}
use Rattle.std.specs.Prelude.{if◌then◌else◌}
use Rattle.std.specs.Str.{is_utf8}
use Rattle.std.proofs.lemmas.Str.{IsUtf8-from_is_utf8, is_utf8-from_IsUtf8}
use Rattle.std.specs.Cmp.{first_so, second_so}
use Rattle.std.specs.List.{position_or_len, before_first, after_first, list_all, onto_first}
use Rattle.std.specs.Str.{IsUtf8, chars, chars_after, continuation_len, lead_bits}
use Rattle.unicode_ident.proofs.IdentLemmas.{is_xid_start-ascii}
use Rattle.clone_values.specs.WellFormed.{is_text, is_within_limit, is_digit, are_digits}
use Rattle.path_grammar.specs.KeyPath.{parts_of, is_identifier, starts_identifier, continues_identifier, is_part_name, fits_grammar, is_path_string}

pub parts_cut : (bs : List ℕ) → position_or_len (λ b. b == 46) bs < length bs → parts_of bs ≡ before_first (λ b. b == 46) bs ∷ parts_of (after_first (λ b. b == 46) bs)
parts_cut bs h = slice_split_first (λ b. b == 46) bs 0 h

pub one_part : (bs : List ℕ) → position_or_len (λ b. b == 46) bs ≡ length bs → parts_of bs ≡ bs ∷ []
one_part [] h = refl
one_part (b ∷ bs) h =
    let n = position_or_len (λ c. c == 46) bs in
    elim (b == 46) as (λ t. cond (not t) (1 + n) 0 ≡ length (b ∷ bs) → (if t then [] ∷ parts_of bs else onto_first b (parts_of bs)) ≡ (b ∷ bs) ∷ []) [
      | true ↦ λ k. absurd (omega arith)
      | false ↦ λ k. ap (onto_first b) (one_part bs (omega arith))
    ] h

pub some_part : (bs : List ℕ) → 1 ≤ length (parts_of bs)
some_part bs = omega (arith, length-slice_split (λ b. b == 46) bs)

-- ---- each part
module _ (f : List ℕ → Bool) (m : ℕ) (holds : (p : List ℕ) → IsUtf8 p → length p ≤ m → f p ≡ true) where
  by_length : (n : ℕ) (s : List ℕ) → length s < n → length s ≤ m → IsUtf8 s → list_all f (parts_of s) ≡ true
  by_length zero s l k u = absurd (omega arith)
  by_length (suc n) s l k u =
      let i = position_or_len (λ b. b == 46) s in
      elim (nat_lt i (length s)) as (λ t. nat_lt i (length s) ≡ t → list_all f (parts_of s) ≡ true) [
        | true ↦ λ e.
            let inside : i < length s = ltb-true i (length s) e in
            let ascii : get_or s i 0 < 128 = omega (arith, eqb-true (get_or s i 0) 46 (passes_at_first (λ b. b == 46) s 0 inside)) in
            let front = holds (take i s) (IsUtf8-take s i u (IsCharBoundary-before_ascii s i inside ascii)) (omega (arith, length-take i s)) in
            let rest = by_length n (drop (i + 1) s) (omega (arith, length-drop (i + 1) s)) (omega (arith, length-drop (i + 1) s)) (IsUtf8-drop s (i + 1) u (IsCharBoundary-after_ascii s i u inside ascii)) in
            ap (list_all f) (parts_cut s inside) ∙ rw front rest
        | false ↦ λ e.
            let whole : i ≡ length s = omega (arith, ltb-false i (length s) e, prefix_len-le-length (λ b. not (b == 46)) s) in
            ap (list_all f) (one_part s whole) ∙ rw (holds s u k) refl
      ] refl

  parts_hold : (s : List ℕ) → length s ≤ m → IsUtf8 s → list_all f (parts_of s) ≡ true
  parts_hold s k u = by_length (length s + 1) s (omega arith) k u

-- ---- an identifier isn't made of digits
digit_alone : (b : ℕ) → is_digit b ≡ true → (continuation_len b ≡ 0) × (lead_bits b ≡ b) × (starts_identifier b ≡ false)
digit_alone b h =
    let low : 48 ≤ b = leb-true _ _ (first_so (nat_le 48 b) (nat_le b 57) h) in
    let high : b ≤ 57 = leb-true _ _ (second_so (nat_le 48 b) (nat_le b 57) h) in
    let letter = is_xid_start-ascii b (omega arith) in
    (grind (arith, common_steps), grind (arith, common_steps), grind (arith, common_steps))

first_char : (b : ℕ) (bs : List ℕ) → continuation_len b ≡ 0 → lead_bits b ≡ b → (cs : List ℕ) × (chars (b ∷ bs) ≡ b ∷ cs)
unfolding chars
first_char b [] z l = ([], (λ i. chars_after (z i) (l i) []))
first_char b (c ∷ bs) z l = (chars_after (continuation_len c) (lead_bits c) bs, (λ i. chars_after (z i) (l i) (c ∷ bs)))

no_digits : (p : List ℕ) → is_identifier (chars p) ≡ true → are_digits p ≡ false
no_digits [] h = refl
no_digits (b ∷ bs) h =
    elim (is_digit b) as (λ d. is_digit b ≡ d → (d && list_all is_digit bs && not (length (b ∷ bs) == 0)) ≡ false) [
      | false ↦ λ e. refl
      | true ↦ λ e.
          let alone = digit_alone b e in
          let head = first_char b bs alone.0 alone.1 in
          let starts : (starts_identifier b && list_all continues_identifier head.0) ≡ true = ap is_identifier (sym head.1) ∙ h in
          let wrong : false ≡ true = sym alone.2 ∙ first_so (starts_identifier b) (list_all continues_identifier head.0) starts in cc
    ] refl

-- ---- the parts of a key path
both_all : (ps : List (List ℕ)) → list_all is_text ps ≡ true → list_all (λ p. is_identifier (chars p)) ps ≡ true → list_all is_part_name ps ≡ true
both_all [] t i = refl
both_all (p ∷ ps) t i =
    let named : (is_text p && not (are_digits p)) ≡ true = rw (first_so (is_text p) _ t, no_digits p (first_so (is_identifier (chars p)) _ i)) refl in
    rw (named, both_all ps (second_so (is_text p) _ t) (second_so (is_identifier (chars p)) _ i)) refl

module _ (s : List ℕ) (path : is_path_string s ≡ true) where
  is_a_text : is_text s ≡ true
  is_a_text = first_so (is_text s) (fits_grammar s) path

  fits : (length s == 0) ≡ false → (nat_le (length (parts_of s)) 99 && list_all (λ p. is_identifier (chars p)) (parts_of s)) ≡ true
  fits full = ap (λ b. b || (nat_le (length (parts_of s)) 99 && list_all (λ p. is_identifier (chars p)) (parts_of s))) (sym full) ∙ second_so (is_text s) (fits_grammar s) path

  pub few_parts : length (parts_of s) ≤ 99
  few_parts =
      elim (length s == 0) as (λ b. (length s == 0) ≡ b → length (parts_of s) ≤ 99) [
        | true ↦ λ e. omega (arith, length-slice_split (λ b. b == 46) s, count_by-le-length (λ b. b == 46) s, eqb-true (length s) 0 e)
        | false ↦ λ e. leb-true (length (parts_of s)) 99 (first_so (nat_le (length (parts_of s)) 99) _ (fits e))
      ] refl

  pub parts_are_names : (length s == 0) ≡ false → list_all is_part_name (parts_of s) ≡ true
  parts_are_names full =
      let short : length s ≤ 4294967295 = leb-true (length s) 4294967295 (second_so (is_utf8 s) (is_within_limit s) is_a_text) in
      let texts = parts_hold is_text (length s) (λ p u l. rw (is_utf8-from_IsUtf8 p u) (le-leb (length p) 4294967295 (omega arith))) s (omega arith) (IsUtf8-from_is_utf8 s (first_so (is_utf8 s) (is_within_limit s) is_a_text)) in
      both_all (parts_of s) texts (second_so _ _ (fits full))
