-- A text character by character: what its first character leaves.
--     took, nothing_left
use Rattle.std.proofs.Common.{refl, ◌≡◌, ℕ, true, List, [], ◌∷◌, ◌++◌, length, length-append, subst, sym, ◌∙◌, ap, arith}
use Rattle.std.specs.Str.{chars, IsUtf8, all_scalars, encode_utf8_all}
use Rattle.std.specs.Char.{encode_utf8}
use Rattle.std.specs.Cmp.{first_so, second_so}
use Rattle.std.proofs.lemmas.Str.{chars-encodes, encode_same, length-encode, len_utf8_bounds}
use lib.Utf8.{scalar}

pub record Step (l t : List ℕ) (c : ℕ) : Type 0 where
  pub first : chars l ≡ c ∷ chars t
  pub rest : IsUtf8 t
  pub is_char : scalar c ≡ true

step : (c : ℕ) (t : List ℕ) → IsUtf8 (encode_utf8 c ++ t) → Step (encode_utf8 c ++ t) t c
step c t ([], (h, e)) = absurd (omega (arith, ap length e, length-append (encode_utf8 c) t, length-encode c, len_utf8_bounds c))
step c t (x ∷ xs, (h, e)) =
    let same = encode_same x c (encode_utf8_all xs) t e in
    let rest = second_so (scalar x) (all_scalars xs) h in
    let all : chars (encode_utf8 c ++ t) ≡ x ∷ xs = ap chars (sym e) ∙ chars-encodes (x ∷ xs) h in
    let more : chars t ≡ xs = ap chars (sym same.1) ∙ chars-encodes xs rest in
    record { first = cc; rest = (xs, (rest, same.1)); is_char = ap scalar (sym same.0) ∙ first_so (scalar x) (all_scalars xs) h }

-- what is known once the character c came off the text l and left t
pub took : (l t : List ℕ) (c : ℕ) → l ≡ encode_utf8 c ++ t → IsUtf8 l → Step l t c
took l t c e u = subst (λ w. Step w t c) (sym e) (step c t (subst IsUtf8 e u))

pub nothing_left : (l : List ℕ) → length l ≡ 0 → chars l ≡ []
unfolding chars
nothing_left [] e = refl
nothing_left (b ∷ l) e = absurd (omega arith)
