-- The code units of a text, character by character.
use Rattle.std.proofs.Common.{◌≡◌, ℕ, ◌+◌, ◌<◌, ◌≤◌, length, List, ◌∷◌, ◌++◌, ap, sym, ◌∙◌, arith, length-append}
use Rattle.std.proofs.lemmas.Grind.{common_steps}
use Rattle.std.proofs.lemmas.Str.{length-encode}
use Rattle.std.specs.List.{flat_map}
use Rattle.std.specs.Str.{chars}
use Rattle.std.specs.Char.{encode_utf8, len_utf8}
use Rattle.std.specs.Char.Escape.{encode_utf16}
use Rattle.key_order.specs.KeyOrder.{code_units}

units : (c r : ℕ) → (c < 65536 → r ≡ 1) → (65536 ≤ c → r ≡ 2) → r ≡ length (encode_utf16 c)
units c r low high = grind (arith, common_steps)

in_bytes : (c r : ℕ) → (c < 65536 → r ≡ 1) → (65536 ≤ c → r ≡ 2) → r ≤ len_utf8 c
in_bytes c r low high = grind (arith, common_steps)

-- one character: how many units and how many bytes it takes
pub unit_count : (l t : List ℕ) (c r : ℕ) → chars l ≡ c ∷ chars t → (c < 65536 → r ≡ 1) → (65536 ≤ c → r ≡ 2) → length (code_units l) ≡ r + length (code_units t)
unit_count l t c r e low high =
    ap (λ cs. length (flat_map encode_utf16 cs)) e ∙ length-append (encode_utf16 c) (code_units t) ∙ ap (λ n. n + length (code_units t)) (sym (units c r low high))

pub byte_count : (l t : List ℕ) (c r : ℕ) → l ≡ encode_utf8 c ++ t → (c < 65536 → r ≡ 1) → (65536 ≤ c → r ≡ 2) → r + length t ≤ length l
byte_count l t c r e low high = omega (arith, ap length e, length-append (encode_utf8 c) t, length-encode c, in_bytes c r low high)
