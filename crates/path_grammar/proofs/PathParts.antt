-- A string has one part more than full stops, and a string of Rust is a text.
use Rattle.std.proofs.Common.{◌≡◌, ◌==◌, ℕ, ◌+◌, nat_le, nat_lt, Bool, List, length, le-leb, refl, sym, ◌∙◌, arith, count_by}
use Rattle.std.specs.Str.{IsUtf8}
use Rattle.std.proofs.lemmas.Str.{is_utf8-from_IsUtf8}
use Rattle.idb_base.specs.Lists.{IsWithinLimit}
use Rattle.std.proofs.lemmas.Grind.{common_steps}
use Rattle.std.proofs.lemmas.List.Splits.{length-slice_split}
use Rattle.path_grammar.specs.KeyPath.{parts_of, fits_grammar, is_path_string}

pub few_parts : (s : List ℕ) (n : ℕ) → n ≡ count_by (λ b. b == 46) s → nat_lt n 99 ≡ nat_le (length (parts_of s)) 99
few_parts s n e = let h : length (parts_of s) ≡ n + 1 = omega (arith, length-slice_split (λ b. b == 46) s) in grind (arith, common_steps, h)

pub is_path : (s : List ℕ) (b : Bool) → IsUtf8 s → IsWithinLimit s → b ≡ fits_grammar s → b ≡ is_path_string s
is_path s b u l e = e ∙ sym (rw (is_utf8-from_IsUtf8 s u, le-leb _ _ l) refl)
