-- A list of one word.
use Rattle.std.proofs.Common.{◌≡◌, ℕ, ◌<◌, ◌≤◌, List, [], ◌∷◌, length, get_or, Bool, IsTrue, ◌↔◌, sym, ap, ◌∙◌, arith}
use Rattle.std.specs.Str.{bytes_eq}
use Rattle.std.proofs.lemmas.Slice.Eq.{bytes_eq-Decides}

-- the test of the only word
pub one_word : (words : List (List ℕ)) (word found text : List ℕ) (b : Bool) → 1 ≤ length words → length words < 2
    → word ≡ get_or words 0 word → found ≡ word → b ≡ bytes_eq found text → IsTrue b ↔ (words ≡ text ∷ [])
one_word [] word found text b some few is e test = absurd (omega arith)
one_word (w ∷ []) word found text b some few is e test =
    let same : found ≡ w = e ∙ is in (
      λ yes. ap (λ x. x ∷ []) (sym same ∙ (bytes_eq-Decides found text).0 (sym test ∙ yes)),
      λ all. let head : w ≡ text = cc in test ∙ (bytes_eq-Decides found text).1 (same ∙ head),
    )
one_word (w ∷ v ∷ ws) word found text b some few is e test = absurd (omega arith)
