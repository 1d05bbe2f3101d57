-- Words behind a first one, and lines in parts.
use Rattle.std.proofs.Common.{◌≡◌, ℕ, List, [], ◌∷◌, ◌++◌, ap, sym, ◌∙◌, append_assoc}
use Rattle.std.proofs.lemmas.Grind.{flat_map-append}
use Rattle.std.proofs.lemmas.List.{append-nil}
use Rattle.std.specs.List.{join_with_byte}
use Rattle.report_lines.specs.Words.{text_of_words, text_of_lines}

-- words, each behind a space
abbrev pub behind_spaces : List (List ℕ) → List ℕ
behind_spaces [] = []
behind_spaces (word ∷ words) = 32 ∷ (word ++ behind_spaces words)

-- the first word, and the others behind it
pub joined : (word : List ℕ) (words : List (List ℕ)) → join_with_byte 32 (word ∷ words) ≡ word ++ behind_spaces words
joined word [] = sym (append-nil word)
joined word (next ∷ words) = ap (λ t. word ++ (32 ∷ t)) (joined next words)

-- a line whose words are put one by one
pub text_by_words : (word : List ℕ) (words : List (List ℕ)) → text_of_words (word ∷ words) ≡ word ++ (behind_spaces words ++ 10 ∷ [])
text_by_words word words = ap (λ t. t ++ 10 ∷ []) (joined word words) ∙ append_assoc word (behind_spaces words) (10 ∷ [])

-- lines in two parts
pub text_in_parts : (first second : List (List (List ℕ))) → text_of_lines (first ++ second) ≡ text_of_lines first ++ text_of_lines second
text_in_parts first second = flat_map-append text_of_words first second

-- the first word was put, and the others are to come
pub begun : (text front word : List ℕ) (words : List (List ℕ)) → text ≡ front ++ word → text ++ (behind_spaces words ++ 10 ∷ []) ≡ front ++ text_of_words (word ∷ words)
begun text front word words e = ap (λ t. t ++ (behind_spaces words ++ 10 ∷ [])) e ∙ append_assoc front word (behind_spaces words ++ 10 ∷ []) ∙ ap (λ t. front ++ t) (sym (text_by_words word words))
