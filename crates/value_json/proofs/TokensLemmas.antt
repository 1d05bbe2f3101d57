-- Tokens put one after another.
use Rattle.std.proofs.Common.{◌≡◌, ℕ, ◌≤◌, ◌<◌, zero, suc, true, List, [], ◌∷◌, ◌++◌, drop, length, refl, sym, ap, ◌∙◌, append_assoc, arith, codes}
use Rattle.std.proofs.lemmas.List.{drop_all}
use Rattle.clone_values.specs.Tree.{Tree, members_of}
use Rattle.clone_values.specs.Names.{names_of, is_rising}
use Rattle.clone_values.proofs.Laws.{members_again}
use Rattle.json.specs.Token.{Token, begin_object, end_object, begin_array, key}
use Rattle.json.specs.Tree.{json_tokens, items_tokens, members_tokens}
use Rattle.serde_json.specs.Data.{Data}
use Rattle.serde_json.specs.Data as json
use Rattle.serde_json.specs.View.{items_of}
use Rattle.serde_json.specs.Written.{outline, items_outline, members_outline, compact_text}
use Rattle.serde_json.proofs.Texts.{print-outline}
use Rattle.json.specs.Print.{print}
use Rattle.value_json.specs.Writing.{json_of, members_json, array_data, named_json}
use Rattle.value_json.specs.Tokens.{rest_of_members, rest_of_named, tokens_of}
use Rattle.value_json.proofs.Members.{members_in_order}

-- an Array with names, of its five parts
pub named_array : (items : List Data) (ms : List (List ℕ × Tree)) (old a b k n new : List Token)
    → 0 < length ms
    → a ≡ old ++ begin_object ∷ key (codes "$array") ∷ []
    → b ≡ a ++ begin_array ∷ items_tokens (items_outline (items_of items))
    → k ≡ b ++ key (codes "$named") ∷ []
    → n ≡ k ++ begin_array ∷ rest_of_named (members_of ms)
    → new ≡ n ++ end_object ∷ []
    → new ≡ old ++ json_tokens (outline (array_data items (named_json (members_of ms))))
named_array items [] old a b k n new some e f g h i = absurd (omega (arith, some))
named_array items (m ∷ ms) old a b k n new some e f g h i = rw (i, h, g, f, e) (simp append_assoc)

-- an object whose members have all been written
pub whole_object : (ms : List (List ℕ × Tree)) (i : ℕ) (old mid new : List Token) → is_rising (names_of ms) ≡ true → length ms ≤ i
    → mid ++ rest_of_members (members_of (drop i ms)) ≡ old ++ begin_object ∷ rest_of_members (members_of ms)
    → new ≡ mid ++ end_object ∷ []
    → new ≡ old ++ begin_object ∷ members_tokens (members_outline (members_json json.no_members (members_of ms)))
whole_object ms i old mid new rising h e f =
    f ∙ ap (λ l. mid ++ rest_of_members (members_of l)) (sym (drop_all i ms h)) ∙ e ∙ ap (λ m. old ++ begin_object ∷ members_tokens (members_outline m)) (sym (members_in_order (members_of ms) (ap (λ l. is_rising (names_of l)) (members_again ms) ∙ rising)))

-- what a writer's text is at the end
pub printed : (t : Tree) → print (tokens_of t) ≡ compact_text (json_of t)
printed t = print-outline (json_of t)
