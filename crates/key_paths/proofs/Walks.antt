-- Evaluation part by part.
--     part_fails, part_found      what the next part of a list adds
--     one_step, more_steps        a string cut at its first full stop
use Rattle.std.proofs.Common.{◌≡◌, ℕ, ◌<◌, ◌≤◌, ◌==◌, Bool, true, false, ◌&&◌, List, [], ◌∷◌, ◌++◌, ◌+◌, length, length-take, length-drop, map, Option, Some, None, option_map, ℤ, refl, sym, ◌∙◌, ap, arith, append_assoc}
use Rattle.std.proofs.lemmas.List.{map-append, append-nil}
use Rattle.std.specs.Prelude.{if◌then◌else◌}
use Rattle.std.specs.List.{position_or_len, before_first, after_first}
use Rattle.std.specs.Option.{option_and_then}
use Rattle.clone_values.specs.Tree.{Tree, undefined, null, boolean, int, text, date, bytes, array, object, map_object, set_object, function}
use Rattle.clone_values.specs.View.{tree_of}
use Rattle.clone_values.specs.declared.value_types.Value.{Value}
use Rattle.path_grammar.specs.KeyPath.{parts_of}
use Rattle.path_grammar.proofs.Laws.{parts_cut, one_part, some_part}
use Rattle.key_paths.specs.Evaluation.{all_there, walked, step_of, takes_length, length_of, property_of, is_length}

-- ---- a list of strings; vs are the values so far
ahead : (us : List Tree) (t : Tree) (r : Option (List Tree)) → option_map (λ ts. us ++ ts) (option_map (λ ts. t ∷ ts) r) ≡ option_map (λ ts. (us ++ t ∷ []) ++ ts) r
ahead us t None = refl
ahead us t (Some ts) = ap Some (sym (append_assoc us (t ∷ []) ts))

module _ (f : List ℕ → Option Tree) (vs : List Value) (ss rest : List (List ℕ)) (s : List ℕ) (whole : Option (List Tree)) (starts : ss ≡ s ∷ rest)
    (so_far : option_map (λ ts. map tree_of vs ++ ts) (all_there (map f ss)) ≡ whole) where
  next : (o : Option Tree) → o ≡ f s → option_map (λ ts. map tree_of vs ++ ts) (all_there (o ∷ map f rest)) ≡ whole
  next o e = ap (λ p. option_map (λ ts. map tree_of vs ++ ts) (all_there (p ∷ map f rest))) e ∙ ap (λ us. option_map (λ ts. map tree_of vs ++ ts) (all_there (map f us))) (sym starts) ∙ so_far

  pub part_fails : None ≡ f s → None ≡ whole
  part_fails e = next None e

  pub part_found : (x : Value) (ws : List Value) → Some (tree_of x) ≡ f s → ws ≡ vs ++ x ∷ [] → option_map (λ ts. map tree_of ws ++ ts) (all_there (map f rest)) ≡ whole
  part_found x ws e more =
      ap (λ us. option_map (λ ts. us ++ ts) (all_there (map f rest))) (ap (map tree_of) more ∙ map-append tree_of vs (x ∷ []))
      ∙ sym (ahead (map tree_of vs) (tree_of x) (all_there (map f rest))) ∙ next _ e

pub all_found : (f : List ℕ → Option Tree) (us : List Tree) (ss : List (List ℕ)) (whole : Option (List Tree)) → ss ≡ [] → option_map (λ ts. us ++ ts) (all_there (map f ss)) ≡ whole → Some us ≡ whole
all_found f us ss whole e h = ap Some (sym (append-nil us)) ∙ ap (λ r. option_map (λ ts. us ++ ts) (all_there (map f r))) (sym e) ∙ h

-- ---- a length has no properties
and_false : (b : Bool) → (b && false) ≡ false
and_false true = refl
and_false false = refl

number_ends : (ps : List (List ℕ)) (n : ℤ) → 1 ≤ length ps → walked ps (int n) ≡ None
number_ends [] n h = absurd (omega arith)
number_ends (p ∷ ps) n h = ap (λ b. option_and_then (walked ps) (if b then length_of (int n) else property_of p (int n))) (and_false (is_length p))

length_ends : (ps : List (List ℕ)) (t : Tree) → 1 ≤ length ps → option_and_then (walked ps) (length_of t) ≡ None
length_ends ps (text s) h = number_ends ps _ h
length_ends ps (array ts ms) h = number_ends ps _ h
length_ends ps undefined h = refl
length_ends ps null h = refl
length_ends ps (boolean b) h = refl
length_ends ps (int n) h = refl
length_ends ps (date d) h = refl
length_ends ps (bytes b) h = refl
length_ends ps (object ms) h = refl
length_ends ps (map_object qs) h = refl
length_ends ps (set_object ts) h = refl
length_ends ps function h = refl

-- ---- a string is cut at its first full stop
ends : (o : Option Tree) → o ≡ option_and_then (walked []) o
ends None = refl
ends (Some t) = refl

pub one_step : (s : List ℕ) (t : Tree) → position_or_len (λ b. b == 46) s ≡ length s → step_of s t ≡ walked (parts_of s) t
one_step s t h = ends (step_of s t) ∙ ap (λ ps. walked ps t) (sym (one_part s h))

module _ (s name more : List ℕ) (cut : position_or_len (λ b. b == 46) s < length s) (front : name ≡ before_first (λ b. b == 46) s) (back : more ≡ after_first (λ b. b == 46) s) where
  pub name_short : length name ≤ length s
  name_short = omega (arith, ap length front, length-take (position_or_len (λ b. b == 46) s) s)

  pub more_shorter : length more < length s
  more_shorter = omega (arith, ap length back, length-drop (position_or_len (λ b. b == 46) s + 1) s, cut)

  pub cut_parts : parts_of s ≡ name ∷ parts_of more
  cut_parts = rw (front, back) (parts_cut s cut)

  steps : (t : Tree) → walked (parts_of s) t ≡ option_and_then (walked (parts_of more)) (step_of name t)
  steps t = ap (λ ps. walked ps t) cut_parts

  pub length_step : (t : Tree) → true ≡ takes_length name t → None ≡ walked (parts_of s) t
  length_step t h = sym (steps t ∙ ap (λ b. option_and_then (walked (parts_of more)) (if b then length_of t else property_of name t)) (sym h) ∙ length_ends (parts_of more) t (some_part more))

  pub more_steps : (t : Tree) (o : Option Tree) → false ≡ takes_length name t → o ≡ property_of name t → option_and_then (walked (parts_of more)) o ≡ walked (parts_of s) t
  more_steps t o h e = sym (steps t ∙ (λ i. option_and_then (walked (parts_of more)) (if sym h i then length_of t else sym e i)))
