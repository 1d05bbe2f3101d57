-- Where a database's place is put.
use Rattle.std.proofs.Common.{◌≡◌, ◌∙◌, ℕ, suc, zero, ◌+◌, ◌<◌, nat_eq, length, get_or, slice_set, position, Some, None, Bool, true, false, ◌||◌, List, [], ◌∷◌, ◌++◌, ap, sym, refl, arith}
use Rattle.std.specs.List.{list_any, position_or_len}
use Rattle.std.specs.Cmp.Lexicographic.{pointwise, nat_list_eq_equiv}
use Rattle.std.proofs.lemmas.List.Quantifiers.{position-Some}
use Rattle.std.proofs.lemmas.Bool.{lt-ltb, le-ltb}
use Rattle.name_queues.specs.Names.{at_first}
use Rattle.name_queues.proofs.Laws.{place_of, nowhere, any_there, any_nowhere, gap_some}
use Rattle.desk_steps.specs.declared.stands.DeskPlace.{DeskPlace}
use Rattle.desk_steps.specs.Numbers.{is_placed_name, is_free_place, with_place, new_place, at_place, place_of_name, one_more_unfinished}
use Rattle.desk_steps.specs.Placing.{placed_at}

either_false : (a b : Bool) → a || b ≡ false → (a ≡ false) × (b ≡ false)
either_false true b e = cc
either_false false b e = (refl, e)

-- ---- one that passes comes to a list where none does
set_then : {A : Type 0} (test : A → Bool) (f : A → A) (y : A) (xs : List A) (i : ℕ) → test y ≡ true → list_any test xs ≡ false → i < length xs → at_first test f (slice_set xs i y) ≡ slice_set xs i (f y)
set_then test f y [] i t n l = absurd (omega (arith, l))
set_then test f y (x ∷ xs) zero t n l = rw t refl
set_then test f y (x ∷ xs) (suc i) t n l =
    let h = either_false (test x) (list_any test xs) n in
    rw h.0 (ap (λ ys. x ∷ ys) (set_then test f y xs i t h.1 (omega (arith, l))))

set_found : {A : Type 0} (test : A → Bool) (y : A) (xs : List A) (i : ℕ) → test y ≡ true → list_any test xs ≡ false → i < length xs → position_or_len test (slice_set xs i y) ≡ i
set_found test y [] i t n l = absurd (omega (arith, l))
set_found test y (x ∷ xs) zero t n l = rw t refl
set_found test y (x ∷ xs) (suc i) t n l =
    let h = either_false (test x) (list_any test xs) n in
    rw h.0 (ap (λ n. 1 + n) (set_found test y xs i t h.1 (omega (arith, l))) ∙ omega arith)

pub end_then : {A : Type 0} (test : A → Bool) (f : A → A) (y : A) (xs : List A) → test y ≡ true → list_any test xs ≡ false → at_first test f (xs ++ y ∷ []) ≡ xs ++ f y ∷ []
end_then test f y [] t n = rw t refl
end_then test f y (x ∷ xs) t n =
    let h = either_false (test x) (list_any test xs) n in
    rw h.0 (ap (λ ys. x ∷ ys) (end_then test f y xs t h.1))

end_found : {A : Type 0} (test : A → Bool) (y : A) (xs : List A) → test y ≡ true → list_any test xs ≡ false → position_or_len test (xs ++ y ∷ []) ≡ length xs
end_found test y [] t n = rw t refl
end_found test y (x ∷ xs) t n =
    let h = either_false (test x) (list_any test xs) n in
    rw h.0 (ap (λ n. 1 + n) (end_found test y xs t h.1) ∙ omega arith)

-- ---- places
pub record Puts (name : List ℕ) (places : List DeskPlace) (i : ℕ) (p : DeskPlace) : Type 0 where
  pub placed : placed_at i p places ≡ at_place name one_more_unfinished (with_place name places)
  pub number : i ≡ place_of_name name (with_place name places)

same_name : (name : List ℕ) → pointwise nat_eq name name ≡ true
same_name name = nat_list_eq_equiv.refl name

put_within : (i : ℕ) (p : DeskPlace) (places : List DeskPlace) → i < length places → placed_at i p places ≡ slice_set places i p
put_within i p places l = rw (lt-ltb i (length places) l) refl

put_behind : (p : DeskPlace) (places : List DeskPlace) → placed_at (length places) p places ≡ places ++ p ∷ []
put_behind p places = rw (le-ltb (length places) (length places) (omega arith)) refl

-- the name has a place
pub puts_again : (name : List ℕ) (places : List DeskPlace) (i : ℕ) (x : DeskPlace) → Some i ≡ position (is_placed_name name) places → x ≡ get_or places i x → Puts name places i (one_more_unfinished x)
puts_again name places i x e h =
    let there = place_of (is_placed_name name) places i x e h in
    let any = any_there (is_placed_name name) places x there.found in
    let keeps : with_place name places ≡ places = rw any refl in
    record {
      placed = put_within i (one_more_unfinished x) places there.within ∙ sym (there.changed one_more_unfinished) ∙ sym (ap (at_place name one_more_unfinished) keeps);
      number = gap_some (is_placed_name name) places i e ∙ sym (ap (place_of_name name) keeps);
    }

default_same : {A : Type 0} (xs : List A) (i : ℕ) (d e : A) → i < length xs → get_or xs i d ≡ get_or xs i e
default_same [] i d e l = absurd (omega (arith, l))
default_same (x ∷ xs) zero d e l = refl
default_same (x ∷ xs) (suc i) d e l = default_same xs i d e (omega (arith, l))

-- it has none, and the first free place is at i
pub puts_free : (name : List ℕ) (places : List DeskPlace) (i : ℕ) → None ≡ position (is_placed_name name) places → Some i ≡ position is_free_place places → Puts name places i (one_more_unfinished (new_place name))
puts_free name places i n e =
    let none = any_nowhere (is_placed_name name) places (nowhere (is_placed_name name) places n).found in
    let x : DeskPlace = get_or places i (new_place name) in
    let h : x ≡ get_or places i x = default_same places i (new_place name) x (position-Some is_free_place places i (new_place name) (sym e)).0 in
    let there = place_of is_free_place places i x e h in
    let any = any_there is_free_place places x there.found in
    let puts : with_place name places ≡ slice_set places i (new_place name) = rw none (rw any (there.changed (λ p. new_place name))) in
    record {
      placed = put_within i (one_more_unfinished (new_place name)) places there.within ∙ sym (set_then (is_placed_name name) one_more_unfinished (new_place name) places i (same_name name) none there.within) ∙ sym (ap (at_place name one_more_unfinished) puts);
      number = sym (set_found (is_placed_name name) (new_place name) places i (same_name name) none there.within) ∙ sym (ap (place_of_name name) puts);
    }

-- it has none, and no place is free
pub puts_behind : (name : List ℕ) (places : List DeskPlace) → None ≡ position (is_placed_name name) places → None ≡ position is_free_place places → Puts name places (length places) (one_more_unfinished (new_place name))
puts_behind name places n e =
    let none = any_nowhere (is_placed_name name) places (nowhere (is_placed_name name) places n).found in
    let free = any_nowhere is_free_place places (nowhere is_free_place places e).found in
    let puts : with_place name places ≡ places ++ new_place name ∷ [] = rw none (rw free refl) in
    record {
      placed = put_behind (one_more_unfinished (new_place name)) places ∙ sym (end_then (is_placed_name name) one_more_unfinished (new_place name) places (same_name name) none) ∙ sym (ap (at_place name one_more_unfinished) puts);
      number = sym (end_found (is_placed_name name) (new_place name) places (same_name name) none) ∙ sym (ap (place_of_name name) puts);
    }
