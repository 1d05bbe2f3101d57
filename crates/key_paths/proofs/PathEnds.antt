-- The walk to the last identifier but one, part by part.
--     holder_so             where it ends well it began at an Object or Array
--     into, room_into       what is asked of the value, asked of its properties
--     only_one, goes_on     a string cut at its first full stop
use Rattle.std.proofs.Common.{nat_lt, ◌≡◌, ℕ, ◌<◌, ◌≤◌, ◌==◌, Bool, true, false, not, ◌&&◌, List, [], ◌∷◌, length, Option, option_map, unwrap_or, refl, sym, ◌∙◌, ap, arith}
use Rattle.std.specs.Cmp.{first_so, second_so}
use Rattle.std.specs.List.{position_or_len, before_first, after_first}
use Rattle.clone_values.specs.Tree.{Tree}
use Rattle.clone_values.specs.Names.{get_member}
use Rattle.path_grammar.specs.KeyPath.{parts_of}
use Rattle.path_grammar.proofs.Laws.{one_part, some_part}
use Rattle.key_paths.specs.Evaluation.{takes_length, named_properties}
use Rattle.key_paths.specs.Injection.{is_holder, all_but_last, ends_at_holder, has_room_along, ends_in, has_room_in}
use Rattle.key_paths.proofs.Walks.{cut_parts}

-- the three tests of one identifier
module _ (n : List ℕ) (ns : List (List ℕ)) (t : Tree) (h : ends_at_holder (n ∷ ns) t ≡ true) where
  here : (is_holder t && not (takes_length n t)) ≡ true
  here = first_so (is_holder t && not (takes_length n t)) (ends_in (n ∷ ns) (named_properties t)) h

  pub no_length : not (takes_length n t) ≡ true
  no_length = second_so (is_holder t) (not (takes_length n t)) here

  pub ends_inside : ends_in (n ∷ ns) (named_properties t) ≡ true
  ends_inside = second_so (is_holder t && not (takes_length n t)) (ends_in (n ∷ ns) (named_properties t)) h

pub holder_so : (ns : List (List ℕ)) (t : Tree) → ends_at_holder ns t ≡ true → is_holder t ≡ true
holder_so [] t h = h
holder_so (n ∷ ns) t h = first_so (is_holder t) (not (takes_length n t)) (here n ns t h)

pub into : (ns : List (List ℕ)) (t : Tree) (ms : List (List ℕ × Tree)) → named_properties t ≡ ms → ends_at_holder ns t ≡ true → ends_in ns ms ≡ true
into [] t ms e h = refl
into (n ∷ ns) t ms e h = ap (ends_in (n ∷ ns)) (sym e) ∙ ends_inside n ns t h

pub room_into : (ns : List (List ℕ)) (t : Tree) (ms : List (List ℕ × Tree)) → named_properties t ≡ ms → has_room_along ns t ≡ true → has_room_in ns ms ≡ true
room_into [] t ms e h = refl
room_into (n ∷ ns) t ms e h = ap (has_room_in (n ∷ ns)) (sym e) ∙ h

pub last_left : (n : List ℕ) (ps : List (List ℕ)) → 1 ≤ length ps → all_but_last (n ∷ ps) ≡ n ∷ all_but_last ps
last_left n [] h = absurd (omega arith)
last_left n (p ∷ ps) h = refl

-- ---- a string cut at its first full stop
pub no_holder : (ns : List (List ℕ)) (t : Tree) → false ≡ is_holder t → false ≡ ends_at_holder ns t
no_holder [] t h = h
no_holder (n ∷ ns) t h = ap (λ b. b && not (takes_length n t) && ends_in (n ∷ ns) (named_properties t)) h

pub only_one : (s : List ℕ) (t : Tree) → position_or_len (λ b. b == 46) s ≡ length s → true ≡ is_holder t → true ≡ ends_at_holder (all_but_last (parts_of s)) t
only_one s t cut h = h ∙ ap (λ ps. ends_at_holder (all_but_last ps) t) (sym (one_part s cut))

module _ (s name more : List ℕ) (cut : position_or_len (λ b. b == 46) s < length s) (front : name ≡ before_first (λ b. b == 46) s) (back : more ≡ after_first (λ b. b == 46) s) where
  pub others_left : all_but_last (parts_of s) ≡ name ∷ all_but_last (parts_of more)
  others_left = ap all_but_last (cut_parts s name more cut front back) ∙ last_left name (parts_of more) (some_part more)

  pub goes_on : (t : Tree) (b : Bool) (o : Option Tree) → true ≡ is_holder t → b ≡ takes_length name t → o ≡ get_member (named_properties t) name
      → (not b && unwrap_or (option_map (ends_at_holder (all_but_last (parts_of more))) o) true) ≡ ends_at_holder (all_but_last (parts_of s)) t
  goes_on t b o h e f =
      (λ i. h i && not (e i) && unwrap_or (option_map (ends_at_holder (all_but_last (parts_of more))) (f i)) true) ∙ ap (λ ps. ends_at_holder ps t) (sym others_left)

-- ---- room at the next identifier
pub room_step : (s n : List ℕ) (ns : List (List ℕ)) (t : Tree) (ms : List (List ℕ × Tree)) (o : Option Tree) → parts_of s ≡ n ∷ ns → ms ≡ named_properties t → o ≡ get_member ms n
    → unwrap_or (option_map (has_room_along ns) o) (nat_lt (length ms) 4294967295) ≡ has_room_along (parts_of s) t
room_step s n ns t ms o cut e f =
    ap (λ p. unwrap_or (option_map (has_room_along ns) p) (nat_lt (length ms) 4294967295)) f
    ∙ ap (has_room_in (n ∷ ns)) e ∙ ap (λ ps. has_room_along ps t) (sym cut)

pub no_properties : (s : List ℕ) (t : Tree) → named_properties t ≡ [] → true ≡ has_room_along (parts_of s) t
no_properties s t e = by_parts (parts_of s)
  where
    by_parts : (ps : List (List ℕ)) → true ≡ has_room_along ps t
    by_parts [] = refl
    by_parts (p ∷ ps) = sym (ap (has_room_in (p ∷ ps)) e)
