-- What an injection asks of a list of properties, and what it makes of it.
--     ends_held, room_held, room_if_missing      what is asked of what a property holds
--     placed_by             a value by its properties
--     is_neither            an Object or Array is one of the two
use Rattle.std.proofs.Common.{Bool, nat_lt, ltb-true, ◌≡◌, ℕ, ◌≤◌, true, List, [], ◌∷◌, length, Option, Some, None, option_map, unwrap_or, MatchOption, refl, sym, ◌∙◌, ap, arith}
use Rattle.idb_base.specs.Lists.{FitsOneMore}
use Rattle.clone_values.specs.Tree.{Tree}
use Rattle.clone_values.specs.View.{tree_of}
use Rattle.clone_values.specs.declared.value_types.Value.{Value}
use Rattle.clone_values.specs.declared.value_types.Value.TheVariants as value
use Rattle.clone_values.specs.Names.{get_member}
use Rattle.key_paths.specs.Evaluation.{named_properties}
use Rattle.key_paths.specs.Injection.{is_holder, ends_at_holder, ends_in, placed, placed_in, with_properties, has_room_along, has_room_in}

pub ends_held : (ns : List (List ℕ)) (n : List ℕ) (ms : List (List ℕ × Tree)) (u : Tree) → get_member ms n ≡ Some u → ends_in (n ∷ ns) ms ≡ true → ends_at_holder ns u ≡ true
ends_held ns n ms u e h = ap (λ o. unwrap_or (option_map (ends_at_holder ns) o) true) (sym e) ∙ h

pub room_held : (ns : List (List ℕ)) (n : List ℕ) (ms : List (List ℕ × Tree)) (u : Tree) → get_member ms n ≡ Some u → has_room_in (n ∷ ns) ms ≡ true → has_room_along ns u ≡ true
room_held ns n ms u e h = ap (λ o. unwrap_or (option_map (has_room_along ns) o) (nat_lt (length ms) 4294967295)) (sym e) ∙ h

room_or : (f : Tree → Bool) (ms : List (List ℕ × Tree)) (o : Option Tree) → unwrap_or (option_map f o) (nat_lt (length ms) 4294967295) ≡ true → MatchOption o (FitsOneMore ms) (λ _. Unit {0})
room_or f ms None h = ltb-true (length ms) 4294967295 h
room_or f ms (Some u) h = tt

pub room_if_missing : (ns : List (List ℕ)) (n : List ℕ) (ms : List (List ℕ × Tree)) → has_room_in (n ∷ ns) ms ≡ true → MatchOption (get_member ms n) (FitsOneMore ms) (λ _. Unit {0})
room_if_missing ns n ms h = room_or (has_room_along ns) ms (get_member ms n) h

-- ---- a value by its properties
pub placed_by : (ns : List (List ℕ)) (t v : Tree) (ms : List (List ℕ × Tree)) → 1 ≤ length ns → named_properties t ≡ ms → with_properties t (placed_in ns ms v) ≡ placed ns t v
placed_by [] t v ms h e = absurd (omega arith)
placed_by (n ∷ ns) t v ms h e = ap (λ us. with_properties t (placed_in (n ∷ ns) us v)) (sym e)

-- ---- an Object or Array is one of the two
pub is_neither : (v : Value) → ((x : List Tree) (y : List (List ℕ × Tree)) → v ≡ value.Array x y → ⊥) → ((y : List (List ℕ × Tree)) → v ≡ value.Object y → ⊥) → is_holder (tree_of v) ≡ true → ⊥
is_neither value.Undefined f g e = cc
is_neither value.Null f g e = cc
is_neither (value.Bool b) f g e = cc
is_neither (value.Int n) f g e = cc
is_neither (value.Text s) f g e = cc
is_neither (value.Date d) f g e = cc
is_neither (value.Bytes b) f g e = cc
is_neither (value.Array x y) f g e = f x y refl
is_neither (value.Object y) f g e = g y refl
is_neither (value.Map ps) f g e = cc
is_neither (value.Set ts) f g e = cc
is_neither value.Function f g e = cc
