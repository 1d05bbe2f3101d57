-- The nearest member that meets what a turn asks, from the place where a halving ends.
--     onward, backward        of two members of a list in order, the way of a direction
--     apart, nearer, past, one_row      of places
--     behind_rises            what halving asks
--     meets_parts, far_fails  what a member meets, side by side
--     forward_first, back_last      the first of those that are near, or the last, decides
--     forward_nearest, back_nearest, back_none      the nearest place, from the place where a halving ends
--     first_by                the first member of a key
--     split_here              two members side by side that tell the place
use Rattle.std.proofs.Common.{◌≡◌, ℕ, zero, suc, ◌+◌, ◌<◌, ◌≤◌, Bool, true, false, if◌then◌else◌, List, [], ◌∷◌, length, Option, Some, None, arith, refl, sym, ap, ◌∙◌, subst}
use Rattle.std.specs.Prelude.{not, ◌&&◌, ◌-◌, slice_get, option_map}
use Rattle.std.specs.List.{position}
use Rattle.std.specs.Option.{option_and_then}
use Rattle.std.specs.declared.cmp.Ordering.{Ordering}
use Rattle.std.specs.declared.cmp.Ordering.TheVariants.{Less, Equal, Greater}
use Rattle.std.specs.Ordering.{is_eq, is_le, ordering_reverse}
use Rattle.std.proofs.lemmas.Cmp.{tied_itself}
use Rattle.std.proofs.lemmas.Option.{slice_get_within}
use mathlib.Core.Logic.{◌⊎◌, inl, inr}
use Rattle.clone_values.specs.KeyTree.{KeyTree}
use Rattle.key_order.specs.KeyOrder.{key_cmp}
use Rattle.key_order.proofs.Laws.{key_cmp_total}
use Rattle.idb_keys.specs.declared.names.Direction.TheVariants.{NextUnique}
use Rattle.idb_keys.specs.KeyRange.{Range, every_key}
use Rattle.index_tables.specs.Rows.{RowTree, row_cmp}
use Rattle.index_tables.specs.Orders.{row_cmp_total}
use Rattle.index_tables.specs.Halves.{IsSplitAt, IsSplitBetween, StaysPassed}
use Rattle.sorted_table.proofs.Laws.{unsplit, split_below, split_above}
use Rattle.idb_cursors.specs.Cursors.{TurnData, is_forward, meets, last_position, first_of_key}
use Rattle.idb_cursors.specs.Seeking.{ends, is_near, is_behind, place_within, nearest_place}
use Rattle.idb_cursors.specs.Views.{AreRising}
use Rattle.idb_cursors.proofs.Directions.{by_way, row_after, near_on, ended_before}
use Rattle.idb_cursors.proofs.Positions.{first_found, first_none, last_found, last_none}

-- ---- two members, the way of a direction
pub onward : (forward : Bool) (p q : RowTree) → row_cmp p q ≡ Less → forward ≡ true → by_way forward row_cmp p q ≡ Less
onward true p q less is = less
onward false p q less is = cc

pub backward : (forward : Bool) (p q : RowTree) → row_cmp p q ≡ Less → forward ≡ false → by_way forward row_cmp q p ≡ Less
backward true p q less is = cc
backward false p q less is = sym (row_cmp_total.antisymm p q) ∙ less

behind_on : (forward np nq : Bool) → (forward ≡ true → np ≡ true → nq ≡ true) → (forward ≡ false → nq ≡ true → np ≡ true) → (if forward then np else not np) ≡ true → (if forward then nq else not nq) ≡ true
behind_on true np nq on back e = on refl e
behind_on false np true on back e = let same : np ≡ true = back refl refl in cc
behind_on false np false on back e = refl

pub behind_rises : (rows : List RowTree) (turn : TurnData) → AreRising rows → StaysPassed (is_behind turn) rows
behind_rises rows turn rising = record {
  later = λ i j p q lt a b e. behind_on (is_forward turn.direction) (is_near turn p) (is_near turn q)
      (λ is near. near_on turn p q (onward _ p q (rising i j p q lt a b) is) near)
      (λ is near. near_on turn q p (backward _ p q (rising i j p q lt a b) is) near) e;
}

-- ---- what a member meets
parts_true : (l u r p : Bool) → ((l && u) && (r && p)) ≡ ((p && (r && l)) && u)
parts_true true true true true = refl
parts_true true true true false = refl
parts_true true true false true = refl
parts_true true true false false = refl
parts_true true false true true = refl
parts_true true false true false = refl
parts_true true false false true = refl
parts_true true false false false = refl
parts_true false u true true = refl
parts_true false u true false = refl
parts_true false u false true = refl
parts_true false u false false = refl

swapped : (l u : Bool) → (l && u) ≡ (u && l)
swapped true true = refl
swapped true false = refl
swapped false true = refl
swapped false false = refl

parts_by : (forward l u r p : Bool) → ((l && u) && (r && p)) ≡ ((p && (r && (if forward then l else u))) && (if forward then u else l))
parts_by true l u r p = parts_true l u r p
parts_by false l u r p = ap (λ b. b && (r && p)) (swapped l u) ∙ parts_true u l r p

pub meets_parts : (turn : TurnData) (member : RowTree) → meets turn member ≡ (is_near turn member && ends turn.direction turn.range member.0)
meets_parts turn member = parts_by (is_forward turn.direction) _ _ _ _

pub far_fails : (turn : TurnData) (member : RowTree) → is_near turn member ≡ false → meets turn member ≡ false
far_fails turn member e = meets_parts turn member ∙ ap (λ b. b && ends turn.direction turn.range member.0) e

both : (a b : Bool) → a ≡ true → b ≡ true → (a && b) ≡ true
both a b p q = rw p q

and_false : (a b : Bool) → b ≡ false → (a && b) ≡ false
and_false true b e = e
and_false false b e = refl

false_from : (b : Bool) → (b ≡ true → ⊥) → b ≡ false
false_from true f = absurd (f refl)
false_from false f = refl

pub apart : (i j : ℕ) → (i < j) ⊎ (j ≤ i)
apart i zero = inr (omega arith)
apart zero (suc j) = inl (omega arith)
apart (suc i) (suc j) = elim (apart i j) [ inl lt ↦ inl (omega arith) | inr le ↦ inr (omega arith) ]

pub nearer : (i j : ℕ) → i ≤ j → (i ≡ j) ⊎ (i < j)
nearer zero zero h = inl refl
nearer zero (suc j) h = inr (omega arith)
nearer (suc i) zero h = absurd (omega arith)
nearer (suc i) (suc j) h = elim (nearer i j (omega arith)) [ inl e ↦ inl (ap suc e) | inr lt ↦ inr (omega arith) ]

pub past : {A : Type 0} (xs : List A) (i : ℕ) → slice_get xs i ≡ None → length xs ≤ i
past [] i e = omega arith
past (x ∷ xs) zero e = cc
past (x ∷ xs) (suc i) e = omega (arith, past xs i e)

pub one_row : {A : Type 0} (xs : List A) (i j : ℕ) (x y : A) → i ≡ j → slice_get xs i ≡ Some x → slice_get xs j ≡ Some y → x ≡ y
one_row xs i j x y e a b = let there : slice_get xs j ≡ Some x = ap (λ k. slice_get xs k) (sym e) ∙ a in cc

module _ (rows : List RowTree) (turn : TurnData) (rising : AreRising rows) where
  -- past a member that does not meet the other bound, none does
  fails_past : (p q : RowTree) → by_way (is_forward turn.direction) row_cmp p q ≡ Less → ends turn.direction turn.range p.0 ≡ false → meets turn q ≡ false
  fails_past p q later e = meets_parts turn q ∙ and_false _ _ (false_from _ (λ ended. let there : ends turn.direction turn.range p.0 ≡ true = ended_before turn.direction p q later turn.range ended in cc))

  fails_there : (p q : RowTree) → p ≡ q → ends turn.direction turn.range p.0 ≡ false → meets turn q ≡ false
  fails_there p q same e = meets_parts turn q ∙ and_false _ _ (ap (λ m. ends turn.direction turn.range m.0) (sym same) ∙ e)

  taken : (m : RowTree) → is_near turn m ≡ true → ends turn.direction turn.range m.0 ≡ true → meets turn m ≡ true
  taken m near ended = meets_parts turn m ∙ both _ _ near ended

  -- ---- going the way of the order: the first that is near decides
  module _ (is : is_forward turn.direction ≡ true) (place : ℕ)
      (before : (k : ℕ) (m : RowTree) → k < place → slice_get rows k ≡ Some m → is_near turn m ≡ false)
      (behind : (k : ℕ) (m : RowTree) → place ≤ k → slice_get rows k ≡ Some m → is_near turn m ≡ true) where
    none_past : (row : RowTree) → slice_get rows place ≡ Some row → ends turn.direction turn.range row.0 ≡ false → (k : ℕ) (m : RowTree) → slice_get rows k ≡ Some m → (k < place) ⊎ (place ≤ k) → meets turn m ≡ false
    none_past row at e k m there (inl lt) = far_fails turn m (before k m lt there)
    none_past row at e k m there (inr le) = elim (nearer place k le) [
      | inl same ↦ fails_there row m (one_row rows place k row m same at there) e
      | inr lt ↦ fails_past row m (onward _ row m (rising place k row m lt at there) is) e
    ]

    forward_end : (row : RowTree) → slice_get rows place ≡ Some row → (b : Bool) → ends turn.direction turn.range row.0 ≡ b → (if b then Some place else None) ≡ position (meets turn) rows
    forward_end row at true e = sym (first_found (meets turn) rows place row at (taken row (behind place row (omega arith) at) e) (λ k m lt there. far_fails turn m (before k m lt there)))
    forward_end row at false e = sym (first_none (meets turn) rows (λ k m there. none_past row at e k m there (apart k place)))

    forward_by : (found : Option RowTree) → slice_get rows place ≡ found → option_and_then (λ row. if ends turn.direction turn.range row.0 then Some place else None) found ≡ position (meets turn) rows
    forward_by None at = sym (first_none (meets turn) rows (λ k m there. far_fails turn m (before k m (omega (arith, slice_get_within rows k m there, past rows place at)) there)))
    forward_by (Some row) at = forward_end row at (ends turn.direction turn.range row.0) refl

  -- ---- going the other way: the last that is near decides
  module _ (is : is_forward turn.direction ≡ false) (place : ℕ)
      (before : (k : ℕ) (m : RowTree) → k ≤ place → slice_get rows k ≡ Some m → is_near turn m ≡ true)
      (behind : (k : ℕ) (m : RowTree) → place < k → slice_get rows k ≡ Some m → is_near turn m ≡ false) where
    none_before : (row : RowTree) → slice_get rows place ≡ Some row → ends turn.direction turn.range row.0 ≡ false → (k : ℕ) (m : RowTree) → slice_get rows k ≡ Some m → (place < k) ⊎ (k ≤ place) → meets turn m ≡ false
    none_before row at e k m there (inl lt) = far_fails turn m (behind k m lt there)
    none_before row at e k m there (inr le) = elim (nearer k place le) [
      | inl same ↦ fails_there row m (sym (one_row rows k place m row same there at)) e
      | inr lt ↦ fails_past row m (backward _ m row (rising k place m row lt there at) is) e
    ]

    back_end : (row : RowTree) → slice_get rows place ≡ Some row → (b : Bool) → ends turn.direction turn.range row.0 ≡ b → (if b then Some place else None) ≡ last_position (meets turn) rows
    back_end row at true e = sym (last_found (meets turn) rows place row at (taken row (before place row (omega arith) at) e) (λ k m lt there. far_fails turn m (behind k m lt there)))
    back_end row at false e = sym (last_none (meets turn) rows (λ k m there. none_before row at e k m there (apart place k)))

    back_by : place < length rows → (found : Option RowTree) → slice_get rows place ≡ found → option_and_then (λ row. if ends turn.direction turn.range row.0 then Some place else None) found ≡ last_position (meets turn) rows
    back_by within None at = absurd (omega (arith, within, past rows place at))
    back_by within (Some row) at = back_end row at (ends turn.direction turn.range row.0) refl

  pub forward_first : is_forward turn.direction ≡ true → (place : ℕ) → ((k : ℕ) (m : RowTree) → k < place → slice_get rows k ≡ Some m → is_near turn m ≡ false) → ((k : ℕ) (m : RowTree) → place ≤ k → slice_get rows k ≡ Some m → is_near turn m ≡ true)
      → place_within rows turn place ≡ position (meets turn) rows
  forward_first is place before behind = forward_by is place before behind (slice_get rows place) refl

  pub back_last : is_forward turn.direction ≡ false → (place : ℕ) → ((k : ℕ) (m : RowTree) → k ≤ place → slice_get rows k ≡ Some m → is_near turn m ≡ true) → ((k : ℕ) (m : RowTree) → place < k → slice_get rows k ≡ Some m → is_near turn m ≡ false)
      → place < length rows → place_within rows turn place ≡ last_position (meets turn) rows
  back_last is place before behind within = back_by is place before behind within (slice_get rows place) refl

  -- ---- where a halving ends
  by_forward : is_forward turn.direction ≡ true → position (meets turn) rows ≡ nearest_place rows turn
  by_forward is = ap (λ b. if b then position (meets turn) rows else last_position (meets turn) rows) (sym is)

  by_back : is_forward turn.direction ≡ false → last_position (meets turn) rows ≡ nearest_place rows turn
  by_back is = ap (λ b. if b then position (meets turn) rows else last_position (meets turn) rows) (sym is)

  near_is : is_forward turn.direction ≡ true → (m : RowTree) (b : Bool) → is_behind turn m ≡ b → is_near turn m ≡ b
  near_is is m b e = ap (λ f. if f then is_near turn m else not (is_near turn m)) (sym is) ∙ e

  near_is_not : is_forward turn.direction ≡ false → (m : RowTree) (b : Bool) → is_behind turn m ≡ b → is_near turn m ≡ not b
  near_is_not is m b e = turned _ _ (ap (λ f. if f then is_near turn m else not (is_near turn m)) (sym is) ∙ e)
    where
      turned : (x y : Bool) → not x ≡ y → x ≡ not y
      turned true y e = ap not e
      turned false y e = ap not e

  pub forward_nearest : (place : ℕ) → IsSplitAt (is_behind turn) rows place → is_forward turn.direction ≡ true → place_within rows turn place ≡ nearest_place rows turn
  forward_nearest place s is =
      forward_by is place (λ k m lt at. near_is is m false (s.before k m lt at)) (λ k m le at. near_is is m true (s.behind k m le at)) (slice_get rows place) refl ∙ by_forward is

  pub back_nearest : (place : ℕ) → IsSplitAt (is_behind turn) rows (place + 1) → is_forward turn.direction ≡ false → place_within rows turn place ≡ nearest_place rows turn
  back_nearest place s is =
      back_by is place (λ k m le at. near_is_not is m false (s.before k m (omega arith) at)) (λ k m lt at. near_is_not is m true (s.behind k m (omega arith) at)) (omega (arith, s.within)) (slice_get rows place) refl ∙ by_back is

  pub back_none : IsSplitAt (is_behind turn) rows 0 → is_forward turn.direction ≡ false → None ≡ nearest_place rows turn
  back_none s is = sym (last_none (meets turn) rows (λ k m at. far_fails turn m (near_is_not is m true (s.behind k m (omega arith) at)))) ∙ by_back is

-- ---- the first member of a key
abbrev of_key : KeyTree → TurnData
of_key key = record { direction = NextUnique; range = every_key; place = None; key = Some key; primary = None }

and_true : (b c : Bool) → (b && true) ≡ c → b ≡ c
and_true true c e = e
and_true false c e = e

greater_than : (o : Ordering) → is_le o ≡ false → o ≡ Greater
greater_than Less e = cc
greater_than Equal e = cc
greater_than Greater e = refl

ties : (o : Ordering) → is_le o ≡ true → is_le (ordering_reverse o) ≡ true → is_eq (ordering_reverse o) ≡ true
ties Less a b = cc
ties Equal a b = refl
ties Greater a b = cc

module _ (rows : List RowTree) (rising : AreRising rows) (place : ℕ) (found : RowTree) (at : slice_get rows place ≡ Some found) (first : ℕ) (s : IsSplitAt (is_behind (of_key found.0)) rows first) where
  le_is : (m : RowTree) (b : Bool) → is_behind (of_key found.0) m ≡ b → is_le (key_cmp found.0 m.0) ≡ b
  le_is m b e = and_true _ _ e

  not_past : (place < first) ⊎ (first ≤ place) → first ≤ place
  not_past (inr le) = le
  not_past (inl lt) =
      let itself : is_le (key_cmp found.0 found.0) ≡ true = ap is_le (tied_itself key_cmp_total found.0) in
      let fails : is_le (key_cmp found.0 found.0) ≡ false = le_is found false (s.before place found lt at) in
      cc

  key_before : (m : RowTree) → slice_get rows first ≡ Some m → (first ≡ place) ⊎ (first < place) → is_le (key_cmp m.0 found.0) ≡ true
  key_before m there (inl same) = ap (λ r. is_le (key_cmp r.0 found.0)) (one_row rows first place m found same there at) ∙ ap is_le (tied_itself key_cmp_total found.0)
  key_before m there (inr lt) = row_after true m found (rising first place m found lt there at)

  turned : (m : RowTree) → ordering_reverse (key_cmp found.0 m.0) ≡ key_cmp m.0 found.0
  turned m = sym (key_cmp_total.antisymm m.0 found.0)

  first_ties : (m : RowTree) → slice_get rows first ≡ Some m → is_eq (key_cmp m.0 found.0) ≡ true
  first_ties m there =
      ap is_eq (sym (turned m)) ∙ ties (key_cmp found.0 m.0) (le_is m true (s.behind first m (omega arith) there)) (ap is_le (turned m) ∙ key_before m there (nearer first place (not_past (apart place first))))

  before_fails : (k : ℕ) (m : RowTree) → k < first → slice_get rows k ≡ Some m → is_eq (key_cmp m.0 found.0) ≡ false
  before_fails k m lt there = ap is_eq (sym (turned m) ∙ ap ordering_reverse (greater_than _ (le_is m false (s.before k m lt there))))

  by_row : (o : Option RowTree) → slice_get rows first ≡ o → Some first ≡ position (λ row. is_eq (key_cmp row.0 found.0)) rows
  by_row None there = absurd (omega (arith, slice_get_within rows place found at, past rows first there, not_past (apart place first)))
  by_row (Some m) there = sym (first_found (λ row. is_eq (key_cmp row.0 found.0)) rows first m there (first_ties m there) before_fails)

  pub first_of_key_found : Some first ≡ first_of_key rows place
  first_of_key_found = by_row (slice_get rows first) refl ∙ ap (λ o. option_and_then (λ f. position (λ row. is_eq (key_cmp row.0 f.0)) rows) o) (sym at)

pub first_by : (rows : List RowTree) (place first : ℕ) (found : RowTree) (range : Range) → AreRising rows → range ≡ every_key → slice_get rows place ≡ Some found
    → IsSplitAt (is_behind (record { direction = NextUnique; range = range; place = None; key = Some found.0; primary = None })) rows first → Some first ≡ first_of_key rows place
first_by rows place first found range rising all at s =
    first_of_key_found rows rising place found at first (subst (λ r. IsSplitAt (is_behind (record { direction = NextUnique; range = r; place = None; key = Some found.0; primary = None })) rows first) all s)

-- where one member is before what is sought, and the next one isn't
pub split_here : {A : Type 0} (test : A → Bool) (xs : List A) (place : ℕ) → StaysPassed test xs → 0 < place → place < length xs → (b : Bool) → option_map test (slice_get xs (place - 1)) ≡ Some b → b ≡ false
    → (c : Bool) → option_map test (slice_get xs place) ≡ Some c → c ≡ true → IsSplitAt test xs place
split_here test xs place rises some within b e is c f passes =
    let next : place - 1 + 1 ≡ place = omega (arith, some) in
    let above = split_above test xs 0 (place - 1) (length xs) rises (unsplit test xs (length xs) refl) (omega arith) (omega (arith, some, within)) b e is in
    split_below test xs place place (length xs) rises (subst (λ i. IsSplitBetween test xs i (length xs)) next above) (omega arith) within c f passes
