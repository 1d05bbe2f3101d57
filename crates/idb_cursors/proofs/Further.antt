-- The plain directions take the members one after the other.
--     forward_further, forward_short, back_further, back_short      so many turns from a member that was taken
--     plain_within            where it stands
use Rattle.std.proofs.Common.{◌≡◌, ℕ, zero, suc, ◌+◌, ◌<◌, ◌≤◌, Bool, true, false, if◌then◌else◌, List, length, Option, Some, None, arith, refl, sym, ap, subst, ◌∙◌}
use Rattle.std.specs.Prelude.{◌&&◌, slice_get}
use Rattle.std.specs.Option.{option_and_then}
use Rattle.std.specs.declared.cmp.Ordering.TheVariants.{Less}
use Rattle.std.specs.Ordering.{is_lt, ordering_reverse}
use Rattle.std.proofs.lemmas.Cmp.{tied_itself}
use Rattle.std.proofs.lemmas.Option.{slice_get_within}
use mathlib.Core.Logic.{◌⊎◌, inl, inr}
use Rattle.clone_values.specs.KeyTree.{KeyTree}
use Rattle.idb_keys.specs.declared.names.Direction.{Direction}
use Rattle.idb_keys.specs.declared.names.Direction.TheVariants.{Next, NextUnique, Prev, PrevUnique}
use Rattle.idb_keys.specs.KeyRange.{Range}
use Rattle.index_tables.specs.Rows.{RowTree, row_cmp}
use Rattle.index_tables.specs.Orders.{row_cmp_total}
use Rattle.idb_cursors.specs.Cursors.{TurnData, is_forward, is_unique, is_reached, is_passed, meets, place_by, next_place, turns_from}
use Rattle.idb_cursors.specs.Seeking.{begins, ends, is_near, place_within}
use Rattle.idb_cursors.specs.Views.{AreRising}
use Rattle.idb_cursors.proofs.Directions.{reached_on, begins_on, ended_before}
use Rattle.idb_cursors.proofs.Positions.{first_is, last_is, last_none}
use Rattle.idb_cursors.proofs.Nearest.{nearer, past, one_row, backward, meets_parts, far_fails, forward_first, back_last}

both : (a b : Bool) → (a && b) ≡ true → (a ≡ true) × (b ≡ true)
both true b e = (refl, e)
both false b e = cc

and_true : (a b c : Bool) → a ≡ true → b ≡ true → c ≡ true → (a && (b && c)) ≡ true
and_true a b c p q r = rw (p, q) r

false_from : (b : Bool) → (b ≡ true → ⊥) → b ≡ false
false_from true f = absurd (f refl)
false_from false f = refl

-- a member does not lie beyond one that it is, or that stands behind it
pub not_beyond : (m r : RowTree) → (r ≡ m) ⊎ (row_cmp r m ≡ Less) → is_lt (row_cmp m r) ≡ false
not_beyond m r (inl same) = ap (λ k. is_lt (row_cmp m k)) same ∙ ap is_lt (tied_itself row_cmp_total m)
not_beyond m r (inr less) = ap is_lt (row_cmp_total.antisymm m r ∙ ap ordering_reverse less)

-- a member does not lie beyond one that stands before it, the other way
pub not_back : (m r : RowTree) → (m ≡ r) ⊎ (row_cmp m r ≡ Less) → is_lt (ordering_reverse (row_cmp m r)) ≡ false
not_back m r (inl same) = ap (λ k. is_lt (ordering_reverse (row_cmp m k))) (sym same) ∙ ap (λ o. is_lt (ordering_reverse o)) (tied_itself row_cmp_total m)
not_back m r (inr less) = ap (λ o. is_lt (ordering_reverse o)) less

pub passed_back : (m r : RowTree) → row_cmp r m ≡ Less → is_lt (ordering_reverse (row_cmp m r)) ≡ true
passed_back m r less = ap is_lt (backward false r m less refl)

-- what a turn asked of a member that it took, but for the place
pub record Took (direction : Direction) (range : Range) (key primary : Option KeyTree) (rows : List RowTree) (place : ℕ) : Type 0 where
  pub member : RowTree
  pub stands : slice_get rows place ≡ Some member
  pub reached : is_reached direction key primary member ≡ true
  pub began : begins direction range member.0 ≡ true
  pub ended : ends direction range member.0 ≡ true

took_from : (turn : TurnData) (rows : List RowTree) (place : ℕ) (m : RowTree) → slice_get rows place ≡ Some m → meets turn m ≡ true → Took turn.direction turn.range turn.key turn.primary rows place
took_from turn rows place m at is =
    let parts = both _ _ (sym (meets_parts turn m) ∙ is) in
    let near = both _ _ parts.0 in
    let asked = both _ _ near.1 in
    record { member = m; stands = at; reached = asked.0; began = asked.1; ended = parts.1 }

module _ (rows : List RowTree) (rising : AreRising rows) (range : Range) (key primary : Option KeyTree) where
  same_or_before : (m : RowTree) (p : ℕ) → slice_get rows p ≡ Some m → (k : ℕ) (r : RowTree) → (k ≡ p) ⊎ (k < p) → slice_get rows k ≡ Some r → (r ≡ m) ⊎ (row_cmp r m ≡ Less)
  same_or_before m p there k r (inl same) at = inl (one_row rows k p r m same at there)
  same_or_before m p there k r (inr lt) at = inr (rising k p r m lt at there)

  module _ (direction : Direction) where
    abbrev pub onto : Option RowTree → TurnData
    onto place = record { direction = direction; range = range; place = place; key = key; primary = primary }

    -- the place, where what stands there meets the bound on the other side
    abbrev pub if_ended : ℕ → Option RowTree → Option ℕ
    if_ended q found = option_and_then (λ row. if ends direction range row.0 then Some q else None) found

    ended_there : (q : ℕ) (m : RowTree) → slice_get rows q ≡ Some m → ends direction range m.0 ≡ true → if_ended q (slice_get rows q) ≡ Some q
    ended_there q m at e = rw (at, e) refl

    not_ended : (q : ℕ) (m : RowTree) → slice_get rows q ≡ Some m → ends direction range m.0 ≡ false → if_ended q (slice_get rows q) ≡ None
    not_ended q m at e = rw (at, e) refl

  -- ---- next
  asked_next : (t : Option RowTree) (m : RowTree) → is_passed Next t m ≡ false → is_near (onto Next t) m ≡ false
  asked_next t m e = ap (λ b. b && (is_reached Next key primary m && begins Next range m.0)) e

  step_next : (p : ℕ) → Took Next range key primary rows p → if_ended Next (suc p) (slice_get rows (suc p)) ≡ next_place rows (onto Next (slice_get rows p))
  step_next p t = rw t.stands (forward_first rows (onto Next (Some t.member)) rising refl (suc p)
      (λ k m lt at. asked_next (Some t.member) m (not_beyond t.member m (same_or_before t.member p t.stands k m (nearer k p (omega arith)) at)))
      (λ k m le at. let later : row_cmp t.member m ≡ Less = rising p k t.member m (omega arith) t.stands at in
      and_true _ _ _ (ap is_lt later) (reached_on Next t.member m later key primary t.reached) (begins_on Next t.member m later range t.began)))

  took_next : (p : ℕ) → Took Next range key primary rows p → (m : RowTree) → slice_get rows (suc p) ≡ Some m → ends Next range m.0 ≡ true → Took Next range key primary rows (suc p)
  took_next p t m at e =
      let later : row_cmp t.member m ≡ Less = rising p (suc p) t.member m (omega arith) t.stands at in
      record { member = m; stands = at; reached = reached_on Next t.member m later key primary t.reached; began = begins_on Next t.member m later range t.began; ended = e }

  -- where a member does not meet the bound, none behind it does
  stops : (q r : ℕ) (m : RowTree) → slice_get rows q ≡ Some m → ends Next range m.0 ≡ false → (q ≡ r) ⊎ (q < r) → (found : Option RowTree) → slice_get rows r ≡ found → if_ended Next r found ≡ None
  stops q r m at e way None there = refl
  stops q r m at e (inl same) (Some n) there = ap (λ b. if b then Some r else None) (ap (λ k. ends Next range k.0) (sym (one_row rows q r m n same at there)) ∙ e)
  stops q r m at e (inr lt) (Some n) there = ap (λ b. if b then Some r else None) (false_from _ (λ ended. let back : ends Next range m.0 ≡ true = ended_before Next m n (rising q r m n lt at there) range ended in cc))

  ended_out : (q r : ℕ) → slice_get rows q ≡ None → q ≤ r → (found : Option RowTree) → slice_get rows r ≡ found → if_ended Next r found ≡ None
  ended_out q r none le None there = refl
  ended_out q r none le (Some n) there = absurd (omega (arith, slice_get_within rows r n there, past rows q none, le))

  pub further_forward : (turn : Option RowTree) (more p : ℕ) → Took Next range key primary rows p → if_ended Next (p + more) (slice_get rows (p + more)) ≡ turns_from rows (onto Next turn) more p
  further_forward turn zero p t = let same : p + zero ≡ p = omega arith in rw same (ended_there Next p t.member t.stands t.ended)
  further_forward turn (suc more) p t = by_next (further_forward turn more (suc p)) (slice_get rows (suc p)) refl
    where
      by_end : (Took Next range key primary rows (suc p) → if_ended Next (suc p + more) (slice_get rows (suc p + more)) ≡ turns_from rows (onto Next turn) more (suc p)) → (m : RowTree) → slice_get rows (suc p) ≡ Some m → (b : Bool) → ends Next range m.0 ≡ b
          → if_ended Next (p + suc more) (slice_get rows (p + suc more)) ≡ option_and_then (turns_from rows (onto Next turn) more) (next_place rows (onto Next (slice_get rows p)))
      by_end again m at true e =
          let one : p + suc more ≡ suc p + more = omega arith in
          rw (← step_next p t, ended_there Next (suc p) m at e, one) (again (took_next p t m at e))
      by_end again m at false e =
          rw (← step_next p t, not_ended Next (suc p) m at e) (stops (suc p) (p + suc more) m at e (nearer (suc p) (p + suc more) (omega arith)) (slice_get rows (p + suc more)) refl)

      by_next : (Took Next range key primary rows (suc p) → if_ended Next (suc p + more) (slice_get rows (suc p + more)) ≡ turns_from rows (onto Next turn) more (suc p)) → (found : Option RowTree) → slice_get rows (suc p) ≡ found
          → if_ended Next (p + suc more) (slice_get rows (p + suc more)) ≡ option_and_then (turns_from rows (onto Next turn) more) (next_place rows (onto Next (slice_get rows p)))
      by_next again None at = rw (← step_next p t, at) (ended_out (suc p) (p + suc more) at (omega arith) (slice_get rows (p + suc more)) refl)
      by_next again (Some m) at = by_end again m at (ends Next range m.0) refl

  -- ---- prev
  asked_prev : (t : Option RowTree) (m : RowTree) → is_passed Prev t m ≡ false → is_near (onto Prev t) m ≡ false
  asked_prev t m e = ap (λ b. b && (is_reached Prev key primary m && begins Prev range m.0)) e

  near_prev : (p : ℕ) (t : Took Prev range key primary rows p) (k : ℕ) (m : RowTree) → k < p → slice_get rows k ≡ Some m → is_near (onto Prev (Some t.member)) m ≡ true
  near_prev p t k m lt at =
      let later = backward false m t.member (rising k p m t.member lt at t.stands) refl in
      and_true _ _ _ (ap is_lt later) (reached_on Prev t.member m later key primary t.reached) (begins_on Prev t.member m later range t.began)

  far_prev : (p : ℕ) (t : Took Prev range key primary rows p) (k : ℕ) (m : RowTree) → p ≤ k → slice_get rows k ≡ Some m → is_near (onto Prev (Some t.member)) m ≡ false
  far_prev p t k m le at = asked_prev (Some t.member) m (not_back t.member m (elim (nearer p k le) [ inl same ↦ inl (one_row rows p k t.member m same t.stands at) | inr lt ↦ inr (rising p k t.member m lt t.stands at) ]))

  step_prev : (p : ℕ) → Took Prev range key primary rows (suc p) → if_ended Prev p (slice_get rows p) ≡ next_place rows (onto Prev (slice_get rows (suc p)))
  step_prev p t = rw t.stands (back_last rows (onto Prev (Some t.member)) rising refl p
      (λ k m le at. near_prev (suc p) t k m (omega arith) at)
      (λ k m lt at. far_prev (suc p) t k m (omega arith) at)
      (omega (arith, slice_get_within rows (suc p) t.member t.stands)))

  step_front : Took Prev range key primary rows 0 → None ≡ next_place rows (onto Prev (slice_get rows 0))
  step_front t = rw t.stands (sym (last_none (meets (onto Prev (Some t.member))) rows (λ k m at. far_fails (onto Prev (Some t.member)) m (far_prev 0 t k m (omega arith) at))))

  took_prev : (p : ℕ) → Took Prev range key primary rows (suc p) → (m : RowTree) → slice_get rows p ≡ Some m → ends Prev range m.0 ≡ true → Took Prev range key primary rows p
  took_prev p t m at e =
      let later = backward false m t.member (rising p (suc p) m t.member (omega arith) at t.stands) refl in
      record { member = m; stands = at; reached = reached_on Prev t.member m later key primary t.reached; began = begins_on Prev t.member m later range t.began; ended = e }

  stops_back : (q r : ℕ) (m : RowTree) → slice_get rows q ≡ Some m → ends Prev range m.0 ≡ false → (r ≡ q) ⊎ (r < q) → (found : Option RowTree) → slice_get rows r ≡ found → if_ended Prev r found ≡ None
  stops_back q r m at e way None there = refl
  stops_back q r m at e (inl same) (Some n) there = ap (λ b. if b then Some r else None) (ap (λ k. ends Prev range k.0) (one_row rows r q n m same there at) ∙ e)
  stops_back q r m at e (inr lt) (Some n) there = ap (λ b. if b then Some r else None) (false_from _ (λ ended. let back : ends Prev range m.0 ≡ true = ended_before Prev m n (backward false n m (rising r q n m lt there at) refl) range ended in cc))

  out_back : (q r : ℕ) → slice_get rows q ≡ None → q < length rows → (found : Option RowTree) → if_ended Prev r found ≡ None
  out_back q r none lt found = absurd (omega (arith, past rows q none, lt))

  pub further_back : (turn : Option RowTree) (more last p : ℕ) → last + more ≡ p → Took Prev range key primary rows p → if_ended Prev last (slice_get rows last) ≡ turns_from rows (onto Prev turn) more p
  further_back turn zero last p sum t =
      let same : last ≡ p = omega (arith, sum) in
      rw same (ended_there Prev p t.member t.stands t.ended)
  further_back turn (suc more) last zero sum t = absurd (omega (arith, sum))
  further_back turn (suc more) last (suc p) sum t = by_next (further_back turn more last p (omega (arith, sum))) (slice_get rows p) refl
    where
      by_end : (Took Prev range key primary rows p → if_ended Prev last (slice_get rows last) ≡ turns_from rows (onto Prev turn) more p) → (m : RowTree) → slice_get rows p ≡ Some m → (b : Bool) → ends Prev range m.0 ≡ b
          → if_ended Prev last (slice_get rows last) ≡ option_and_then (turns_from rows (onto Prev turn) more) (next_place rows (onto Prev (slice_get rows (suc p))))
      by_end again m at true e = rw (← step_prev p t, ended_there Prev p m at e) (again (took_prev p t m at e))
      by_end again m at false e = rw (← step_prev p t, not_ended Prev p m at e) (stops_back p last m at e (nearer last p (omega (arith, sum))) (slice_get rows last) refl)

      by_next : (Took Prev range key primary rows p → if_ended Prev last (slice_get rows last) ≡ turns_from rows (onto Prev turn) more p) → (found : Option RowTree) → slice_get rows p ≡ found
          → if_ended Prev last (slice_get rows last) ≡ option_and_then (turns_from rows (onto Prev turn) more) (next_place rows (onto Prev (slice_get rows (suc p))))
      by_next again None at = rw (← step_prev p t, at) (out_back p last at (omega (arith, slice_get_within rows (suc p) t.member t.stands)) (slice_get rows last))
      by_next again (Some m) at = by_end again m at (ends Prev range m.0) refl

  pub further_short : (turn : Option RowTree) (more p : ℕ) → p < more → Took Prev range key primary rows p → None ≡ turns_from rows (onto Prev turn) more p
  further_short turn zero p lt t = absurd (omega (arith, lt))
  further_short turn (suc more) zero lt t = rw (← step_front t) refl
  further_short turn (suc more) (suc p) lt t = by_next (further_short turn more p (omega (arith, lt))) (slice_get rows p) refl
    where
      by_end : (Took Prev range key primary rows p → None ≡ turns_from rows (onto Prev turn) more p) → (m : RowTree) → slice_get rows p ≡ Some m → (b : Bool) → ends Prev range m.0 ≡ b → None ≡ option_and_then (turns_from rows (onto Prev turn) more) (next_place rows (onto Prev (slice_get rows (suc p))))
      by_end again m at true e = rw (← step_prev p t, ended_there Prev p m at e) (again (took_prev p t m at e))
      by_end again m at false e = rw (← step_prev p t, not_ended Prev p m at e) refl

      by_next : (Took Prev range key primary rows p → None ≡ turns_from rows (onto Prev turn) more p) → (found : Option RowTree) → slice_get rows p ≡ found → None ≡ option_and_then (turns_from rows (onto Prev turn) more) (next_place rows (onto Prev (slice_get rows (suc p))))
      by_next again None at = rw (← step_prev p t, at) refl
      by_next again (Some m) at = by_end again m at (ends Prev range m.0) refl

-- ---- by the direction of the turn
plain_next : (d : Direction) → is_forward d ≡ true → is_unique d ≡ false → d ≡ Next
plain_next Next f u = refl
plain_next NextUnique f u = cc
plain_next Prev f u = cc
plain_next PrevUnique f u = cc

plain_prev : (d : Direction) → is_forward d ≡ false → is_unique d ≡ false → d ≡ Prev
plain_prev Next f u = cc
plain_prev NextUnique f u = cc
plain_prev Prev f u = refl
plain_prev PrevUnique f u = cc

module _ (rows : List RowTree) (rising : AreRising rows) where
  next_took : (turn : TurnData) (p : ℕ) → turn.direction ≡ Next → next_place rows turn ≡ Some p → Took Next turn.range turn.key turn.primary rows p
  next_took turn p is e =
      let there = first_is (meets turn) rows p (sym (ap (λ d. place_by d (meets turn) rows) is) ∙ e) in
      subst (λ d. Took d turn.range turn.key turn.primary rows p) is (took_from turn rows p there.0 there.1 there.2)

  prev_took : (turn : TurnData) (p : ℕ) → turn.direction ≡ Prev → next_place rows turn ≡ Some p → Took Prev turn.range turn.key turn.primary rows p
  prev_took turn p is e =
      let there = last_is (meets turn) rows p (sym (ap (λ d. place_by d (meets turn) rows) is) ∙ e) in
      subst (λ d. Took d turn.range turn.key turn.primary rows p) is (took_from turn rows p there.0 there.1 there.2)

  abbrev aimed : TurnData → Direction → TurnData
  aimed turn d = record turn { direction = d }

  pub forward_further : (turn : TurnData) (more p : ℕ) → is_forward turn.direction ≡ true → is_unique turn.direction ≡ false → next_place rows turn ≡ Some p → place_within rows turn (p + more) ≡ turns_from rows turn more p
  forward_further turn more p f u e =
      let is = plain_next turn.direction f u in
      subst (λ d. place_within rows (aimed turn d) (p + more) ≡ turns_from rows (aimed turn d) more p) (sym is)
      (further_forward rows rising turn.range turn.key turn.primary turn.place more p (next_took turn p is e))

  pub back_further : (turn : TurnData) (more last p : ℕ) → last + more ≡ p → is_forward turn.direction ≡ false → is_unique turn.direction ≡ false → next_place rows turn ≡ Some p → place_within rows turn last ≡ turns_from rows turn more p
  back_further turn more last p sum f u e =
      let is = plain_prev turn.direction f u in
      subst (λ d. place_within rows (aimed turn d) last ≡ turns_from rows (aimed turn d) more p) (sym is)
      (further_back rows rising turn.range turn.key turn.primary turn.place more last p sum (prev_took turn p is e))

  pub back_short : (turn : TurnData) (more p : ℕ) → p < more → is_forward turn.direction ≡ false → is_unique turn.direction ≡ false → next_place rows turn ≡ Some p → None ≡ turns_from rows turn more p
  back_short turn more p lt f u e =
      let is = plain_prev turn.direction f u in
      subst (λ d. None ≡ turns_from rows (aimed turn d) more p) (sym is) (further_short rows rising turn.range turn.key turn.primary turn.place more p lt (prev_took turn p is e))

  past_all : (turn : TurnData) (q : ℕ) → length rows ≤ q → (found : Option RowTree) → slice_get rows q ≡ found → None ≡ option_and_then (λ row. if ends turn.direction turn.range row.0 then Some q else None) found
  past_all turn q le None at = refl
  past_all turn q le (Some m) at = absurd (omega (arith, le, slice_get_within rows q m at))

  -- the members behind are fewer
  pub forward_short : (turn : TurnData) (more p : ℕ) → length rows ≤ p + more → is_forward turn.direction ≡ true → is_unique turn.direction ≡ false → next_place rows turn ≡ Some p → None ≡ turns_from rows turn more p
  forward_short turn more p le f u e = past_all turn (p + more) le (slice_get rows (p + more)) refl ∙ forward_further turn more p f u e

  pub plain_within : (turn : TurnData) (p : ℕ) → is_unique turn.direction ≡ false → next_place rows turn ≡ Some p → p < length rows
  plain_within turn p u e = by_way (is_forward turn.direction) refl
    where
      by_way : (b : Bool) → is_forward turn.direction ≡ b → p < length rows
      by_way true f = let t = next_took turn p (plain_next turn.direction f u) e in slice_get_within rows p t.member t.stands
      by_way false f = let t = prev_took turn p (plain_prev turn.direction f u) e in slice_get_within rows p t.member t.stands
