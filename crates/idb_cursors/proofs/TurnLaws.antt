-- The laws of turns.
--     taken_meets             the member that a turn takes meets what the turn asks
--     never_back              after so many turns it lies beyond the place from which they began
--     in_store                of members that have one key twice
--     greatest_key, first_of_its_key      what prevunique takes
use Rattle.std.proofs.Common.{◌≡◌, ℕ, zero, suc, ◌≤◌, Bool, true, false, if◌then◌else◌, List, Option, Some, None, refl, sym, ap, ◌∙◌}
use Rattle.std.specs.Prelude.{◌&&◌, slice_get}
use Rattle.std.specs.List.{position}
use Rattle.std.specs.Option.{option_and_then}
use Rattle.std.specs.declared.cmp.Ordering.{Ordering}
use Rattle.std.specs.declared.cmp.Ordering.TheVariants.{Less, Equal, Greater}
use Rattle.std.specs.Ordering.{is_eq, is_lt, is_le, ordering_then}
use Rattle.std.proofs.lemmas.Cmp.{tied_itself}
use mathlib.Core.Logic.{inl, inr}
use Rattle.clone_values.specs.KeyTree.{KeyTree}
use Rattle.key_order.specs.KeyOrder.{key_cmp}
use Rattle.key_order.proofs.Laws.{key_cmp_total, key_cmp_same}
use Rattle.idb_keys.specs.declared.names.Direction.{Direction}
use Rattle.idb_keys.specs.declared.names.Direction.TheVariants.{Next, NextUnique, Prev, PrevUnique}
use Rattle.idb_keys.specs.KeyRange.{includes}
use Rattle.index_tables.specs.Rows.{RowTree}
use Rattle.idb_cursors.specs.Cursors.{TurnData, is_forward, is_unique, toward, is_reached, is_passed, meets, last_position, first_of_key, place_by, next_place, turn_from, turns_from, iterated, key_beyond, row_beyond}
use Rattle.idb_cursors.specs.Views.{AreRising}
use Rattle.idb_cursors.proofs.Directions.{key_way, row_way, row_after}
use Rattle.idb_cursors.proofs.Positions.{first_is, first_before, last_is, last_after}
use Rattle.idb_cursors.proofs.Nearest.{apart, nearer, one_row}

both : (a b : Bool) → (a && b) ≡ true → (a ≡ true) × (b ≡ true)
both true b e = (refl, e)
both false b e = cc

equal_from : (o : Ordering) → is_eq o ≡ true → o ≡ Equal
equal_from Less e = cc
equal_from Equal e = refl
equal_from Greater e = cc

less_from : (o : Ordering) → is_lt o ≡ true → o ≡ Less
less_from Less e = refl
less_from Equal e = cc
less_from Greater e = cc

joined : {A B : Type 0} (o : Option A) (f : A → Option B) (y : B) → option_and_then f o ≡ Some y → (x : A) × (o ≡ Some x) × (f x ≡ Some y)
joined None f y e = cc
joined (Some x) f y e = (x, refl, e)

same_member : {A : Type 0} (xs : List A) (i : ℕ) (x y : A) → slice_get xs i ≡ Some x → slice_get xs i ≡ Some y → x ≡ y
same_member xs i x y a b = one_row xs i i x y refl a b

-- ---- in the unique directions a member is told by its key
by_key : (b : Bool) (x y z w : Bool) → b ≡ true → x ≡ z → (if b then x else y) ≡ (if b then z else w)
by_key true x y z w e same = same
by_key false x y z w e same = cc

reached_alike : (d : Direction) (key primary : Option KeyTree) (m n : RowTree) → is_unique d ≡ true → m.0 ≡ n.0 → is_reached d key primary m ≡ is_reached d key primary n
reached_alike d None primary m n u same = refl
reached_alike d (Some k) None m n u same = ap (λ j. is_le (toward d (key_cmp k j))) same
reached_alike d (Some k) (Some r) m n u same = by_key (is_unique d) _ _ _ _ u (ap (λ j. is_le (toward d (key_cmp k j))) same)

passed_alike : (d : Direction) (place : Option RowTree) (m n : RowTree) → is_unique d ≡ true → m.0 ≡ n.0 → is_passed d place m ≡ is_passed d place n
passed_alike d None m n u same = refl
passed_alike d (Some r) m n u same = by_key (is_unique d) _ _ _ _ u (ap (λ j. is_lt (toward d (key_cmp r.0 j))) same)

meets_alike : (turn : TurnData) (m n : RowTree) → is_unique turn.direction ≡ true → m.0 ≡ n.0 → meets turn m ≡ meets turn n
meets_alike turn m n u same =
    ap (λ k. includes turn.range k && (is_reached turn.direction turn.key turn.primary m && is_passed turn.direction turn.place m)) same
    ∙ ap (λ b. includes turn.range n.0 && (b && is_passed turn.direction turn.place m)) (reached_alike turn.direction turn.key turn.primary m n u same)
    ∙ ap (λ b. includes turn.range n.0 && (is_reached turn.direction turn.key turn.primary n && b)) (passed_alike turn.direction turn.place m n u same)

-- ---- what a turn takes
-- prevunique: the last member that meets, and the first of its key
record LastOf (rows : List RowTree) (turn : TurnData) (place : ℕ) : Type 0 where
  last : ℕ
  greatest : RowTree
  ends_there : last_position (meets turn) rows ≡ Some last
  stands : slice_get rows last ≡ Some greatest
  meets_there : meets turn greatest ≡ true
  first : position (λ row. is_eq (key_cmp row.0 greatest.0)) rows ≡ Some place

last_of : (rows : List RowTree) (turn : TurnData) (place : ℕ) → option_and_then (first_of_key rows) (last_position (meets turn) rows) ≡ Some place → LastOf rows turn place
last_of rows turn place e =
    let outer = joined (last_position (meets turn) rows) (first_of_key rows) place e in
    let there = last_is (meets turn) rows outer.0 outer.1 in
    let inner = joined (slice_get rows outer.0) (λ found. position (λ row. is_eq (key_cmp row.0 found.0)) rows) place outer.2 in
    record {
      last = outer.0;
      greatest = inner.0;
      ends_there = outer.1;
      stands = inner.1;
      meets_there = ap (meets turn) (same_member rows outer.0 inner.0 there.0 inner.1 there.1) ∙ there.2;
      first = inner.2;
    }

key_of_first : (rows : List RowTree) (turn : TurnData) (place : ℕ) (member : RowTree) (t : LastOf rows turn place) → slice_get rows place ≡ Some member → member.0 ≡ t.greatest.0
key_of_first rows turn place member t at =
    let here = first_is (λ row. is_eq (key_cmp row.0 t.greatest.0)) rows place t.first in
    ap (λ m. m.0) (same_member rows place member here.0 at here.1) ∙ key_cmp_same here.0.0 t.greatest.0 (equal_from _ here.2)

met_by : (rows : List RowTree) (turn : TurnData) (place : ℕ) (member : RowTree) (d : Direction) → turn.direction ≡ d → place_by d (meets turn) rows ≡ Some place → slice_get rows place ≡ Some member → meets turn member ≡ true
met_by rows turn place member Next is e at = let here = first_is (meets turn) rows place e in ap (meets turn) (same_member rows place member here.0 at here.1) ∙ here.2
met_by rows turn place member NextUnique is e at = let here = first_is (meets turn) rows place e in ap (meets turn) (same_member rows place member here.0 at here.1) ∙ here.2
met_by rows turn place member Prev is e at = let here = last_is (meets turn) rows place e in ap (meets turn) (same_member rows place member here.0 at here.1) ∙ here.2
met_by rows turn place member PrevUnique is e at =
    let t = last_of rows turn place e in
    meets_alike turn member t.greatest (ap is_unique is) (key_of_first rows turn place member t at) ∙ t.meets_there

pub taken_meets : (rows : List RowTree) (turn : TurnData) (place : ℕ) (member : RowTree) → next_place rows turn ≡ Some place → slice_get rows place ≡ Some member → meets turn member ≡ true
taken_meets rows turn place member e at = met_by rows turn place member turn.direction refl e at

-- ---- never back
taken_passed : (rows : List RowTree) (turn : TurnData) (place : ℕ) (member : RowTree) → next_place rows turn ≡ Some place → slice_get rows place ≡ Some member → is_passed turn.direction turn.place member ≡ true
taken_passed rows turn place member e at = (both _ _ (both _ _ (taken_meets rows turn place member e at)).1).1

either_on : (b x y z u v w : Bool) → (x ≡ true → z ≡ true → u ≡ true) → (y ≡ true → v ≡ true → w ≡ true) → (if b then x else y) ≡ true → (if b then z else v) ≡ true → (if b then u else w) ≡ true
either_on true x y z u v w f g p q = f p q
either_on false x y z u v w f g p q = g p q

passed_through : (d : Direction) (place : Option RowTree) (a b : RowTree) → is_passed d place a ≡ true → is_passed d (Some a) b ≡ true → is_passed d place b ≡ true
passed_through d None a b p q = refl
passed_through d (Some r) a b p q =
    either_on (is_unique d) _ _ _ _ _ _
    (λ x y. ap is_lt ((key_way (is_forward d)).trans r.0 a.0 b.0 (less_from _ x) (less_from _ y)))
    (λ x y. ap is_lt ((row_way (is_forward d)).trans r a b (less_from _ x) (less_from _ y))) p q

place_there : (rows : List RowTree) (d : Direction) (place : Option RowTree) (test : RowTree → Bool) (p : ℕ) → place_by d test rows ≡ Some p → (m : RowTree) × (slice_get rows p ≡ Some m)
place_there rows Next place test p e = let here = first_is test rows p e in (here.0, here.1)
place_there rows NextUnique place test p e = let here = first_is test rows p e in (here.0, here.1)
place_there rows Prev place test p e = let here = last_is test rows p e in (here.0, here.1)
place_there rows PrevUnique place test p e =
    let outer = joined (last_position test rows) (first_of_key rows) p e in
    let inner = joined (slice_get rows outer.0) (λ found. position (λ row. is_eq (key_cmp row.0 found.0)) rows) p outer.2 in
    let here = first_is (λ row. is_eq (key_cmp row.0 inner.0.0)) rows p inner.2 in
    (here.0, here.1)

on_from : (rows : List RowTree) (turn : TurnData) (more p q : ℕ) (mp mq : RowTree) → turns_from rows turn more p ≡ Some q → slice_get rows p ≡ Some mp → slice_get rows q ≡ Some mq → is_passed turn.direction turn.place mp ≡ true → is_passed turn.direction turn.place mq ≡ true
on_from rows turn zero p q mp mq e a b passed = let same : p ≡ q = cc in ap (is_passed turn.direction turn.place) (sym (one_row rows p q mp mq same a b)) ∙ passed
on_from rows turn (suc more) p q mp mq e a b passed =
    let step = joined (next_place rows (turn_from rows turn p)) (turns_from rows turn more) q e in
    let there = place_there rows turn.direction None (meets (turn_from rows turn p)) step.0 step.1 in
    let on : is_passed turn.direction (Some mp) there.0 ≡ true = ap (λ o. is_passed turn.direction o there.0) (sym a) ∙ taken_passed rows (turn_from rows turn p) step.0 there.0 step.1 there.1 in
    on_from rows turn more step.0 q there.0 mq step.2 there.1 b (passed_through turn.direction turn.place mp there.0 passed on)

pub never_back : (rows : List RowTree) (turn : TurnData) (more place : ℕ) (member : RowTree) → iterated rows turn more ≡ Some place → slice_get rows place ≡ Some member → is_passed turn.direction turn.place member ≡ true
never_back rows turn more place member e at =
    let first = joined (next_place rows turn) (turns_from rows turn more) place e in
    let there = place_there rows turn.direction None (meets turn) first.0 first.1 in
    on_from rows turn more first.0 place there.0 member first.2 there.1 at (taken_passed rows turn first.0 there.0 first.1 there.1)

-- ---- in a store
then_twice : (o : Ordering) → ordering_then o o ≡ o
then_twice Less = refl
then_twice Equal = refl
then_twice Greater = refl

pub in_store : (d : Direction) (j k : KeyTree) → row_beyond d (j, j) (k, k) ≡ key_beyond d j k
in_store d j k = ap (λ o. is_lt (toward d o)) (then_twice (key_cmp j k))

-- ---- prevunique
last_by : (rows : List RowTree) (turn : TurnData) (place : ℕ) → turn.direction ≡ PrevUnique → next_place rows turn ≡ Some place → LastOf rows turn place
last_by rows turn place is e = last_of rows turn place (sym (ap (λ d. place_by d (meets turn) rows) is) ∙ e)

pub greatest_key : (rows : List RowTree) (turn : TurnData) (place other : ℕ) (member row : RowTree) → AreRising rows → turn.direction ≡ PrevUnique → next_place rows turn ≡ Some place
    → slice_get rows place ≡ Some member → slice_get rows other ≡ Some row → meets turn row ≡ true → is_le (key_cmp row.0 member.0) ≡ true
greatest_key rows turn place other member row rising is e at there met =
    ap (λ k. is_le (key_cmp row.0 k)) (key_of_first rows turn place member t at) ∙ elim (apart t.last other) [
      | inl past ↦ absurd (let fails : meets turn row ≡ false = last_after (meets turn) rows t.last t.ends_there other row past there in cc)
      | inr le ↦ elim (nearer other t.last le) [
        | inl same ↦ ap (λ m. is_le (key_cmp m.0 t.greatest.0)) (one_row rows other t.last row t.greatest same there t.stands) ∙ ap is_le (tied_itself key_cmp_total t.greatest.0)
        | inr lt ↦ row_after true row t.greatest (rising other t.last row t.greatest lt there t.stands)
      ]
    ]
  where
    t : LastOf rows turn place
    t = last_by rows turn place is e

pub first_of_its_key : (rows : List RowTree) (turn : TurnData) (place other : ℕ) (member row : RowTree) → turn.direction ≡ PrevUnique → next_place rows turn ≡ Some place
    → slice_get rows place ≡ Some member → slice_get rows other ≡ Some row → row.0 ≡ member.0 → place ≤ other
first_of_its_key rows turn place other member row is e at there same =
    let t = last_by rows turn place is e in
    elim (apart other place) [
      | inl lt ↦ absurd (
          let fails : is_eq (key_cmp row.0 t.greatest.0) ≡ false = first_before (λ r. is_eq (key_cmp r.0 t.greatest.0)) rows place t.first other row lt there in
          let ties : is_eq (key_cmp row.0 t.greatest.0) ≡ true = ap (λ k. is_eq (key_cmp k t.greatest.0)) (same ∙ key_of_first rows turn place member t at) ∙ ap is_eq (tied_itself key_cmp_total t.greatest.0) in
          cc)
      | inr le ↦ le
    ]
