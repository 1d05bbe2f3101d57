-- What a fresh cursor visits over members that do not change.
--     visits_next, visits_next_unique, visits_prev, visits_prev_unique
use Rattle.std.proofs.Common.{◌≡◌, ℕ, zero, suc, ◌+◌, ◌-◌, ◌<◌, ◌≤◌, Bool, true, false, if◌then◌else◌, List, [], ◌∷◌, ◌++◌, length, take, drop, filter, Option, Some, None, arith, refl, sym, ap, ◌∙◌}
use Rattle.std.specs.Prelude.{◌&&◌, slice_get, reverse}
use Rattle.std.specs.List.{AllByRecursion}
use Rattle.std.specs.Option.{option_and_then}
use Rattle.std.specs.declared.cmp.Ordering.{Ordering}
use Rattle.std.specs.declared.cmp.Ordering.TheVariants.{Less, Equal, Greater}
use Rattle.std.specs.Ordering.{is_eq, is_lt, is_le, ordering_reverse}
use Rattle.std.proofs.lemmas.Cmp.{tied_itself}
use Rattle.std.proofs.lemmas.List.{reverse-append}
use Rattle.std.proofs.lemmas.List.Elements.{filter-append}
use Rattle.std.proofs.lemmas.Option.{slice_get_within}
use mathlib.Core.Logic.{◌⊎◌, inl, inr}
use Rattle.clone_values.specs.KeyTree.{KeyTree}
use Rattle.key_order.specs.KeyOrder.{key_cmp}
use Rattle.key_order.proofs.Laws.{key_cmp_total, key_cmp_same}
use Rattle.idb_keys.specs.declared.names.Direction.{Direction}
use Rattle.idb_keys.specs.declared.names.Direction.TheVariants.{Next, NextUnique, Prev, PrevUnique}
use Rattle.idb_keys.specs.KeyRange.{Range, includes}
use Rattle.index_tables.specs.Rows.{RowTree, row_cmp}
use Rattle.idb_cursors.specs.Cursors.{TurnData, is_passed, meets, last_position, first_of_key, next_place}
use Rattle.idb_cursors.specs.Views.{AreRising}
use Rattle.idb_cursors.specs.Visits.{visits, visited, rows_in_range, firsts_after, firsts_of_keys}
use Rattle.idb_cursors.proofs.Directions.{row_after}
use Rattle.idb_cursors.proofs.Positions.{first_found, first_none, last_found, last_none}
use Rattle.idb_cursors.proofs.Nearest.{nearer, one_row}
use Rattle.idb_cursors.proofs.Further.{not_beyond, not_back, passed_back}

-- ---- lists
stands : {A : Type 0} (xs : List A) (k : ℕ) → k < length xs → (x : A) × (slice_get xs k ≡ Some x)
stands [] k lt = absurd (omega (arith, lt))
stands (x ∷ xs) zero lt = (x, refl)
stands (x ∷ xs) (suc k) lt = stands xs k (omega (arith, lt))

drop_at : {A : Type 0} (xs : List A) (k : ℕ) (x : A) → slice_get xs k ≡ Some x → drop k xs ≡ x ∷ drop (suc k) xs
drop_at [] k x at = cc
drop_at (y ∷ ys) zero x at = let same : y ≡ x = cc in ap (λ z. z ∷ ys) same
drop_at (y ∷ ys) (suc k) x at = drop_at ys k x at

drop_all : {A : Type 0} (xs : List A) (k : ℕ) → length xs ≤ k → drop k xs ≡ []
drop_all [] zero le = refl
drop_all [] (suc k) le = refl
drop_all (x ∷ xs) zero le = absurd (omega (arith, le))
drop_all (x ∷ xs) (suc k) le = drop_all xs k (omega (arith, le))

take_at : {A : Type 0} (xs : List A) (k : ℕ) (x : A) → slice_get xs k ≡ Some x → take (suc k) xs ≡ take k xs ++ x ∷ []
take_at [] k x at = cc
take_at (y ∷ ys) zero x at = let same : y ≡ x = cc in ap (λ z. z ∷ []) same
take_at (y ∷ ys) (suc k) x at = ap (λ r. y ∷ r) (take_at ys k x at)

take_whole : {A : Type 0} (xs : List A) → take (length xs) xs ≡ xs
take_whole [] = refl
take_whole (x ∷ xs) = ap (λ r. x ∷ r) (take_whole xs)

append_nil : {A : Type 0} (xs : List A) → xs ++ [] ≡ xs
append_nil [] = refl
append_nil (x ∷ xs) = ap (λ r. x ∷ r) (append_nil xs)

append_two : {A : Type 0} (xs : List A) (z y : A) → (xs ++ z ∷ []) ++ y ∷ [] ≡ xs ++ z ∷ y ∷ []
append_two [] z y = refl
append_two (x ∷ xs) z y = ap (λ r. x ∷ r) (append_two xs z y)

and_true : (a b c : Bool) → a ≡ true → b ≡ true → c ≡ true → (a && (b && c)) ≡ true
and_true a b c p q r = rw (p, q) r

-- ---- one visit
module _ (rows : List RowTree) (turn : TurnData) where
  takes : (more p : ℕ) (m : RowTree) → next_place rows turn ≡ Some p → slice_get rows p ≡ Some m → visits (suc more) rows turn ≡ m ∷ visits more rows (record turn { place = Some m })
  takes more p m e at = rw (e, at) refl

  stops : (n : ℕ) → next_place rows turn ≡ None → visits n rows turn ≡ []
  stops zero e = refl
  stops (suc more) e = rw e refl

-- ---- orders
less_from : (o : Ordering) → is_lt o ≡ true → o ≡ Less
less_from Less e = refl
less_from Equal e = cc
less_from Greater e = cc

equal_from : (o : Ordering) → is_eq o ≡ true → o ≡ Equal
equal_from Less e = cc
equal_from Equal e = refl
equal_from Greater e = cc

ties_from : (o : Ordering) → is_le o ≡ true → is_lt o ≡ false → is_eq o ≡ true
ties_from Less a b = cc
ties_from Equal a b = refl
ties_from Greater a b = cc

less_than : (o : Ordering) → is_le o ≡ true → is_eq o ≡ false → o ≡ Less
less_than Less a b = refl
less_than Equal a b = cc
less_than Greater a b = cc

not_lt : (o : Ordering) → is_le o ≡ true → is_lt (ordering_reverse o) ≡ false
not_lt Less e = refl
not_lt Equal e = refl
not_lt Greater e = cc

ties_both : (o : Ordering) → is_le o ≡ true → is_le (ordering_reverse o) ≡ true → o ≡ Equal
ties_both Less a b = cc
ties_both Equal a b = refl
ties_both Greater a b = cc

key_turned : (j k : KeyTree) → ordering_reverse (key_cmp j k) ≡ key_cmp k j
key_turned j k = sym (key_cmp_total.antisymm k j)

-- ---- the firsts of the keys of a list that gets one member more
abbrev Fresh : KeyTree → List RowTree → Type 0
Fresh key xs = AllByRecursion (λ x. is_eq (key_cmp x.0 key) ≡ false) xs

after_new : (k : KeyTree) (xs : List RowTree) (y : RowTree) → is_eq (key_cmp k y.0) ≡ false → Fresh y.0 xs → firsts_after k (xs ++ y ∷ []) ≡ firsts_after k xs ++ y ∷ []
after_new k [] y new fresh = rw new refl
after_new k (x ∷ xs) y new fresh =
    elim (is_eq (key_cmp k x.0)) as (λ b. (if b then firsts_after k (xs ++ y ∷ []) else x ∷ firsts_after x.0 (xs ++ y ∷ [])) ≡ (if b then firsts_after k xs else x ∷ firsts_after x.0 xs) ++ y ∷ [])
    [ true ↦ after_new k xs y new fresh.1 | false ↦ ap (λ r. x ∷ r) (after_new x.0 xs y fresh.0 fresh.1) ]

push_new : (xs : List RowTree) (y : RowTree) → Fresh y.0 xs → firsts_of_keys (xs ++ y ∷ []) ≡ firsts_of_keys xs ++ y ∷ []
push_new [] y fresh = refl
push_new (x ∷ xs) y fresh = ap (λ r. x ∷ r) (after_new x.0 xs y fresh.0 fresh.1)

last_old : (k : KeyTree) (z y : RowTree) (b : Bool) → is_eq (key_cmp k z.0) ≡ b → z.0 ≡ y.0 → (if b then firsts_after k (y ∷ []) else z ∷ firsts_after z.0 (y ∷ [])) ≡ (if b then [] else z ∷ [])
last_old k z y true e same = rw (ap (λ j. is_eq (key_cmp k j)) (sym same) ∙ e) refl
last_old k z y false e same = rw (ap (λ j. is_eq (key_cmp z.0 j)) (sym same) ∙ ap is_eq (tied_itself key_cmp_total z.0)) refl

after_old : (k : KeyTree) (xs : List RowTree) (z y : RowTree) → z.0 ≡ y.0 → firsts_after k (xs ++ z ∷ y ∷ []) ≡ firsts_after k (xs ++ z ∷ [])
after_old k [] z y same = last_old k z y (is_eq (key_cmp k z.0)) refl same
after_old k (x ∷ xs) z y same =
    elim (is_eq (key_cmp k x.0)) as (λ b. (if b then firsts_after k (xs ++ z ∷ y ∷ []) else x ∷ firsts_after x.0 (xs ++ z ∷ y ∷ [])) ≡ (if b then firsts_after k (xs ++ z ∷ []) else x ∷ firsts_after x.0 (xs ++ z ∷ [])))
    [ true ↦ after_old k xs z y same | false ↦ ap (λ r. x ∷ r) (after_old x.0 xs z y same) ]

push_old : (xs : List RowTree) (z y : RowTree) → z.0 ≡ y.0 → firsts_of_keys (xs ++ z ∷ y ∷ []) ≡ firsts_of_keys (xs ++ z ∷ [])
push_old [] z y same = rw (ap (λ j. is_eq (key_cmp z.0 j)) (sym same) ∙ ap is_eq (tied_itself key_cmp_total z.0)) refl
push_old (x ∷ xs) z y same = ap (λ r. x ∷ r) (after_old x.0 xs z y same)

all_take : {A : Type 0} (P : A → Type 0) (xs : List A) (k : ℕ) → ((i : ℕ) (x : A) → i < k → slice_get xs i ≡ Some x → P x) → AllByRecursion P (take k xs)
all_take P [] zero each = tt
all_take P [] (suc k) each = tt
all_take P (x ∷ xs) zero each = tt
all_take P (x ∷ xs) (suc k) each = (each 0 x (omega arith) refl, all_take P xs k (λ i y lt at. each (suc i) y (omega (arith, lt)) at))

filter_by : {A : Type 0} (P : A → Type 0) (test : A → Bool) (x : A) (xs : List A) (b : Bool) → test x ≡ b → P x → AllByRecursion P (filter test xs) → AllByRecursion P (filter test (x ∷ xs))
filter_by P test x xs true e here all = rw e (here, all)
filter_by P test x xs false e here all = rw e all

all_filter : {A : Type 0} (P : A → Type 0) (test : A → Bool) (xs : List A) → AllByRecursion P xs → AllByRecursion P (filter test xs)
all_filter P test [] all = tt
all_filter P test (x ∷ xs) all = filter_by P test x xs (test x) refl all.0 (all_filter P test xs all.1)

reverse_push : (xs : List RowTree) (m : RowTree) → reverse (xs ++ m ∷ []) ≡ m ∷ reverse xs
reverse_push xs m = reverse-append xs (m ∷ [])

-- the first member that passes a test, where one up to a place does
record FirstPassing {A : Type 0} (test : A → Bool) (xs : List A) (k : ℕ) : Type 0 where
  place : ℕ
  member : A
  within : place ≤ k
  stands : slice_get xs place ≡ Some member
  passes : test member ≡ true
  before : (i : ℕ) (z : A) → i < place → slice_get xs i ≡ Some z → test z ≡ false

fails_from : {A : Type 0} (test : A → Bool) (y : A) (ys : List A) (k : ℕ) → test y ≡ false → ((i : ℕ) (z : A) → i < k → slice_get ys i ≡ Some z → test z ≡ false) → (i : ℕ) (z : A) → i < suc k → slice_get (y ∷ ys) i ≡ Some z → test z ≡ false
fails_from test y ys k e fails zero z lt at = let same : y ≡ z = cc in ap test (sym same) ∙ e
fails_from test y ys k e fails (suc i) z lt at = fails i z (omega (arith, lt)) at

first_by_test : {A : Type 0} (test : A → Bool) (y : A) (ys : List A) (k : ℕ) → FirstPassing test ys k → (b : Bool) → test y ≡ b → FirstPassing test (y ∷ ys) (suc k)
first_by_test test y ys k later true e = record { place = 0; member = y; within = omega arith; stands = refl; passes = e; before = λ i z lt at. absurd (omega (arith, lt)) }
first_by_test test y ys k later false e =
    record { place = suc later.place; member = later.member; within = omega (arith, later.within); stands = later.stands; passes = later.passes; before = fails_from test y ys later.place e later.before }

first_exists : {A : Type 0} (test : A → Bool) (xs : List A) (k : ℕ) (x : A) → slice_get xs k ≡ Some x → test x ≡ true → FirstPassing test xs k
first_exists test [] k x at is = absurd (cc)
first_exists test (y ∷ ys) zero x at is = let same : y ≡ x = cc in record { place = 0; member = y; within = omega arith; stands = refl; passes = ap test same ∙ is; before = λ i z lt there. absurd (omega (arith, lt)) }
first_exists test (y ∷ ys) (suc k) x at is = first_by_test test y ys k (first_exists test ys k x at is) (test y) refl

module _ (rows : List RowTree) (rising : AreRising rows) (range : Range) where
  abbrev going : Direction → Option RowTree → TurnData
  going direction place = record { direction = direction; range = range; place = place; key = None; primary = None }

  out_of_range : (d : Direction) (place : Option RowTree) (r : RowTree) → includes range r.0 ≡ false → meets (going d place) r ≡ false
  out_of_range d place r e = ap (λ b. b && (true && is_passed d place r)) e

  not_passed : (d : Direction) (place : Option RowTree) (r : RowTree) → is_passed d place r ≡ false → meets (going d place) r ≡ false
  not_passed d place r e = and_false _ _ e
    where
      and_false : (a c : Bool) → c ≡ false → (a && (true && c)) ≡ false
      and_false true c e = e
      and_false false c e = refl

  meets_both : (d : Direction) (place : Option RowTree) (r : RowTree) → includes range r.0 ≡ true → is_passed d place r ≡ true → meets (going d place) r ≡ true
  meets_both d place r a b = and_true _ _ _ a refl b

  -- members in order
  before_or_there : (k : ℕ) (m : RowTree) → slice_get rows k ≡ Some m → (i : ℕ) (r : RowTree) → i ≤ k → slice_get rows i ≡ Some r → (r ≡ m) ⊎ (row_cmp r m ≡ Less)
  before_or_there k m at i r le there = elim (nearer i k le) [ inl same ↦ inl (one_row rows i k r m same there at) | inr lt ↦ inr (rising i k r m lt there at) ]

  key_le : (r m : RowTree) → (r ≡ m) ⊎ (row_cmp r m ≡ Less) → is_le (key_cmp r.0 m.0) ≡ true
  key_le r m (inl same) = ap (λ x. is_le (key_cmp x.0 m.0)) same ∙ ap is_le (tied_itself key_cmp_total m.0)
  key_le r m (inr less) = row_after true r m less

  -- what was known before a member that fails is known behind it
  one_more : (turn : TurnData) (k : ℕ) (m : RowTree) → slice_get rows k ≡ Some m → ((i : ℕ) (r : RowTree) → i < k → slice_get rows i ≡ Some r → meets turn r ≡ false) → meets turn m ≡ false
      → (i : ℕ) (r : RowTree) → i < suc k → slice_get rows i ≡ Some r → meets turn r ≡ false
  one_more turn k m at before fails i r lt there = elim (nearer i k (omega (arith, lt))) [
    | inl same ↦ ap (meets turn) (one_row rows i k r m same there at) ∙ fails
    | inr less ↦ before i r less there
  ]

  one_less : (turn : TurnData) (k : ℕ) (m : RowTree) → slice_get rows k ≡ Some m → ((i : ℕ) (r : RowTree) → k < i → slice_get rows i ≡ Some r → meets turn r ≡ false) → meets turn m ≡ false
      → (i : ℕ) (r : RowTree) → k ≤ i → slice_get rows i ≡ Some r → meets turn r ≡ false
  one_less turn k m at after fails i r le there = elim (nearer k i le) [
    | inl same ↦ ap (meets turn) (sym (one_row rows k i m r same at there)) ∙ fails
    | inr less ↦ after i r less there
  ]

  taken_list : (k : ℕ) (m : RowTree) → slice_get rows k ≡ Some m → includes range m.0 ≡ true → rows_in_range range (drop k rows) ≡ m ∷ rows_in_range range (drop (suc k) rows)
  taken_list k m at e = rw (drop_at rows k m at, e) refl

  left_out : (k : ℕ) (m : RowTree) → slice_get rows k ≡ Some m → includes range m.0 ≡ false → rows_in_range range (drop k rows) ≡ rows_in_range range (drop (suc k) rows)
  left_out k m at e = rw (drop_at rows k m at, e) refl

  taken_front : (k : ℕ) (m : RowTree) → slice_get rows k ≡ Some m → includes range m.0 ≡ true → rows_in_range range (take (suc k) rows) ≡ rows_in_range range (take k rows) ++ m ∷ []
  taken_front k m at e = ap (rows_in_range range) (take_at rows k m at) ∙ filter-append (λ r. includes range r.0) (take k rows) (m ∷ []) ∙ rw e refl

  left_front : (k : ℕ) (m : RowTree) → slice_get rows k ≡ Some m → includes range m.0 ≡ false → rows_in_range range (take (suc k) rows) ≡ rows_in_range range (take k rows)
  left_front k m at e = ap (rows_in_range range) (take_at rows k m at) ∙ filter-append (λ r. includes range r.0) (take k rows) (m ∷ []) ∙ rw e (append_nil (rows_in_range range (take k rows)))

  -- ---- next
  abbrev NextGoes : ℕ → ℕ → Type 0
  NextGoes left k = (n : ℕ) (place : Option RowTree) → left ≤ n
      → ((i : ℕ) (r : RowTree) → i < k → slice_get rows i ≡ Some r → meets (going Next place) r ≡ false)
      → ((i : ℕ) (r : RowTree) → k ≤ i → slice_get rows i ≡ Some r → is_passed Next place r ≡ true)
      → visits n rows (going Next place) ≡ rows_in_range range (drop k rows)

  next_step : (left k : ℕ) (m : RowTree) → slice_get rows k ≡ Some m → NextGoes left (suc k) → (b : Bool) → includes range m.0 ≡ b → NextGoes (suc left) k
  next_step left k m at again b e zero place enough before behind = absurd (omega (arith, enough))
  next_step left k m at again true e (suc n) place enough before behind =
      takes rows (going Next place) n k m (first_found (meets (going Next place)) rows k m at (meets_both Next place m e (behind k m (omega arith) at)) before) at
      ∙ ap (λ r. m ∷ r) (again n (Some m) (omega (arith, enough))
      (λ i r lt there. not_passed Next (Some m) r (not_beyond m r (before_or_there k m at i r (omega (arith, lt)) there)))
      (λ i r le there. ap is_lt (rising k i m r (omega (arith, le)) at there)))
      ∙ sym (taken_list k m at e)
  next_step left k m at again false e (suc n) place enough before behind =
      again (suc n) place (omega (arith, enough)) (one_more (going Next place) k m at before (out_of_range Next place m e)) (λ i r le there. behind i r (omega (arith, le)) there)
      ∙ sym (left_out k m at e)

  next_goes : (left k : ℕ) → k + left ≡ length rows → NextGoes left k
  next_goes zero k all n place enough before behind =
      stops rows (going Next place) n (first_none (meets (going Next place)) rows (λ i r at. before i r (omega (arith, all, slice_get_within rows i r at)) at))
      ∙ sym (ap (rows_in_range range) (drop_all rows k (omega (arith, all))))
  next_goes (suc left) k all n place enough before behind =
      let m = stands rows k (omega (arith, all)) in
      next_step left k m.0 m.1 (next_goes left (suc k) (omega (arith, all))) (includes range m.0.0) refl n place enough before behind

  pub visits_next : visited rows Next range ≡ rows_in_range range rows
  visits_next = next_goes (length rows) 0 (omega arith) (length rows) None (omega arith) (λ i r lt at. absurd (omega (arith, lt))) (λ i r le at. refl)

  -- ---- nextunique
  abbrev NotBefore : Option RowTree → RowTree → Type 0
  NotBefore None r = Unit {0}
  NotBefore (Some p) r = is_le (key_cmp p.0 r.0) ≡ true

  abbrev firsts_from : Option RowTree → List RowTree → List RowTree
  firsts_from None xs = firsts_of_keys xs
  firsts_from (Some p) xs = firsts_after p.0 xs

  first_new : (place : Option RowTree) (m : RowTree) (ms : List RowTree) → is_passed NextUnique place m ≡ true → firsts_from place (m ∷ ms) ≡ m ∷ firsts_after m.0 ms
  first_new None m ms e = refl
  first_new (Some p) m ms e = rw (less_from _ e) refl

  first_old : (place : Option RowTree) (m : RowTree) (ms : List RowTree) → NotBefore place m → is_passed NextUnique place m ≡ false → firsts_from place (m ∷ ms) ≡ firsts_from place ms
  first_old None m ms h e = cc
  first_old (Some p) m ms h e = rw (ties_from _ h e) refl

  abbrev UniqueGoes : ℕ → ℕ → Type 0
  UniqueGoes left k = (n : ℕ) (place : Option RowTree) → left ≤ n
      → ((i : ℕ) (r : RowTree) → i < k → slice_get rows i ≡ Some r → meets (going NextUnique place) r ≡ false)
      → ((i : ℕ) (r : RowTree) → k ≤ i → slice_get rows i ≡ Some r → NotBefore place r)
      → visits n rows (going NextUnique place) ≡ firsts_from place (rows_in_range range (drop k rows))

  unique_step : (left k : ℕ) (m : RowTree) → slice_get rows k ≡ Some m → UniqueGoes left (suc k) → (b : Bool) → includes range m.0 ≡ b
      → (n : ℕ) (place : Option RowTree) (c : Bool) → is_passed NextUnique place m ≡ c → suc left ≤ n
      → ((i : ℕ) (r : RowTree) → i < k → slice_get rows i ≡ Some r → meets (going NextUnique place) r ≡ false)
      → ((i : ℕ) (r : RowTree) → k ≤ i → slice_get rows i ≡ Some r → NotBefore place r)
      → visits n rows (going NextUnique place) ≡ firsts_from place (rows_in_range range (drop k rows))
  unique_step left k m at again b e zero place c f enough before behind = absurd (omega (arith, enough))
  unique_step left k m at again true e (suc n) place true f enough before behind =
      takes rows (going NextUnique place) n k m (first_found (meets (going NextUnique place)) rows k m at (meets_both NextUnique place m e f) before) at
      ∙ ap (λ r. m ∷ r) (again n (Some m) (omega (arith, enough))
      (λ i r lt there. not_passed NextUnique (Some m) r (ap is_lt (sym (key_turned r.0 m.0)) ∙ not_lt _ (key_le r m (before_or_there k m at i r (omega (arith, lt)) there))))
      (λ i r le there. row_after true m r (rising k i m r (omega (arith, le)) at there)))
      ∙ sym (first_new place m _ f)
      ∙ ap (firsts_from place) (sym (taken_list k m at e))
  unique_step left k m at again true e (suc n) place false f enough before behind =
      again (suc n) place (omega (arith, enough)) (one_more (going NextUnique place) k m at before (not_passed NextUnique place m f)) (λ i r le there. behind i r (omega (arith, le)) there)
      ∙ sym (first_old place m _ (behind k m (omega arith) at) f)
      ∙ ap (firsts_from place) (sym (taken_list k m at e))
  unique_step left k m at again false e (suc n) place c f enough before behind =
      again (suc n) place (omega (arith, enough)) (one_more (going NextUnique place) k m at before (out_of_range NextUnique place m e)) (λ i r le there. behind i r (omega (arith, le)) there)
      ∙ ap (firsts_from place) (sym (left_out k m at e))

  nothing_left : (place : Option RowTree) → firsts_from place [] ≡ []
  nothing_left None = refl
  nothing_left (Some p) = refl

  unique_goes : (left k : ℕ) → k + left ≡ length rows → UniqueGoes left k
  unique_goes zero k all n place enough before behind =
      stops rows (going NextUnique place) n (first_none (meets (going NextUnique place)) rows (λ i r at. before i r (omega (arith, all, slice_get_within rows i r at)) at))
      ∙ sym (ap (λ xs. firsts_from place (rows_in_range range xs)) (drop_all rows k (omega (arith, all))) ∙ nothing_left place)
  unique_goes (suc left) k all n place enough before behind =
      let m = stands rows k (omega (arith, all)) in
      unique_step left k m.0 m.1 (unique_goes left (suc k) (omega (arith, all))) (includes range m.0.0) refl n place (is_passed NextUnique place m.0) refl enough before behind

  pub visits_next_unique : visited rows NextUnique range ≡ firsts_of_keys (rows_in_range range rows)
  visits_next_unique = unique_goes (length rows) 0 (omega arith) (length rows) None (omega arith) (λ i r lt at. absurd (omega (arith, lt))) (λ i r le at. tt)

  -- ---- prev
  abbrev PrevGoes : ℕ → Type 0
  PrevGoes k = (n : ℕ) (place : Option RowTree) → k ≤ n
      → ((i : ℕ) (r : RowTree) → k ≤ i → slice_get rows i ≡ Some r → meets (going Prev place) r ≡ false)
      → ((i : ℕ) (r : RowTree) → i < k → slice_get rows i ≡ Some r → is_passed Prev place r ≡ true)
      → visits n rows (going Prev place) ≡ reverse (rows_in_range range (take k rows))

  prev_step : (k : ℕ) (m : RowTree) → slice_get rows k ≡ Some m → PrevGoes k → (b : Bool) → includes range m.0 ≡ b → PrevGoes (suc k)
  prev_step k m at again b e zero place enough after before = absurd (omega (arith, enough))
  prev_step k m at again true e (suc n) place enough after before =
      takes rows (going Prev place) n k m (last_found (meets (going Prev place)) rows k m at (meets_both Prev place m e (before k m (omega arith) at)) (λ i r lt there. after i r (omega (arith, lt)) there)) at
      ∙ ap (λ r. m ∷ r) (again n (Some m) (omega (arith, enough))
      (λ i r le there. not_passed Prev (Some m) r (not_back m r (before_or_there i r there k m le at)))
      (λ i r lt there. passed_back m r (rising i k r m lt there at)))
      ∙ sym (ap reverse (taken_front k m at e) ∙ reverse_push (rows_in_range range (take k rows)) m)
  prev_step k m at again false e (suc n) place enough after before =
      again (suc n) place (omega (arith, enough)) (one_less (going Prev place) k m at (λ i r lt there. after i r (omega (arith, lt)) there) (out_of_range Prev place m e)) (λ i r lt there. before i r (omega (arith, lt)) there)
      ∙ sym (ap reverse (left_front k m at e))

  prev_goes : (k : ℕ) → k ≤ length rows → PrevGoes k
  prev_goes zero within n place enough after before = stops rows (going Prev place) n (last_none (meets (going Prev place)) rows (λ i r at. after i r (omega arith) at))
  prev_goes (suc k) within n place enough after before =
      let m = stands rows k (omega (arith, within)) in
      prev_step k m.0 m.1 (prev_goes k (omega (arith, within))) (includes range m.0.0) refl n place enough after before

  pub visits_prev : visited rows Prev range ≡ reverse (rows_in_range range rows)
  visits_prev =
      prev_goes (length rows) (omega arith) (length rows) None (omega arith) (λ i r le at. absurd (omega (arith, le, slice_get_within rows i r at))) (λ i r lt at. refl)
      ∙ ap (λ xs. reverse (rows_in_range range xs)) (take_whole rows)

  -- ---- prevunique
  same_key : (a m r : RowTree) → is_le (key_cmp a.0 r.0) ≡ true → is_le (key_cmp r.0 m.0) ≡ true → a.0 ≡ m.0 → r.0 ≡ m.0
  same_key a m r low high same =
      key_cmp_same r.0 m.0 (ties_both (key_cmp r.0 m.0) high (ap is_le (key_turned r.0 m.0 ∙ ap (λ k. key_cmp k r.0) (sym same)) ∙ low))

  -- from the first member of a key to the last one in front of a place, one member of the key is told
  key_run : (d f k : ℕ) (a m : RowTree) → f + d ≡ k → slice_get rows f ≡ Some a → slice_get rows k ≡ Some m → a.0 ≡ m.0 → includes range m.0 ≡ true
      → ((i : ℕ) (r : RowTree) → i < f → slice_get rows i ≡ Some r → is_eq (key_cmp r.0 a.0) ≡ false)
      → firsts_of_keys (rows_in_range range (take (suc k) rows)) ≡ firsts_of_keys (rows_in_range range (take f rows)) ++ a ∷ []
  key_run zero f k a m sum at there same e new =
      let one : a ≡ m = one_row rows f k a m (omega (arith, sum)) at there in
      let here : k ≡ f = omega (arith, sum) in
      ap firsts_of_keys (ap (λ i. rows_in_range range (take (suc i) rows)) here ∙ taken_front f a at (ap (λ j. includes range j) same ∙ e))
      ∙ push_new (rows_in_range range (take f rows)) a (all_filter (λ x. is_eq (key_cmp x.0 a.0) ≡ false) (λ r. includes range r.0) (take f rows) (all_take (λ x. is_eq (key_cmp x.0 a.0) ≡ false) rows f new))
  key_run (suc d) f zero a m sum at there same e new = absurd (omega (arith, sum))
  key_run (suc d) f (suc k) a m sum at there same e new =
      let z = stands rows k (omega (arith, slice_get_within rows (suc k) m there)) in
      let low = key_le a z.0 (before_or_there k z.0 z.1 f a (omega (arith, sum)) at) in
      let high = row_after true z.0 m (rising k (suc k) z.0 m (omega arith) z.1 there) in
      let alike : z.0.0 ≡ m.0 = same_key a m z.0 low high same in
      let kept : includes range z.0.0 ≡ true = ap (λ j. includes range j) alike ∙ e in
      ap firsts_of_keys (taken_front (suc k) m there e ∙ ap (λ xs. xs ++ m ∷ []) (taken_front k z.0 z.1 kept) ∙ append_two (rows_in_range range (take k rows)) z.0 m)
      ∙ push_old (rows_in_range range (take k rows)) z.0 m alike
      ∙ ap firsts_of_keys (sym (taken_front k z.0 z.1 kept))
      ∙ key_run d f k a z.0 (omega (arith, sum)) at z.1 (same ∙ sym alike) kept new

  abbrev PrevUniqueGoes : ℕ → Type 0
  PrevUniqueGoes k = (n : ℕ) (place : Option RowTree) → k ≤ n
      → ((i : ℕ) (r : RowTree) → k ≤ i → slice_get rows i ≡ Some r → meets (going PrevUnique place) r ≡ false)
      → ((i : ℕ) (r : RowTree) → i < k → slice_get rows i ≡ Some r → is_passed PrevUnique place r ≡ true)
      → visits n rows (going PrevUnique place) ≡ reverse (firsts_of_keys (rows_in_range range (take k rows)))

  first_place : (place : Option RowTree) (k f : ℕ) (m a : RowTree) → last_position (meets (going PrevUnique place)) rows ≡ Some k → slice_get rows k ≡ Some m → slice_get rows f ≡ Some a
      → is_eq (key_cmp a.0 m.0) ≡ true → ((i : ℕ) (r : RowTree) → i < f → slice_get rows i ≡ Some r → is_eq (key_cmp r.0 m.0) ≡ false) → next_place rows (going PrevUnique place) ≡ Some f
  first_place place k f m a last at there ties fails = rw (last, at) (first_found (λ row. is_eq (key_cmp row.0 m.0)) rows f a there ties fails)

  turned_lt : (o : Ordering) → o ≡ Less → is_lt (ordering_reverse (ordering_reverse o)) ≡ true
  turned_lt o e = ap (λ p. is_lt (ordering_reverse (ordering_reverse p))) e

  prev_unique_step : (k : ℕ) (m : RowTree) → slice_get rows k ≡ Some m → ((f : ℕ) → f ≤ k → PrevUniqueGoes f) → (b : Bool) → includes range m.0 ≡ b → PrevUniqueGoes (suc k)
  prev_unique_step k m at again b e zero place enough after before = absurd (omega (arith, enough))
  prev_unique_step k m at again true e (suc n) place enough after before =
      let first = first_exists (λ row. is_eq (key_cmp row.0 m.0)) rows k m at (ap is_eq (tied_itself key_cmp_total m.0)) in
      let f = first.place in
      let a = first.member in
      let same : a.0 ≡ m.0 = key_cmp_same a.0 m.0 (equal_from _ first.passes) in
      let new : (i : ℕ) (r : RowTree) → i < f → slice_get rows i ≡ Some r → is_eq (key_cmp r.0 a.0) ≡ false = λ i r lt there. ap (λ j. is_eq (key_cmp r.0 j)) same ∙ first.before i r lt there in
      takes rows (going PrevUnique place) n f a
      (first_place place k f m a (last_found (meets (going PrevUnique place)) rows k m at (meets_both PrevUnique place m e (before k m (omega arith) at)) (λ i r lt there. after i r (omega (arith, lt)) there)) at first.stands first.passes first.before)
      first.stands
      ∙ ap (λ r. a ∷ r) (again f first.within n (Some a) (omega (arith, enough, first.within))
      (λ i r le there. not_passed PrevUnique (Some a) r (not_lt _ (key_le a r (before_or_there i r there f a le first.stands))))
      (λ i r lt there. ap (λ o. is_lt (ordering_reverse o)) (sym (key_turned r.0 a.0)) ∙ turned_lt _ (less_than _ (row_after true r a (rising i f r a lt there first.stands)) (new i r lt there))))
      ∙ sym (ap reverse (key_run (k - f) f k a m (omega (arith, first.within)) first.stands at same e new) ∙ reverse_push (firsts_of_keys (rows_in_range range (take f rows))) a)
  prev_unique_step k m at again false e (suc n) place enough after before =
      again k (omega arith) (suc n) place (omega (arith, enough)) (one_less (going PrevUnique place) k m at (λ i r lt there. after i r (omega (arith, lt)) there) (out_of_range PrevUnique place m e)) (λ i r lt there. before i r (omega (arith, lt)) there)
      ∙ sym (ap (λ xs. reverse (firsts_of_keys xs)) (left_front k m at e))

  prev_unique_goes : (c k : ℕ) → k ≤ c → k ≤ length rows → PrevUniqueGoes k
  prev_unique_goes c zero most within n place enough after before =
      stops rows (going PrevUnique place) n (ap (option_and_then (first_of_key rows)) (last_none (meets (going PrevUnique place)) rows (λ i r at. after i r (omega arith) at)))
  prev_unique_goes zero (suc k) most within n place enough after before = absurd (omega (arith, most))
  prev_unique_goes (suc c) (suc k) most within n place enough after before =
      let m = stands rows k (omega (arith, within)) in
      prev_unique_step k m.0 m.1 (λ f le. prev_unique_goes c f (omega (arith, le, most)) (omega (arith, le, within))) (includes range m.0.0) refl n place enough after before

  pub visits_prev_unique : visited rows PrevUnique range ≡ reverse (firsts_of_keys (rows_in_range range rows))
  visits_prev_unique =
      prev_unique_goes (length rows) (length rows) (omega arith) (omega arith) (length rows) None (omega arith) (λ i r le at. absurd (omega (arith, le, slice_get_within rows i r at))) (λ i r lt at. refl)
      ∙ ap (λ xs. reverse (firsts_of_keys (rows_in_range range xs))) (take_whole rows)
