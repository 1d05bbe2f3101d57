-- Tables of rows that keep in step with the records.
--     nothing_in_step, nothing_left         without records no index needs a table
--     kept_in_step, roomy_in_step           what making room leaves, and makes
--     can_add, added_in_step, removed_in_step, replaced_in_step       a record that comes, goes, or gets another value
--     filled_in_step, taken_in_step, pushed_in_step, unplaced_in_step, inserted_in_step       indexes and tables that come and go
--     sets_of, out_of_sets                  all tables taken out, and put back
use Rattle.std.proofs.Common.{◌≡◌, ℕ, zero, suc, ◌+◌, ◌<◌, ◌≤◌, List, [], ◌∷◌, ◌++◌, refl, sym, ap, ◌∙◌, Some, None, map, length, length-append, take, drop, insert, remove, slice_get, option_map, get_or, arith}
use Rattle.std.proofs.lemmas.Option.{slice_get-get_or}
use Rattle.std.specs.FinMap as finite
use Rattle.std.specs.List.{AllByRecursion, flat_map}
use Rattle.clone_values.specs.Tree.{Tree}
use Rattle.clone_values.specs.KeyTree.{KeyTree}
use Rattle.key_order.specs.KeyOrder.{key_cmp}
use Rattle.idb_schema.specs.declared.definitions.IndexInfo.{IndexInfo}
use Rattle.index_tables.specs.Rows.{RowTree, RowSet, IndexRows, no_rows, among, with_rows, without_rows}
use Rattle.index_tables.specs.RecordRows.{Records, rows_of_record, index_rows}
use Rattle.index_tables.proofs.Laws.{rows_with, rows_over, rows_without, same_rows, has_no_row, has_without_rows}
use Rattle.store_contents.specs.Contents.{rows_in_indexes, rows_among, row_sets}
use Rattle.store_contents.specs.Matches.{InStep}
use Rattle.store_contents.specs.Walks.{AllChanged, paired, Keeps, HasRoomFor, Adds, Removes, Replaces, CanAdd, IsFilled, IsInserted}
use Rattle.std.specs.Prelude.{false, true, Bool, not, ◌&&◌}

pub nothing : {A : Type 0} (xs : List A) → length xs ≡ 0 → xs ≡ []
nothing [] e = refl
nothing (x ∷ xs) e = absurd (omega arith)

pub rows_of_nothing : (index : IndexInfo) (records : Records) → records ≡ finite.empty → index_rows index records ≡ no_rows
rows_of_nothing index records e = ap (λ es. with_rows no_rows (flat_map (λ (e : KeyTree × Tree). rows_of_record index e.0 e.1) es))
    (ap finite.entries e ∙ nothing (finite.entries finite.empty) (sym (finite.len-entries finite.empty) ∙ finite.len-empty key_cmp Tree))

nothing_in_step_none : (indexes : List IndexInfo) (records : Records) → records ≡ finite.empty → InStep indexes [] records 0
nothing_in_step_none [] records e = tt
nothing_in_step_none (i ∷ is) records e = (rows_of_nothing i records e, refl, nothing_in_step_none is records e)

pub nothing_in_step : (indexes : List IndexInfo) (tables : List IndexRows) (records : Records) → tables ≡ [] → records ≡ finite.empty → InStep indexes tables records 0
nothing_in_step indexes tables records none e = rw none (nothing_in_step_none indexes records e)

and_none : (b : Bool) → (b && false) ≡ false
and_none true = refl
and_none false = refl

pub nothing_left : (rows : List RowTree) → without_rows no_rows rows ≡ no_rows
nothing_left rows = same_rows _ _ (λ q. has_without_rows no_rows rows q ∙ ap (λ b. not (among rows q) && b) (has_no_row q) ∙ and_none _ ∙ sym (has_no_row q))

no_more : (rows : List RowTree) → length rows ≡ 0 → with_rows no_rows rows ≡ no_rows
no_more rows e = ap (with_rows no_rows) (nothing rows e)

pub counted_within : (is : List IndexInfo) (os : List IndexRows) (records : Records) (spare : ℕ) → InStep is os records spare → length os ≤ length is
counted_within [] [] records spare h = omega arith
counted_within [] (o ∷ os) records spare h = absurd h
counted_within (i ∷ is) [] records spare h = omega arith
counted_within (i ∷ is) (o ∷ os) records spare h = omega (arith, counted_within is os records spare h.2)

-- ---- room is made
pub kept_in_step : (is : List IndexInfo) (os ns : List IndexRows) (records : Records) (spare : ℕ) → AllChanged Keeps os os ns → InStep is os records spare → InStep is ns records spare
kept_in_step is [] [] records spare kept h = h
kept_in_step is [] (n ∷ ns) records spare kept h = absurd kept
kept_in_step is (o ∷ os) [] records spare kept h = absurd kept
kept_in_step [] (o ∷ os) (n ∷ ns) records spare kept h = absurd h
kept_in_step (i ∷ is) (o ∷ os) (n ∷ ns) records spare kept h = (kept.0.0 ∙ h.0, omega (arith, kept.0.1, h.1), kept_in_step is os ns records spare kept.1 h.2)

pub roomy_in_step : (is : List IndexInfo) (os ns : List IndexRows) (records : Records) (spare rows : ℕ) → length is ≤ length os → AllChanged Keeps os os ns → AllChanged (HasRoomFor rows) os os ns → InStep is os records spare → InStep is ns records rows
roomy_in_step [] [] [] records spare rows n kept room h = tt
roomy_in_step (i ∷ is) [] [] records spare rows n kept room h = absurd (omega arith)
roomy_in_step is [] (m ∷ ns) records spare rows n kept room h = absurd kept
roomy_in_step is (o ∷ os) [] records spare rows n kept room h = absurd kept
roomy_in_step [] (o ∷ os) (m ∷ ns) records spare rows n kept room h = absurd h
roomy_in_step (i ∷ is) (o ∷ os) (m ∷ ns) records spare rows n kept room h = (kept.0.0 ∙ h.0, room.0, roomy_in_step is os ns records spare rows (omega arith) kept.1 room.1 h.2)

-- ---- a record comes, goes, or gets another value
pub can_add : (k : KeyTree) (value : Tree) (records : Records) (spare : ℕ) (is : List IndexInfo) (os : List IndexRows) → InStep is os records spare → rows_among (rows_in_indexes is k value) ≤ spare
    → AllChanged CanAdd (rows_in_indexes is k value) os os
can_add k value records spare [] [] h room = tt
can_add k value records spare [] (o ∷ os) h room = absurd h
can_add k value records spare (i ∷ is) [] h room = tt
can_add k value records spare (i ∷ is) (o ∷ os) h room = (omega (arith, h.1, room), can_add k value records spare is os h.2 (omega (arith, room)))

module _ (records : Records) (k : KeyTree) (value : Tree) where
  pub added_in_step : finite.get records k ≡ None → (spare left : ℕ) (is : List IndexInfo) (os ns : List IndexRows) → InStep is os records spare → left + rows_among (rows_in_indexes is k value) ≤ spare
      → AllChanged Adds (rows_in_indexes is k value) os ns → InStep is ns (finite.insert records k value) left
  added_in_step absent spare left [] [] [] h room added = tt
  added_in_step absent spare left [] [] (m ∷ ns) h room added = absurd added
  added_in_step absent spare left [] (o ∷ os) ns h room added = absurd h
  added_in_step absent spare left (i ∷ is) [] [] h room added = (
    rows_with i records k value absent ∙ ap (λ s. with_rows s (rows_of_record i k value)) h.0 ∙ no_more (rows_of_record i k value) (omega (arith, h.1, room)),
    omega (arith, h.1, room),
    added_in_step absent spare left is [] [] h.2 (omega (arith, room)) tt,
  )
  added_in_step absent spare left (i ∷ is) [] (m ∷ ns) h room added = absurd added
  added_in_step absent spare left (i ∷ is) (o ∷ os) [] h room added = absurd added
  added_in_step absent spare left (i ∷ is) (o ∷ os) (m ∷ ns) h room added = (
    added.0.0 ∙ ap (λ s. with_rows s (rows_of_record i k value)) h.0 ∙ sym (rows_with i records k value absent),
    omega (arith, added.0.1, h.1, room),
    added_in_step absent spare left is os ns h.2 (omega (arith, room)) added.1,
  )

  pub removed_in_step : finite.get records k ≡ Some value → (spare : ℕ) (is : List IndexInfo) (os ns : List IndexRows) → InStep is os records spare
      → AllChanged Removes (rows_in_indexes is k value) os ns → InStep is ns (finite.remove records k) spare
  removed_in_step there spare [] [] [] h gone = tt
  removed_in_step there spare [] [] (m ∷ ns) h gone = absurd gone
  removed_in_step there spare [] (o ∷ os) ns h gone = absurd h
  removed_in_step there spare (i ∷ is) [] [] h gone = (
    rows_without i records k value there ∙ ap (λ s. without_rows s (rows_of_record i k value)) h.0 ∙ nothing_left (rows_of_record i k value),
    h.1,
    removed_in_step there spare is [] [] h.2 tt,
  )
  removed_in_step there spare (i ∷ is) [] (m ∷ ns) h gone = absurd gone
  removed_in_step there spare (i ∷ is) (o ∷ os) [] h gone = absurd gone
  removed_in_step there spare (i ∷ is) (o ∷ os) (m ∷ ns) h gone = (
    gone.0.0 ∙ ap (λ s. without_rows s (rows_of_record i k value)) h.0 ∙ sym (rows_without i records k value there),
    omega (arith, gone.0.1, h.1),
    removed_in_step there spare is os ns h.2 gone.1,
  )

  pub replaced_in_step : (old : Tree) → finite.get records k ≡ Some old → (spare left : ℕ) (is : List IndexInfo) (os ns : List IndexRows) → InStep is os records spare
      → left + rows_among (rows_in_indexes is k value) ≤ spare → AllChanged Replaces (paired (rows_in_indexes is k old) (rows_in_indexes is k value)) os ns → InStep is ns (finite.insert records k value) left
  replaced_in_step old there spare left [] [] [] h room put = tt
  replaced_in_step old there spare left [] [] (m ∷ ns) h room put = absurd put
  replaced_in_step old there spare left [] (o ∷ os) ns h room put = absurd h
  replaced_in_step old there spare left (i ∷ is) [] [] h room put = (
    rows_over i records k value old there ∙ ap (λ s. with_rows (without_rows s (rows_of_record i k old)) (rows_of_record i k value)) h.0
        ∙ ap (λ s. with_rows s (rows_of_record i k value)) (nothing_left (rows_of_record i k old)) ∙ no_more (rows_of_record i k value) (omega (arith, h.1, room)),
    omega (arith, h.1, room),
    replaced_in_step old there spare left is [] [] h.2 (omega (arith, room)) tt,
  )
  replaced_in_step old there spare left (i ∷ is) [] (m ∷ ns) h room put = absurd put
  replaced_in_step old there spare left (i ∷ is) (o ∷ os) [] h room put = absurd put
  replaced_in_step old there spare left (i ∷ is) (o ∷ os) (m ∷ ns) h room put = (
    put.0.0 ∙ ap (λ s. with_rows (without_rows s (rows_of_record i k old)) (rows_of_record i k value)) h.0 ∙ sym (rows_over i records k value old there),
    omega (arith, put.0.1, h.1, room),
    replaced_in_step old there spare left is os ns h.2 (omega (arith, room)) put.1,
  )

-- ---- tables that come and go
filled_on : (is : List IndexInfo) (os fresh : List IndexRows) (records : Records) (spare : ℕ) → InStep is os records spare → length os + length fresh ≤ length is
    → AllByRecursion (λ t. (t.rows ≡ no_rows) × (t.spare ≡ 0)) fresh → InStep is (os ++ fresh) records spare
filled_on [] [] [] records spare h n empty = tt
filled_on [] [] (f ∷ fs) records spare h n empty = absurd (omega arith)
filled_on [] (o ∷ os) fresh records spare h n empty = absurd h
filled_on (i ∷ is) [] [] records spare h n empty = h
filled_on (i ∷ is) [] (f ∷ fs) records spare h n empty = (empty.0.0 ∙ sym h.0, omega (arith, h.1), filled_on is [] fs records spare h.2 (omega arith) empty.1)
filled_on (i ∷ is) (o ∷ os) fresh records spare h n empty = (h.0, h.1, filled_on is os fresh records spare h.2 (omega arith) empty)

pub filled_in_step : (count : ℕ) (is : List IndexInfo) (os ns : List IndexRows) (records : Records) (spare : ℕ) → count ≤ length is → InStep is os records spare → IsFilled count os ns → InStep is ns records spare
filled_in_step count is os ns records spare le h filled = rw filled.1 (filled_on is os filled.0 records spare h (omega (arith, filled.2.0, counted_within is os records spare h)) filled.2.1)

pub filled_count : (count : ℕ) (os ns : List IndexRows) → IsFilled count os ns → count ≤ length ns
filled_count count os ns filled = omega (arith, ap length filled.1, length-append os filled.0, filled.2.0)

pub taken_in_step : (n : ℕ) (is : List IndexInfo) (os : List IndexRows) (records : Records) (spare : ℕ) → InStep is os records spare → InStep (take n is) (take n os) records spare
taken_in_step zero is os records spare h = tt
taken_in_step (suc n) [] [] records spare h = tt
taken_in_step (suc n) [] (o ∷ os) records spare h = absurd h
taken_in_step (suc n) (i ∷ is) [] records spare h = (h.0, h.1, none_in_step n is records spare h.2)
  where
    none_in_step : (n : ℕ) (is : List IndexInfo) (records : Records) (spare : ℕ) → InStep is [] records spare → InStep (take n is) [] records spare
    none_in_step zero is records spare h = tt
    none_in_step (suc n) [] records spare h = tt
    none_in_step (suc n) (i ∷ is) records spare h = (h.0, h.1, none_in_step n is records spare h.2)
taken_in_step (suc n) (i ∷ is) (o ∷ os) records spare h = (h.0, h.1, taken_in_step n is os records spare h.2)

pub none_left : {A : Type 0} (n : ℕ) (xs : List A) → length xs ≤ n → drop n xs ≡ []
none_left zero [] h = refl
none_left (suc n) [] h = refl
none_left zero (x ∷ xs) h = absurd (omega arith)
none_left (suc n) (x ∷ xs) h = none_left n xs (omega arith)

pub last_removed : {A : Type 0} (xs : List A) (n : ℕ) → length xs ≡ n + 1 → remove xs n ≡ take n xs
last_removed xs n e = ap (λ rest. take n xs ++ rest) (none_left (suc n) xs (omega arith)) ∙ append_nil (take n xs)
  where
    append_nil : {A : Type 0} (xs : List A) → xs ++ [] ≡ xs
    append_nil [] = refl
    append_nil (x ∷ xs) = ap (λ ys. x ∷ ys) (append_nil xs)

pub pushed_in_step : (is : List IndexInfo) (os : List IndexRows) (records : Records) (spare : ℕ) (i : IndexInfo) (t : IndexRows) → InStep is os records spare → length is ≤ length os → t.rows ≡ index_rows i records → spare ≤ t.spare
    → InStep (is ++ i ∷ []) (os ++ t ∷ []) records spare
pushed_in_step [] [] records spare i t h n rows room = (rows, room, tt)
pushed_in_step [] (o ∷ os) records spare i t h n rows room = absurd h
pushed_in_step (j ∷ is) [] records spare i t h n rows room = absurd (omega arith)
pushed_in_step (j ∷ is) (o ∷ os) records spare i t h n rows room = (h.0, h.1, pushed_in_step is os records spare i t h.2 (omega arith) rows room)

pub unplaced_in_step : (n : ℕ) (is : List IndexInfo) (os : List IndexRows) (records : Records) (spare : ℕ) → InStep is os records spare → length is ≤ length os → n < length is → InStep (remove is n) (remove os n) records spare
unplaced_in_step n [] os records spare h e lt = absurd (omega arith)
unplaced_in_step n (i ∷ is) [] records spare h e lt = absurd (omega arith)
unplaced_in_step zero (i ∷ is) (o ∷ os) records spare h e lt = h.2
unplaced_in_step (suc n) (i ∷ is) (o ∷ os) records spare h e lt = (h.0, h.1, unplaced_in_step n is os records spare h.2 (omega arith) (omega arith))

-- the table of an index that is there
pub table_there : (n : ℕ) (is : List IndexInfo) (os : List IndexRows) (records : Records) (spare : ℕ) → InStep is os records spare → length is ≤ length os → n < length is
    → (t : IndexRows) × (slice_get os n ≡ Some t) × (spare ≤ t.spare)
table_there n [] os records spare h e lt = absurd (omega arith)
table_there n (i ∷ is) [] records spare h e lt = absurd (omega arith)
table_there zero (i ∷ is) (o ∷ os) records spare h e lt = (o, refl, h.1)
table_there (suc n) (i ∷ is) (o ∷ os) records spare h e lt = table_there n is os records spare h.2 (omega arith) (omega arith)

pub rows_there : (n : ℕ) (is : List IndexInfo) (os : List IndexRows) (records : Records) (spare : ℕ) (i : IndexInfo) (rows : RowSet) → InStep is os records spare → slice_get is n ≡ Some i
    → option_map (λ (t : IndexRows). t.rows) (slice_get os n) ≡ Some rows → rows ≡ index_rows i records
rows_there n [] os records spare i rows h at there = cc
rows_there n (j ∷ is) [] records spare i rows h at there = cc
rows_there zero (j ∷ is) (o ∷ os) records spare i rows h at there = let one : rows ≡ o.rows = cc in let two : j ≡ i = cc in one ∙ h.0 ∙ ap (λ i. index_rows i records) two
rows_there (suc n) (j ∷ is) (o ∷ os) records spare i rows h at there = rows_there n is os records spare i rows h.2 at there

less_in_step : (is : List IndexInfo) (os : List IndexRows) (records : Records) (spare left : ℕ) → left ≤ spare → InStep is os records spare → InStep is os records left
less_in_step [] [] records spare left le h = tt
less_in_step [] (o ∷ os) records spare left le h = absurd h
less_in_step (i ∷ is) [] records spare left le h = (h.0, omega (arith, h.1, le), less_in_step is [] records spare left le h.2)
less_in_step (i ∷ is) (o ∷ os) records spare left le h = (h.0, omega (arith, h.1, le), less_in_step is os records spare left le h.2)

placed_in_step : (n : ℕ) (is : List IndexInfo) (os : List IndexRows) (records : Records) (spare : ℕ) (i : IndexInfo) (t : IndexRows) → InStep is os records spare → n ≤ length os → n ≤ length is
    → t.rows ≡ index_rows i records → spare ≤ t.spare → InStep (insert is n i) (insert os n t) records spare
placed_in_step zero is os records spare i t h e le rows room = (rows, room, h)
placed_in_step (suc n) [] os records spare i t h e le rows room = absurd (omega arith)
placed_in_step (suc n) (j ∷ is) [] records spare i t h e le rows room = absurd (omega arith)
placed_in_step (suc n) (j ∷ is) (o ∷ os) records spare i t h e le rows room = (h.0, h.1, placed_in_step n is os records spare i t h.2 (omega arith) (omega arith) rows room)

pub inserted_in_step : (n : ℕ) (is : List IndexInfo) (os ns : List IndexRows) (records : Records) (spare left : ℕ) (i : IndexInfo) (t : IndexRows) → InStep is os records spare → n ≤ length is
    → t.rows ≡ index_rows i records → left ≤ spare → left ≤ t.spare → IsInserted n t os ns → InStep (insert is n i) ns records left
inserted_in_step n is os ns records spare left i t h le rows less room new =
    let filled = filled_in_step n is os new.0 records spare le h new.1 in
    rw new.2 (placed_in_step n is new.0 records left i t (less_in_step is new.0 records spare left less filled) (filled_count n os new.0 new.1) le rows room)

-- what was taken out at a place is the table of its index
module _ (n : ℕ) (is : List IndexInfo) (os : List IndexRows) (records : Records) (spare : ℕ) (h : InStep is os records spare) (count : length is ≤ length os) (lt : n < length is) (t : IndexRows) (value : t ≡ get_or os n t) where
  taken_there : slice_get os n ≡ Some t
  taken_there = slice_get-get_or os n t (omega (arith, count, lt)) ∙ ap Some (sym value)

  pub taken_room : spare ≤ t.spare
  taken_room = let u = table_there n is os records spare h count lt in let same : u.0 ≡ t = some_same (sym u.1 ∙ taken_there) in omega (arith, u.2, ap (λ (t : IndexRows). t.spare) same)
    where
      some_same : {A : Type 0} {x y : A} → Some x ≡ Some y → x ≡ y
      some_same e = cc

  pub taken_rows : (i : IndexInfo) → slice_get is n ≡ Some i → t.rows ≡ index_rows i records
  taken_rows i at = rows_there n is os records spare i t.rows h at (ap (option_map (λ (t : IndexRows). t.rows)) taken_there)

-- ---- all tables taken out, put back, and copied
pub sets_of : (is : List IndexInfo) (os : List IndexRows) (records : Records) (spare : ℕ) → InStep is os records spare → length is ≤ length os → map (λ t. t.rows) os ≡ row_sets is records
sets_of [] [] records spare h n = refl
sets_of [] (o ∷ os) records spare h n = absurd h
sets_of (i ∷ is) [] records spare h n = absurd (omega arith)
sets_of (i ∷ is) (o ∷ os) records spare h n = λ j. h.0 j ∷ sets_of is os records spare h.2 (omega arith) j

pub room_of : (is : List IndexInfo) (os : List IndexRows) (records : Records) (spare : ℕ) → InStep is os records spare → AllByRecursion (λ t. spare ≤ t.spare) os
room_of [] [] records spare h = tt
room_of [] (o ∷ os) records spare h = absurd h
room_of (i ∷ is) [] records spare h = tt
room_of (i ∷ is) (o ∷ os) records spare h = (h.1, room_of is os records spare h.2)

pub out_of_sets : (is : List IndexInfo) (os : List IndexRows) (records : Records) (spare : ℕ) → map (λ t. t.rows) os ≡ row_sets is records → AllByRecursion (λ t. spare ≤ t.spare) os → InStep is os records spare
out_of_sets [] [] records spare e room = tt
out_of_sets [] (o ∷ os) records spare e room = cc
out_of_sets (i ∷ is) [] records spare e room = cc
out_of_sets (i ∷ is) (o ∷ os) records spare e room = (head_same e, room.0, out_of_sets is os records spare (tail_same e) room.1)
  where
    head_same : {A : Type 0} {x y : A} {xs ys : List A} → x ∷ xs ≡ y ∷ ys → x ≡ y
    head_same e = cc

    tail_same : {A : Type 0} {x y : A} {xs ys : List A} → x ∷ xs ≡ y ∷ ys → xs ≡ ys
    tail_same e = cc

pub copied_in_step : (is : List IndexInfo) (os ns : List IndexRows) (records : Records) (spare : ℕ) → map (λ t. t.rows) ns ≡ map (λ t. t.rows) os → InStep is os records spare → InStep is ns records 0
copied_in_step [] [] [] records spare e h = tt
copied_in_step is [] (m ∷ ns) records spare e h = cc
copied_in_step is (o ∷ os) [] records spare e h = cc
copied_in_step [] (o ∷ os) (m ∷ ns) records spare e h = absurd h
copied_in_step (i ∷ is) [] [] records spare e h = (h.0, refl, copied_in_step is [] [] records spare e h.2)
copied_in_step (i ∷ is) (o ∷ os) (m ∷ ns) records spare e h = (head_same e ∙ h.0, omega arith, copied_in_step is os ns records spare (tail_same e) h.2)
  where
    head_same : {A : Type 0} {x y : A} {xs ys : List A} → x ∷ xs ≡ y ∷ ys → x ≡ y
    head_same e = cc

    tail_same : {A : Type 0} {x y : A} {xs ys : List A} → x ∷ xs ≡ y ∷ ys → xs ≡ ys
    tail_same e = cc
