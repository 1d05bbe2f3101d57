-- The laws of sets of rows, by which rows each has.
--     same_rows, has_no_row, has_with_row, has_without_row, has_with_rows, has_without_rows, has_row_among
--     removal_undoes, addition_undoes
--     counted, rising, key_of_row, row_of_key
--     with_present, comes_again                   a row that is there when it comes;  one that comes again
use Rattle.std.proofs.Common.{◌≡◌, ℕ, zero, suc, ◌<◌, Bool, true, false, List, [], ◌∷◌, refl, sym, ap, ◌∙◌, Option, Some, None, map, length, arith}
use Rattle.std.specs.Prelude.{cond, not, ◌&&◌, ◌||◌, T, is_some, slice_get}
use Rattle.std.specs.declared.cmp.Ordering.TheVariants.{Less}
use Rattle.std.specs.Ordering.{is_eq, eq_by_cmp}
use Rattle.std.specs.List.{list_any, AllPairs}
use Rattle.std.proofs.lemmas.List.{length-map}
use Rattle.std.proofs.lemmas.Option.{slice_get-get_or}
use Rattle.std.specs.FinMap.{is_sorted}
use Rattle.std.specs.FinMap.Entries.{below_all}
use Rattle.std.specs.Cmp.{Equal-is}
use Rattle.std.proofs.lemmas.Cmp.{tied_itself}
use Rattle.std.specs.FinMap as finite
use Rattle.clone_values.specs.KeyTree.{KeyTree}
use Rattle.idb_keys.specs.KeyOrder.{key_cmp}
use Rattle.idb_keys.proofs.Laws.{key_cmp_same, then_equal}
use Rattle.sorted_table.proofs.Laws.{is_less, first, second}
use Rattle.index_tables.specs.Rows.{RowTree, RowSet, row_cmp, is_row, no_rows, has_row, with_row, without_row, rows_of, count_of, has_key, among, AreNew, ArePresent, with_rows, without_rows}
use Rattle.index_tables.specs.Orders.{row_cmp_total, row_cmp_same}

-- what an entry without a value says is whether it is there
same_option : (x y : Option (Unit {0})) → is_some x ≡ is_some y → x ≡ y
same_option None None e = refl
same_option None (Some u) e = cc
same_option (Some t) None e = cc
same_option (Some t) (Some u) e = refl

pub same_rows : (s t : RowSet) → ((q : RowTree) → has_row s q ≡ has_row t q) → s ≡ t
same_rows s t is = finite.same_map row_cmp_total row_cmp_same s t (λ q. same_option (finite.get s q) (finite.get t q) (is q))

pub has_no_row : (q : RowTree) → has_row no_rows q ≡ false
has_no_row q = ap is_some (finite.get-empty row_cmp q)

some_or : (b : Bool) (x : Option (Unit {0})) → is_some (cond b (Some tt) x) ≡ (b || is_some x)
some_or true x = refl
some_or false x = refl

none_or : (b : Bool) (x : Option (Unit {0})) → is_some (cond b None x) ≡ (not b && is_some x)
none_or true x = refl
none_or false x = refl

pub has_with_row : (s : RowSet) (row q : RowTree) → has_row (with_row s row) q ≡ (is_row q row || has_row s q)
has_with_row s row q = ap is_some (finite.get-insert row_cmp_total s row tt q) ∙ some_or (is_row q row) (finite.get s q)

pub has_without_row : (s : RowSet) (row q : RowTree) → has_row (without_row s row) q ≡ (not (is_row q row) && has_row s q)
has_without_row s row q = ap is_some (finite.get-remove row_cmp_total s row q) ∙ none_or (is_row q row) (finite.get s q)

or_swap : (a b c : Bool) → (a || (b || c)) ≡ ((b || a) || c)
or_swap true true c = refl
or_swap true false c = refl
or_swap false true c = refl
or_swap false false c = refl

and_swap : (a b c : Bool) → (not a && (not b && c)) ≡ (not (b || a) && c)
and_swap true true c = refl
and_swap true false c = refl
and_swap false true c = refl
and_swap false false c = refl

pub has_with_rows : (s : RowSet) (rows : List RowTree) (q : RowTree) → has_row (with_rows s rows) q ≡ (among rows q || has_row s q)
has_with_rows s [] q = refl
has_with_rows s (row ∷ rows) q = has_with_rows (with_row s row) rows q ∙ ap (λ b. among rows q || b) (has_with_row s row q) ∙ or_swap (among rows q) (is_row q row) (has_row s q)

pub has_without_rows : (s : RowSet) (rows : List RowTree) (q : RowTree) → has_row (without_rows s rows) q ≡ (not (among rows q) && has_row s q)
has_without_rows s [] q = refl
has_without_rows s (row ∷ rows) q = has_without_rows (without_row s row) rows q ∙ ap (λ b. not (among rows q) && b) (has_without_row s row q) ∙ and_swap (among rows q) (is_row q row) (has_row s q)

pub has_row_among : (s : RowSet) (q : RowTree) → has_row s q ≡ among (rows_of s) q
has_row_among s q = finite.contains_key-keys s q

removed : (a b : Bool) → (a ≡ true → b ≡ false) → (not a && (a || b)) ≡ b
removed true b f = sym (f refl)
removed false b f = refl

added : (a b : Bool) → (a ≡ true → b ≡ true) → (a || (not a && b)) ≡ b
added true b f = sym (f refl)
added false b f = refl

pub removal_undoes : (s : RowSet) (rows : List RowTree) → AreNew s rows → without_rows (with_rows s rows) rows ≡ s
removal_undoes s rows new = same_rows _ _ (λ q. has_without_rows (with_rows s rows) rows q ∙ ap (λ b. not (among rows q) && b) (has_with_rows s rows q) ∙ removed (among rows q) (has_row s q) (new q))

pub addition_undoes : (s : RowSet) (rows : List RowTree) → ArePresent s rows → with_rows (without_rows s rows) rows ≡ s
addition_undoes s rows there = same_rows _ _ (λ q. has_with_rows (without_rows s rows) rows q ∙ ap (λ b. among rows q || b) (has_without_rows s rows q) ∙ added (among rows q) (has_row s q) (there q))

pub same_row : (p q : RowTree) → is_row p q ≡ true → p ≡ q
same_row p q e = row_cmp_same p q ((Equal-is (row_cmp p q)).0 e)

itself : (p : RowTree) → is_row p p ≡ true
itself p = ap is_eq (tied_itself row_cmp_total p)

-- ---- the rows of a set, in their order
pub counted : (s : RowSet) → count_of s ≡ length (rows_of s)
counted s = finite.len-entries s ∙ sym (length-map (finite.entries s) (λ e. e.0))

key_below : (row : RowTree) (es : List (RowTree × Unit {0})) (i : ℕ) (r : RowTree) → T (below_all row_cmp row es) → slice_get (map (λ e. e.0) es) i ≡ Some r → row_cmp row r ≡ Less
key_below row [] i r h at = cc
key_below row (e ∷ es) zero r h at = let same : e.0 ≡ r = cc in ap (λ s. row_cmp row s) (sym same) ∙ is_less _ (first _ _ h)
key_below row (e ∷ es) (suc i) r h at = key_below row es i r (second _ _ h) at

pub rising_keys : (es : List (RowTree × Unit {0})) → T (is_sorted row_cmp es) → (i j : ℕ) (p q : RowTree) → i < j → slice_get (map (λ e. e.0) es) i ≡ Some p → slice_get (map (λ e. e.0) es) j ≡ Some q → row_cmp p q ≡ Less
rising_keys [] h i j p q lt a b = cc
rising_keys (e ∷ es) h i zero p q lt a b = absurd (omega arith)
rising_keys (e ∷ es) h zero (suc j) p q lt a b = let same : e.0 ≡ p = cc in ap (λ r. row_cmp r q) (sym same) ∙ key_below e.0 es j q (first _ _ h) b
rising_keys (e ∷ es) h (suc i) (suc j) p q lt a b = rising_keys es (second _ _ h) i j p q (omega arith) a b

pub rising : (s : RowSet) → AllPairs (λ p q. row_cmp p q ≡ Less) (rows_of s)
rising s i j d lt le = rising_keys (finite.entries s) (finite.entries_sorted s) i j _ _ lt (slice_get-get_or (rows_of s) i d (omega arith)) (slice_get-get_or (rows_of s) j d le)

-- ---- the index keys of a set
or_right : (a b : Bool) → b ≡ true → (a || b) ≡ true
or_right true b e = refl
or_right false b e = e

key_among : (rows : List RowTree) (row : RowTree) → among rows row ≡ true → list_any (λ r. eq_by_cmp key_cmp row.0 r.0) rows ≡ true
key_among [] row e = e
key_among (r ∷ rows) row e =
    let rest = list_any (λ (r : RowTree). eq_by_cmp key_cmp row.0 r.0) rows in
    elim (is_row row r) as (λ b. is_row row r ≡ b → (b || among rows row) ≡ true → (eq_by_cmp key_cmp row.0 r.0 || rest) ≡ true) [
      | true ↦ λ is _. ap (λ o. is_eq o || rest) (then_equal (key_cmp row.0 r.0) (key_cmp row.1 r.1) ((Equal-is (row_cmp row r)).0 is)).0
      | false ↦ λ is later. or_right (eq_by_cmp key_cmp row.0 r.0) rest (key_among rows row later)
    ] refl e

row_with_key : (rows : List RowTree) (key : KeyTree) → list_any (λ r. eq_by_cmp key_cmp key r.0) rows ≡ true → (primary : KeyTree) × (among rows (key, primary) ≡ true)
row_with_key [] key e = cc
row_with_key (r ∷ rows) key e =
    elim (eq_by_cmp key_cmp key r.0) as (λ b. eq_by_cmp key_cmp key r.0 ≡ b → (b || list_any (λ (r : RowTree). eq_by_cmp key_cmp key r.0) rows) ≡ true → (primary : KeyTree) × ((is_row (key, primary) r || among rows (key, primary)) ≡ true)) [
      | true ↦ λ is _.
          let tied : key ≡ r.0 = key_cmp_same key r.0 ((Equal-is (key_cmp key r.0)).0 is) in
          (r.1, ap (λ k. is_row (k, r.1) r || among rows (k, r.1)) tied ∙ ap (λ b. b || among rows r) (itself r))
      | false ↦ λ is later. let found = row_with_key rows key later in (found.0, or_right (is_row (key, found.0) r) (among rows (key, found.0)) found.1)
    ] refl e

pub key_of_row : (s : RowSet) (row : RowTree) → has_row s row ≡ true → has_key s row.0 ≡ true
key_of_row s row e = key_among (rows_of s) row (sym (has_row_among s row) ∙ e)

pub row_of_key : (s : RowSet) (key : KeyTree) → has_key s key ≡ true → (primary : KeyTree) × (has_row s (key, primary) ≡ true)
row_of_key s key e = let found = row_with_key (rows_of s) key e in (found.0, has_row_among s (key, found.0) ∙ found.1)

-- ---- rows put in that may be there
or_left : (a b : Bool) → a ≡ true → (a || b) ≡ true
or_left true b e = refl
or_left false b e = cc

either_way : (a b : Bool) → (a ≡ true → b ≡ true) → (a || b) ≡ b
either_way true b f = sym (f refl)
either_way false b f = refl

-- a row that is there changes nothing
pub with_present : (s : RowSet) (row : RowTree) → has_row s row ≡ true → s ≡ with_row s row
with_present s row there = sym (same_rows _ _ (λ q. has_with_row s row q
    ∙ either_way (is_row q row) (has_row s q) (λ e. ap (λ r. has_row s r) (same_row q row e) ∙ there)))

outweighs : (a b c d : Bool) → (d ≡ true → a ≡ true) → (a || (not b && c)) ≡ (a || (not b && (not d && c)))
outweighs true b c d f = refl
outweighs false b c true f = let never : false ≡ true = f refl in cc
outweighs false b c false f = refl

-- before rows come, one of them needn't go
pub comes_again : (s : RowSet) (row : RowTree) (rows coming : List RowTree) → among coming row ≡ true
    → with_rows (without_rows s rows) coming ≡ with_rows (without_rows (without_row s row) rows) coming
comes_again s row rows coming again = same_rows _ _ (λ q.
    has_with_rows (without_rows s rows) coming q
    ∙ ap (λ b. among coming q || b) (has_without_rows s rows q)
    ∙ outweighs (among coming q) (among rows q) (has_row s q) (is_row q row) (λ e. ap (λ r. among coming r) (same_row q row e) ∙ again)
    ∙ ap (λ b. among coming q || (not (among rows q) && b)) (sym (has_without_row s row q))
    ∙ ap (λ b. among coming q || b) (sym (has_without_rows (without_row s row) rows q))
    ∙ sym (has_with_rows (without_rows (without_row s row) rows) coming q))
