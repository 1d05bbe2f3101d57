-- From the entries of a table to the set of its rows.
--     rows_of_set, seen_at, count_of_set      the rows of the set, one of them, and how many
--     set_of_none                     no entry, no row
--     is_lacked                       a row that is not in the set has no entry
--     has_answered                    whether a row is in the set, by the answer of `place_of`
--     set_of_put, set_of_removed, set_without_absent       what `put`, `remove` and leaving as it is make of the set
use Rattle.std.proofs.Common.{◌≡◌, ℕ, zero, suc, ◌+◌, ◌≤◌, Bool, true, false, List, [], ◌∷◌, refl, sym, ap, subst, ◌∙◌, Option, Some, None, map, length, take, add-one, arith}
use Rattle.std.proofs.lemmas.List.{length-map, length-take-le}
use Rattle.std.proofs.lemmas.Option.{slice_get_within, slice_get-map}
use Rattle.std.specs.Prelude.{not, ◌&&◌, T, is_some, slice_get, option_map, remove, Result, Ok, Err, is_ok, IfOk, IfErr}
use Rattle.std.specs.FinMap as finite
use Rattle.std.specs.FinMap.{find, put, is_sorted}
use Rattle.std.specs.FinMap.Entries.{is_sorted-put, by_order}
use Rattle.sorted_table.specs.Tables.{HasKeyAt, BelongsAt, without}
use Rattle.sorted_table.proofs.Laws.{first, second, sorted_remove, swapped_less}
use Rattle.sorted_table.proofs.Laws.{absent, found, removed, appended, stands}
use Rattle.sorted_table.proofs.Laws.{entries_remove}
use Rattle.index_tables.specs.declared.rows.Row.{Row}
use Rattle.index_tables.specs.Rows.{RowTree, row_cmp, is_row, no_rows, has_row, with_row, without_row, rows_of, count_of}
use Rattle.index_tables.specs.View.{row_of, row_entry, row_set, rows_in}
use Rattle.index_tables.specs.Orders.{by_row_order, row_cmp_total, row_cmp_same, by_row_order_total}
use Rattle.index_tables.proofs.RowLaws.{same_rows, has_without_row, same_row, with_present}
use Rattle.index_tables.proofs.Mapped.{sorted_mapped, find_mapped, put_mapped, without_mapped, below_at}

abbrev pub Entries : Type 0
Entries = List (Row × Unit {0})

abbrev pub InOrder : Entries → Type 0
InOrder es = T (is_sorted by_row_order es)

pub rows_in_order : (es : Entries) → InOrder es → T (is_sorted row_cmp (map row_entry es))
rows_in_order es h = subst T (sorted_mapped row_of row_cmp es) h

entries_of_set : (es : Entries) → InOrder es → finite.entries (row_set es) ≡ map row_entry es
entries_of_set es h = finite.entries-from_sorted row_cmp (map row_entry es) (rows_in_order es h)

pub first_of_each : (es : Entries) → map (λ (e : RowTree × Unit {0}). e.0) (map row_entry es) ≡ rows_in es
first_of_each [] = refl
first_of_each (e ∷ es) = ap (λ r. row_of e.0 ∷ r) (first_of_each es)

pub rows_of_set : (es : Entries) → InOrder es → rows_of (row_set es) ≡ rows_in es
rows_of_set es h = ap (λ fs. map (λ (e : RowTree × Unit {0}). e.0) fs) (entries_of_set es h) ∙ first_of_each es

-- a row by its place
pub seen_at : (es : Entries) (i : ℕ) (o : Option (Row × Unit {0})) → InOrder es → o ≡ slice_get es i → option_map (λ e. row_of e.0) o ≡ slice_get (rows_of (row_set es)) i
seen_at es i o h at = ap (option_map (λ e. row_of e.0)) at ∙ sym (slice_get-map (λ e. row_of e.0) es i) ∙ ap (λ rows. slice_get rows i) (sym (rows_of_set es h))

pub count_of_set : (es : Entries) → InOrder es → count_of (row_set es) ≡ length es
count_of_set es h = finite.len-entries (row_set es) ∙ ap length (entries_of_set es h) ∙ length-map es row_entry

pub set_of_none : (es : Entries) → es ≡ [] → row_set es ≡ no_rows
set_of_none es e = ap row_set e ∙ same_rows (row_set []) no_rows (λ q. ap is_some (finite.get-from_sorted row_cmp [] q tt ∙ sym (finite.get-empty row_cmp q)))

-- what the set has at a row is what is found in the table
pub found_in_set : (es : Entries) (row : Row) → InOrder es → finite.get (row_set es) (row_of row) ≡ find by_row_order row es
found_in_set es row h = finite.get-from_sorted row_cmp (map row_entry es) (row_of row) (rows_in_order es h) ∙ sym (find_mapped row_of row_cmp row es)

none_there : (x : Option (Unit {0})) → is_some x ≡ false → x ≡ None
none_there None e = refl
none_there (Some u) e = cc

pub is_lacked : (es : Entries) (row : Row) → InOrder es → has_row (row_set es) (row_of row) ≡ false → find by_row_order row es ≡ None
is_lacked es row h e = sym (found_in_set es row h) ∙ none_there _ e

pub set_of_put : (es : Entries) (row : Row) (u : Unit {0}) → InOrder es → row_set (put by_row_order row u es) ≡ with_row (row_set es) (row_of row)
set_of_put es row u h = finite.same_entries_map _ _ (
    entries_of_set (put by_row_order row u es) (is_sorted-put by_row_order by_row_order_total row u es h)
    ∙ put_mapped row_of row_cmp row u es
    ∙ ap (λ fs. put row_cmp (row_of row) tt fs) (sym (entries_of_set es h))
    ∙ sym (finite.entries-insert row_cmp_total (row_set es) (row_of row) tt))

pub set_of_removed : (es : Entries) (place : ℕ) (row : Row) → InOrder es → HasKeyAt by_row_order es place row → row_set (remove es place) ≡ without_row (row_set es) (row_of row)
set_of_removed es place row h at = finite.same_entries_map _ _ (
    entries_of_set (remove es place) (sorted_remove by_row_order es place h)
    ∙ ap (λ ds. map row_entry ds) (removed by_row_order_total es place row at)
    ∙ without_mapped row_of row_cmp row es
    ∙ ap (λ fs. without row_cmp (row_of row) fs) (sym (entries_of_set es h))
    ∙ sym (entries_remove row_cmp_total row_cmp_same (row_set es) (row_of row)))

has_absent : (es : Entries) (place : ℕ) (row : Row) → InOrder es → BelongsAt by_row_order es place row → has_row (row_set es) (row_of row) ≡ false
has_absent es place row h b = ap is_some (found_in_set es row h ∙ absent by_row_order_total es place row b)

pub has_answered : (es : Entries) (row : Row) (r : Result ℕ ℕ) → InOrder es → IfOk r (λ place. HasKeyAt by_row_order es place row) → IfErr r (λ place. BelongsAt by_row_order es place row) → is_ok r ≡ has_row (row_set es) (row_of row)
has_answered es row (Ok place) h has belongs = sym (ap is_some (found_in_set es row h ∙ found by_row_order_total es place row has))
has_answered es row (Err place) h has belongs = sym (has_absent es place row h belongs)

pub set_with_present : (es : Entries) (place : ℕ) (row : Row) → InOrder es → HasKeyAt by_row_order es place row → row_set es ≡ with_row (row_set es) (row_of row)
set_with_present es place row h at = with_present (row_set es) (row_of row) (ap is_some (found_in_set es row h ∙ found by_row_order_total es place row at))

kept : (a b : Bool) → (a ≡ true → b ≡ false) → (not a && b) ≡ b
kept true b f = sym (f refl)
kept false b f = refl

pub set_without_absent : (es : Entries) (place : ℕ) (row : Row) → InOrder es → BelongsAt by_row_order es place row → row_set es ≡ without_row (row_set es) (row_of row)
set_without_absent es place row h b = sym (same_rows _ _ (λ q. has_without_row (row_set es) (row_of row) q
    ∙ kept (is_row q (row_of row)) (has_row (row_set es) q) (λ e. ap (λ r. has_row (row_set es) r) (same_row q (row_of row) e) ∙ has_absent es place row h b)))

-- ---- the entries of a table put one by one into another, in order
taken_put : (es : Entries) (i : ℕ) (d : Row × Unit {0}) → InOrder es → slice_get es i ≡ Some d → put by_row_order d.0 d.1 (take i es) ≡ take (suc i) es
taken_put [] i d h at = cc
taken_put (e ∷ es) zero d h at = let same : e ≡ d = cc in ap (λ x. x ∷ []) (sym same)
taken_put (e ∷ es) (suc i) d h at =
    ap (λ r. by_order r (d ∷ e ∷ take i es) ((e.0, d.1) ∷ take i es) (e ∷ put by_row_order d.0 d.1 (take i es))) (swapped_less by_row_order_total e.0 d.0 (below_at by_row_order e.0 es i d (first _ _ h) at))
    ∙ ap (λ r. e ∷ r) (taken_put es i d (second _ _ h) at)

pub copy_belongs : (es copies : Entries) (i : ℕ) (row copy : Row) (u : Unit {0}) → InOrder es → Some (row, u) ≡ slice_get es i → copies ≡ take i es → copy ≡ row → BelongsAt by_row_order copies i copy
copy_belongs es copies i row copy u h at so same =
    let all : length (take i es) ≡ i = length-take-le i es (omega (arith, slice_get_within es i (row, u) (sym at))) in
    rw (so, same) (subst (λ n. BelongsAt by_row_order (take i es) n row) all
    (appended by_row_order_total (take i es) row (stands by_row_order_total es i row u h (sym at)).before))

pub copy_is_put : (es copies new : Entries) (i : ℕ) (row copy : Row) (u : Unit {0}) → InOrder es → Some (row, u) ≡ slice_get es i → copies ≡ take i es → copy ≡ row → new ≡ put by_row_order copy u copies → new ≡ take (i + 1) es
copy_is_put es copies new i row copy u h at so same put = put ∙ rw (so, same, add-one) (taken_put es i (row, u) h (sym at))

pub past_end : {A : Type 0} (xs : List A) (i : ℕ) → None ≡ slice_get xs i → length xs ≤ i
past_end [] i e = omega arith
past_end (x ∷ xs) zero e = cc
past_end (x ∷ xs) (suc i) e = omega (arith, past_end xs i e)
