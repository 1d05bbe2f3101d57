-- The rows of an index follow its records.
--     among_rows_of_record, has_index_row                  a row is there where the record of its primary key gives its key
--     rows_with, rows_over, rows_without                   a record comes, comes over another, goes
--     rows_new, rows_present                               which of its rows are there
use Rattle.std.specs.Prelude.{◌≡◌, Bool, true, false, cond, not, ◌&&◌, ◌||◌, T, List, [], ◌∷◌, map, Some, None, refl}
use Rattle.std.proofs.Common.{sym, ap, ◌∙◌}
use Rattle.std.specs.List.{flat_map}
use Rattle.std.proofs.lemmas.Bool.{and_parts}
use Rattle.std.proofs.lemmas.List.Folds.{list_any-append}
use Rattle.std.specs.Ordering.{is_eq, ordering_then}
use Rattle.std.specs.declared.cmp.Ordering.{Ordering}
use Rattle.std.specs.declared.cmp.Ordering.TheVariants.{Less, Equal, Greater}
use Rattle.std.specs.Cmp.{Equal-is}
use Rattle.std.specs.FinMap.{find, is_sorted, entries, entries_sorted, get, get-entries, insert, remove, get-insert, get-remove}
use Rattle.std.specs.FinMap.Entries.{below_all}
use Rattle.clone_values.specs.Tree.{Tree}
use Rattle.clone_values.specs.KeyTree.{KeyTree}
use Rattle.idb_keys.specs.KeyOrder.{key_cmp}
use Rattle.idb_keys.proofs.Laws.{key_cmp_total, key_cmp_same}
use Rattle.idb_schema.specs.declared.definitions.IndexInfo.{IndexInfo}
use Rattle.index_tables.specs.Rows.{RowTree, is_row, among, has_row, no_rows, AreNew, ArePresent, with_rows, without_rows}
use Rattle.sorted_table.proofs.Laws.{is_less, first, second}
use Rattle.index_tables.proofs.RowLaws.{same_rows, has_with_rows, has_without_rows, has_no_row}
use Rattle.index_tables.specs.RecordRows.{Records, is_one_of, gives_key, index_keys, rows_of_record, index_rows}

both_tie : (a b : Ordering) → is_eq (ordering_then a b) ≡ (is_eq b && is_eq a)
both_tie Less Less = refl
both_tie Less Equal = refl
both_tie Less Greater = refl
both_tie Equal Less = refl
both_tie Equal Equal = refl
both_tie Equal Greater = refl
both_tie Greater Less = refl
both_tie Greater Equal = refl
both_tie Greater Greater = refl

spread : (a b c : Bool) → ((a && b) || (a && c)) ≡ (a && (b || c))
spread true b c = refl
spread false b c = refl

never : (a : Bool) → false ≡ (a && false)
never true = refl
never false = refl

-- a row is one of a record's rows where its primary key is the record's and its index key one of the value's
any_of_record : (ks : List KeyTree) (primary : KeyTree) (row : RowTree) → among (map (λ k. (k, primary)) ks) row ≡ (is_eq (key_cmp row.1 primary) && is_one_of ks row.0)
any_of_record [] primary row = never _
any_of_record (k ∷ ks) primary row =
    (λ i. both_tie (key_cmp row.0 k) (key_cmp row.1 primary) i || any_of_record ks primary row i)
    ∙ spread (is_eq (key_cmp row.1 primary)) (is_eq (key_cmp row.0 k)) (is_one_of ks row.0)

pub among_rows_of_record : (index : IndexInfo) (primary : KeyTree) (value : Tree) (row : RowTree) → among (rows_of_record index primary value) row ≡ (is_eq (key_cmp row.1 primary) && gives_key index row.0 (Some value))
among_rows_of_record index primary value row = any_of_record (index_keys index value) primary row

-- behind an entry of a sorted list no other has its key
none_behind : (p x : KeyTree) (es : List (KeyTree × Tree)) → key_cmp p x ≡ Equal → T (below_all key_cmp x es) → find key_cmp p es ≡ None
none_behind p x [] tie h = refl
none_behind p x (e ∷ es) tie h =
    ap (λ r. cond (is_eq r) (Some e.1) (find key_cmp p es)) (key_cmp_total.congr p x e.0 tie ∙ is_less _ (first _ _ h)) ∙ none_behind p x es tie (second _ _ h)

not_both : (a : Bool) → (not a && a) ≡ false
not_both true = refl
not_both false = refl

pub or_nothing : (a : Bool) → (a || false) ≡ a
or_nothing true = refl
or_nothing false = refl

-- the rows of sorted records have a row where the record of its primary key gives its index key
any_of_records : (index : IndexInfo) (row : RowTree) (es : List (KeyTree × Tree)) → T (is_sorted key_cmp es)
    → among (flat_map (λ e. rows_of_record index e.0 e.1) es) row ≡ gives_key index row.0 (find key_cmp row.1 es)
any_of_records index row [] h = refl
any_of_records index row (e ∷ es) h =
    list_any-append (is_row row) (rows_of_record index e.0 e.1) (flat_map (λ e. rows_of_record index e.0 e.1) es)
    ∙ (λ i. among_rows_of_record index e.0 e.1 row i || any_of_records index row es (second _ _ h) i)
    ∙ elim (is_eq (key_cmp row.1 e.0)) as (λ b. is_eq (key_cmp row.1 e.0) ≡ b → ((b && gives_key index row.0 (Some e.1)) || gives_key index row.0 (find key_cmp row.1 es)) ≡ gives_key index row.0 (cond b (Some e.1) (find key_cmp row.1 es))) [
      | true ↦ λ t. ap (λ o. gives_key index row.0 (Some e.1) || gives_key index row.0 o) (none_behind row.1 e.0 es ((Equal-is _).0 t) (first _ _ h)) ∙ or_nothing _
      | false ↦ λ t. refl
    ] refl

-- an index has a row where the record of its primary key gives its index key
pub has_index_row : (index : IndexInfo) (records : Records) (row : RowTree) → has_row (index_rows index records) row ≡ gives_key index row.0 (get records row.1)
has_index_row index records row =
    has_with_rows no_rows _ row
    ∙ (λ i. any_of_records index row (entries records) (entries_sorted records) i || has_no_row row i)
    ∙ or_nothing _
    ∙ ap (gives_key index row.0) (sym (get-entries records row.1))

module _ (index : IndexInfo) (records : Records) (k : KeyTree) (value : Tree) where
  -- what a key that ties finds is what this key finds
  found_tied : (q : KeyTree) → is_eq (key_cmp q k) ≡ true → get records q ≡ get records k
  found_tied q tie = ap (get records) (key_cmp_same q k ((Equal-is _).0 tie))

  -- with a new record stand its rows beside the others
  pub rows_with : get records k ≡ None → index_rows index (insert records k value) ≡ with_rows (index_rows index records) (rows_of_record index k value)
  rows_with absent = same_rows _ _ (λ q.
      has_index_row index (insert records k value) q
      ∙ ap (gives_key index q.0) (get-insert key_cmp_total records k value q.1)
      ∙ elim (is_eq (key_cmp q.1 k)) as (λ b. is_eq (key_cmp q.1 k) ≡ b → gives_key index q.0 (cond b (Some value) (get records q.1)) ≡ ((b && gives_key index q.0 (Some value)) || gives_key index q.0 (get records q.1))) [
        | true ↦ λ t. sym (ap (λ o. gives_key index q.0 (Some value) || gives_key index q.0 o) (found_tied q.1 t ∙ absent) ∙ or_nothing _)
        | false ↦ λ t. refl
      ] refl
      ∙ sym (has_with_rows _ _ q ∙ (λ i. among_rows_of_record index k value q i || has_index_row index records q i)))

  -- where a record comes in place of one of its key, its rows come in place of the rows of that
  pub rows_over : (old : Tree) → get records k ≡ Some old
      → index_rows index (insert records k value) ≡ with_rows (without_rows (index_rows index records) (rows_of_record index k old)) (rows_of_record index k value)
  rows_over old there = same_rows _ _ (λ q.
      has_index_row index (insert records k value) q
      ∙ ap (gives_key index q.0) (get-insert key_cmp_total records k value q.1)
      ∙ elim (is_eq (key_cmp q.1 k)) as (λ b. is_eq (key_cmp q.1 k) ≡ b → gives_key index q.0 (cond b (Some value) (get records q.1))
      ≡ ((b && gives_key index q.0 (Some value)) || (not (b && gives_key index q.0 (Some old)) && gives_key index q.0 (get records q.1)))) [
        | true ↦ λ t. sym (ap (λ o. gives_key index q.0 (Some value) || (not (gives_key index q.0 (Some old)) && gives_key index q.0 o)) (found_tied q.1 t ∙ there)
            ∙ ap (λ b. gives_key index q.0 (Some value) || b) (not_both (gives_key index q.0 (Some old))) ∙ or_nothing _)
        | false ↦ λ t. refl
      ] refl
      ∙ sym (has_with_rows _ _ q ∙ (λ i. among_rows_of_record index k value q i || has_without_rows (index_rows index records) (rows_of_record index k old) q i)
      ∙ (λ i. (is_eq (key_cmp q.1 k) && gives_key index q.0 (Some value)) || (not (among_rows_of_record index k old q i) && has_index_row index records q i))))

  -- without a record its rows are gone
  pub rows_without : get records k ≡ Some value → index_rows index (remove records k) ≡ without_rows (index_rows index records) (rows_of_record index k value)
  rows_without there = same_rows _ _ (λ q.
      has_index_row index (remove records k) q
      ∙ ap (gives_key index q.0) (get-remove key_cmp_total records k q.1)
      ∙ elim (is_eq (key_cmp q.1 k)) as (λ b. is_eq (key_cmp q.1 k) ≡ b → gives_key index q.0 (cond b None (get records q.1)) ≡ (not (b && gives_key index q.0 (Some value)) && gives_key index q.0 (get records q.1))) [
        | true ↦ λ t. sym (ap (λ o. not (gives_key index q.0 (Some value)) && gives_key index q.0 o) (found_tied q.1 t ∙ there) ∙ not_both (gives_key index q.0 (Some value)))
        | false ↦ λ t. refl
      ] refl
      ∙ sym (has_without_rows _ _ q ∙ (λ i. not (among_rows_of_record index k value q i) && has_index_row index records q i)))

  -- the rows of a record whose key is absent are new
  pub rows_new : get records k ≡ None → AreNew (index_rows index records) (rows_of_record index k value)
  rows_new absent q one =
      has_index_row index records q ∙ ap (gives_key index q.0) (found_tied q.1 (and_parts _ _ (sym (among_rows_of_record index k value q) ∙ one)).0 ∙ absent)

  -- the rows of a record that is there are present
  pub rows_present : get records k ≡ Some value → ArePresent (index_rows index records) (rows_of_record index k value)
  rows_present there q one =
      let parts = and_parts _ _ (sym (among_rows_of_record index k value q) ∙ one) in
      has_index_row index records q ∙ ap (gives_key index q.0) (found_tied q.1 parts.0 ∙ there) ∙ parts.1
