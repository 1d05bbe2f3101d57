-- Clashes, found and told.
--     other_seen, other_none        the first row that a key may have tells whether another record has the key
--     clash_drop, clash_past        place by place
--     are_unique, clash_breaks      while the tables keep in step, a clash is what breaks a unique index
use Rattle.std.proofs.Common.{◌≡◌, ◌≢◌, ℕ, zero, suc, ◌+◌, ◌≤◌, Bool, true, false, not, List, [], ◌∷◌, refl, sym, ap, ◌∙◌, inl, inr, Option, Some, None, map, length, drop, arith}
use Rattle.std.specs.Prelude.{cond, ◌&&◌, ◌||◌, slice_get, is_some}
use Rattle.std.proofs.lemmas.Bool.{or_cases, and_parts, false≢true}
use Rattle.std.specs.List.{list_any, list_all, position_or_len}
use Rattle.std.specs.declared.cmp.Ordering.{Ordering}
use Rattle.std.specs.declared.cmp.Ordering.TheVariants.{Less, Equal, Greater}
use Rattle.std.specs.Ordering.{is_eq, is_lt}
use Rattle.std.specs.Cmp.{Equal-is, tied_itself}
use Rattle.std.specs.FinMap as finite
use Rattle.clone_values.specs.Tree.{Tree}
use Rattle.clone_values.specs.KeyTree.{KeyTree}
use Rattle.key_order.specs.KeyOrder.{key_cmp}
use Rattle.key_order.proofs.Laws.{key_cmp_total, key_cmp_same}
use Rattle.idb_keys.specs.KeyRange.{bound_at, admits}
use Rattle.idb_schema.specs.declared.definitions.IndexInfo.{IndexInfo}
use Rattle.index_tables.specs.Rows.{RowTree, RowSet, IndexRows, row_cmp, is_row, among, has_row, no_rows, rows_of, row_meets, first_row}
use Rattle.index_tables.specs.Orders.{row_cmp_total}
use Rattle.index_tables.proofs.Laws.{has_row_among}
use Rattle.index_tables.specs.RecordRows.{Records, is_one_of, index_keys, rows_of_record, index_rows}
use Rattle.index_tables.specs.Unique.{first_repeated, broken_key, is_broken}
use Rattle.store_contents.specs.Contents.{rows_in_indexes}
use Rattle.store_contents.specs.Matches.{InStep}
use Rattle.store_contents.specs.Clashes.{is_other, has_other, clash_in, clash_at, clash_any, AreUnique}
use Rattle.index_tables.proofs.Laws.{or_nothing}
use Rattle.store_contents.proofs.Laws.{none_left, none_shown}
use Rattle.index_tables.proofs.Laws.{keys_rise, keys_rise_from, rows_rise_in, is_less, same_primary, stays_unique, is_repeated}

-- ---- one look by halving
other_of : KeyTree → KeyTree → Option RowTree → Bool
other_of x k None = false
other_of x k (Some r) = is_other x k r

-- no row behind one that is not below the key has it
none_behind : (x k y : KeyTree) (rs : List RowTree) → ((z : KeyTree) → is_lt (key_cmp y z) ≡ true → key_cmp x z ≡ Less) → list_all (λ s. is_lt (key_cmp y s.0)) rs ≡ true → list_any (is_other x k) rs ≡ false
none_behind x k y [] f h = refl
none_behind x k y (r ∷ rs) f h =
    let parts = and_parts _ _ h in
    ap (λ o. (is_eq o && not (is_eq (key_cmp k r.1))) || list_any (is_other x k) rs) (f r.0 parts.0) ∙ none_behind x k y rs f parts.1

first_place : KeyTree → List RowTree → ℕ
first_place x rs = position_or_len (row_meets (Some (bound_at x false))) rs

first_tells : (x k : KeyTree) (rs : List RowTree) → keys_rise rs ≡ true → list_any (is_other x k) rs ≡ other_of x k (slice_get rs (first_place x rs))
unfolding first_place other_of
first_tells x k [] h = refl
first_tells x k (r ∷ rs) h =
    let parts = and_parts _ _ h in
    elim (key_cmp x r.0) as (λ o. key_cmp x r.0 ≡ o → ((is_eq o && not (is_eq (key_cmp k r.1))) || list_any (is_other x k) rs) ≡ other_of x k (slice_get (r ∷ rs) (cond (not (admits false o)) (1 + first_place x rs) 0))) [
      | Less ↦ λ e. none_behind x k r.0 rs (λ z lt. key_cmp_total.trans x r.0 z e (is_less _ lt)) parts.0 ∙ sym (ap (λ o. is_eq o && not (is_eq (key_cmp k r.1))) e)
      | Equal ↦ λ e. ap (λ b. not (is_eq (key_cmp k r.1)) || b) (none_behind x k r.0 rs (λ z lt. key_cmp_total.congr x r.0 z e ∙ is_less _ lt) parts.0) ∙ or_nothing _ ∙ sym (ap (λ o. is_eq o && not (is_eq (key_cmp k r.1))) e)
      | Greater ↦ λ e. first_tells x k rs parts.1 ∙ ap (λ n. other_of x k (slice_get (r ∷ rs) n)) (let one : suc (first_place x rs) ≡ 1 + first_place x rs = omega arith in one)
    ] refl

module _ (s : RowSet) (none : first_repeated (rows_of s) ≡ None) (x k : KeyTree) (place : ℕ) (at : place ≡ first_row (Some (bound_at x false)) s) where
  told : has_other s x k ≡ other_of x k (slice_get (rows_of s) place)
  unfolding first_place
  told = first_tells x k (rows_of s) (keys_rise_from (rows_of s) (rows_rise_in s) none) ∙ ap (λ n. other_of x k (slice_get (rows_of s) n)) (sym at)

  pub other_seen : (r : RowTree) → Some r ≡ slice_get (rows_of s) place → has_other s x k ≡ is_other x k r
  unfolding other_of
  other_seen r e = told ∙ ap (other_of x k) (sym e)

  pub other_none : None ≡ slice_get (rows_of s) place → has_other s x k ≡ false
  unfolding other_of
  other_none e = told ∙ ap (other_of x k) (sym e)

-- ---- place by place
no_tables : (is : List IndexInfo) (ls : List (List RowTree)) (k : KeyTree) → clash_any is [] ls k ≡ false
no_tables [] ls k = refl
no_tables (i ∷ is) ls k = refl

no_lists : (is : List IndexInfo) (ts : List IndexRows) (k : KeyTree) → clash_any is ts [] k ≡ false
no_lists [] ts k = refl
no_lists (i ∷ is) [] k = refl
no_lists (i ∷ is) (t ∷ ts) k = refl

no_table_at : (o : Option IndexInfo) (l : Option (List RowTree)) (k : KeyTree) → clash_at o None l k ≡ false
no_table_at None l k = refl
no_table_at (Some i) l k = refl

no_list_at : (o : Option IndexInfo) (t : Option IndexRows) (k : KeyTree) → clash_at o t None k ≡ false
no_list_at None t k = refl
no_list_at (Some i) None k = refl
no_list_at (Some i) (Some t) k = refl

clash_step : (is : List IndexInfo) (ts : List IndexRows) (ls : List (List RowTree)) (p : ℕ) (k : KeyTree)
    → clash_any (drop p is) (drop p ts) (drop p ls) k ≡ (clash_at (slice_get is p) (slice_get ts p) (slice_get ls p) k || clash_any (drop (suc p) is) (drop (suc p) ts) (drop (suc p) ls) k)
clash_step (i ∷ is) (t ∷ ts) (l ∷ ls) zero k = refl
clash_step (i ∷ is) (t ∷ ts) (l ∷ ls) (suc p) k = clash_step is ts ls p k
clash_step [] ts ls zero k = refl
clash_step [] ts ls (suc p) k = refl
clash_step (i ∷ is) [] ls zero k = sym (no_tables is (drop 1 ls) k)
clash_step (i ∷ is) [] ls (suc p) k = no_tables (drop p is) (drop (suc p) ls) k ∙ sym (λ j. no_table_at (slice_get is p) (slice_get ls (suc p)) k j || no_tables (drop (suc p) is) (drop (suc (suc p)) ls) k j)
clash_step (i ∷ is) (t ∷ ts) [] zero k = sym (no_lists is ts k)
clash_step (i ∷ is) (t ∷ ts) [] (suc p) k = no_lists (drop p is) (drop p ts) k ∙ sym (λ j. no_list_at (slice_get is p) (slice_get ts p) k j || no_lists (drop (suc p) is) (drop (suc p) ts) k j)

pub clash_drop : (is : List IndexInfo) (ts : List IndexRows) (ls : List (List RowTree)) (p : ℕ) (k : KeyTree)
    → clash_any (drop p is) (drop p ts) (drop p ls) k ≡ (clash_at (slice_get is p) (slice_get ts p) (slice_get ls p) k || clash_any (drop (p + 1) is) (drop (p + 1) ts) (drop (p + 1) ls) k)
clash_drop is ts ls p k = clash_step is ts ls p k ∙ ap (λ n. clash_at (slice_get is p) (slice_get ts p) (slice_get ls p) k || clash_any (drop n is) (drop n ts) (drop n ls) k) (let one : suc p ≡ p + 1 = omega arith in one)

pub clash_past : (is : List IndexInfo) (ts : List IndexRows) (ls : List (List RowTree)) (p : ℕ) (k : KeyTree) → length ls ≤ p → clash_any is ts (drop p ls) k ≡ false
clash_past is ts ls p k h = ap (λ rest. clash_any is ts rest k) (none_left p ls h) ∙ no_lists is ts k

pub is_true : (a b : Bool) → a ≡ true → (a && b) ≡ b
is_true a b e = ap (λ x. x && b) e

pub is_false : (a b : Bool) → a ≡ false → (a && b) ≡ false
is_false a b e = ap (λ x. x && b) e

-- ---- what a clash means
broken_none : (index : IndexInfo) (records : Records) → index.unique ≡ true → is_some (broken_key index records) ≡ false → first_repeated (rows_of (index_rows index records)) ≡ None
broken_none index records u e = nothing (first_repeated (rows_of (index_rows index records))) (sym (ap (λ b. is_some (cond b (first_repeated (rows_of (index_rows index records))) None)) u) ∙ e)
  where
    nothing : (o : Option KeyTree) → is_some o ≡ false → o ≡ None
    nothing None h = refl
    nothing (Some k) h = cc

or_both : (a b : Bool) → (a || b) ≡ false → (a ≡ false) × (b ≡ false)
or_both true b h = cc
or_both false b h = (refl, h)

pub are_unique : (is : List IndexInfo) (ts : List IndexRows) (records : Records) (spare : ℕ) → InStep is ts records spare → is_broken is records ≡ false → AreUnique is ts
are_unique [] ts records spare h clean place index table at there u = cc
are_unique (i ∷ is) [] records spare h clean place index table at there u = cc
are_unique (i ∷ is) (t ∷ ts) records spare h clean zero index table at there u =
    let one : index ≡ i = cc in let two : table ≡ t = cc in
    ap (λ t. first_repeated (rows_of t.rows)) two ∙ ap (λ s. first_repeated (rows_of s)) h.0 ∙ broken_none i records (ap (λ i. i.unique) (sym one) ∙ u) (or_both _ _ clean).0
are_unique (i ∷ is) (t ∷ ts) records spare h clean (suc place) index table at there u = are_unique is ts records spare h.2 (or_both _ _ clean).1 place index table at there u

-- a row of another record is among the rows
other_from_row : (x p k : KeyTree) (rs : List RowTree) → p ≢ k → among rs (x, p) ≡ true → list_any (is_other x k) rs ≡ true
other_from_row x p k [] ne h = cc
other_from_row x p k (r ∷ rs) ne h =
    elim (or_cases _ _ h) [
      | inl here ↦
          let same = same_primary x p r here in
          ap (λ b. b || list_any (is_other x k) rs) ((λ i. is_eq (same.0 i) && not (apart_keys k r.1 (λ e. ne (same.1 ∙ sym e)) i)))
      | inr there ↦ elim (is_other x k r) as (λ b. (b || list_any (is_other x k) rs) ≡ true) [ true ↦ refl | false ↦ other_from_row x p k rs ne there ]
    ]
  where
    apart_keys : (k q : KeyTree) → k ≢ q → is_eq (key_cmp k q) ≡ false
    apart_keys k q ne = elim (is_eq (key_cmp k q)) as (λ b. is_eq (key_cmp k q) ≡ b → b ≡ false) [ true ↦ λ t. absurd (ne (key_cmp_same k q ((Equal-is _).0 t))) | false ↦ λ t. refl ] refl

row_from_other : (x k : KeyTree) (rs : List RowTree) → list_any (is_other x k) rs ≡ true → (p : KeyTree) × (among rs (x, p) ≡ true) × (p ≢ k)
row_from_other x k [] h = cc
row_from_other x k (r ∷ rs) h =
    elim (or_cases _ _ h) [
      | inl here ↦
          let parts = and_parts _ _ here in
          (r.1, ap (λ o. is_eq o || among rs (x, r.1)) (ap (λ y. row_tie x y r.1) (sym (key_cmp_same x r.0 ((Equal-is _).0 parts.0))) ∙ tied_itself row_cmp_total (x, r.1)), λ same. false≢true (sym (ap (λ o. not (is_eq o)) (ap (key_cmp k) same ∙ tied_itself key_cmp_total k)) ∙ parts.1))
      | inr there ↦ let found = row_from_other x k rs there in (found.0, behind x found.0 r rs found.1, found.2)
    ]
  where
    row_tie : (x y p : KeyTree) → Ordering
    row_tie x y p = row_cmp (x, p) (y, p)

    behind : (x p : KeyTree) (r : RowTree) (rs : List RowTree) → among rs (x, p) ≡ true → among (r ∷ rs) (x, p) ≡ true
    behind x p r rs h = elim (is_row (x, p) r) as (λ b. (b || among rs (x, p)) ≡ true) [ true ↦ refl | false ↦ h ]

module _ (s : RowSet) (k : KeyTree) where
  key_clash : (ks : List KeyTree) → clash_in s k (map (λ j. (j, k)) ks) ≡ true → (x p : KeyTree) × (is_one_of ks x ≡ true) × (has_row s (x, p) ≡ true) × (p ≢ k)
  key_clash [] h = cc
  key_clash (j ∷ ks) h =
      elim (or_cases _ _ h) [
        | inl here ↦ let found = row_from_other j k (rows_of s) here in (j, found.0, ap (λ o. is_eq o || is_one_of ks j) (tied_itself key_cmp_total j), has_row_among s (j, found.0) ∙ found.1, found.2)
        | inr there ↦ let found = key_clash ks there in (found.0, found.1, later j found.0 ks found.2, found.3, found.4)
      ]
    where
      later : (j x : KeyTree) (ks : List KeyTree) → is_one_of ks x ≡ true → is_one_of (j ∷ ks) x ≡ true
      later j x ks h = elim (is_eq (key_cmp x j)) as (λ b. (b || is_one_of ks x) ≡ true) [ true ↦ refl | false ↦ h ]

  clash_key : (ks : List KeyTree) (x p : KeyTree) → is_one_of ks x ≡ true → has_row s (x, p) ≡ true → p ≢ k → clash_in s k (map (λ j. (j, k)) ks) ≡ true
  clash_key [] x p one has ne = cc
  clash_key (j ∷ ks) x p one has ne =
      elim (or_cases _ _ one) [
        | inl here ↦ ap (λ b. b || clash_in s k (map (λ j. (j, k)) ks)) (ap (λ y. has_other s y k) (sym (key_cmp_same x j ((Equal-is _).0 here))) ∙ other_from_row x p k (rows_of s) ne (sym (has_row_among s (x, p)) ∙ has))
        | inr there ↦ elim (has_other s j k) as (λ b. (b || clash_in s k (map (λ j. (j, k)) ks)) ≡ true) [ true ↦ refl | false ↦ clash_key ks x p there has ne ]
      ]

told_so : (o : Option KeyTree) → o ≢ None → is_some o ≡ true
told_so None h = absurd (h refl)
told_so (Some k) h = refl

not_so : (b : Bool) → b ≢ true → b ≡ false
not_so true h = absurd (h refl)
not_so false h = refl

module _ (index : IndexInfo) (records : Records) (k : KeyTree) (value : Tree) where
  unique_breaks : first_repeated (rows_of (index_rows index records)) ≡ None
      → clash_in (index_rows index records) k (rows_of_record index k value) ≡ is_some (first_repeated (rows_of (index_rows index (finite.insert records k value))))
  unique_breaks none =
      elim (clash_in (index_rows index records) k (rows_of_record index k value)) as (λ b. clash_in (index_rows index records) k (rows_of_record index k value) ≡ b → b ≡ is_some (first_repeated (rows_of (index_rows index (finite.insert records k value))))) [
        | true ↦ λ e. let found = key_clash (index_rows index records) k (index_keys index value) e in sym (told_so _ (is_repeated index records k value (found.0, found.1, found.2, found.3, found.4)))
        | false ↦ λ e. sym (not_so _ (stays_unique index records k value none (λ c. false≢true (sym e ∙ clash_key (index_rows index records) k (index_keys index value) c.0 c.1 c.2 c.3 c.4))))
      ] refl

  breaks : is_some (broken_key index records) ≡ false → (index.unique && clash_in (index_rows index records) k (rows_of_record index k value)) ≡ is_some (broken_key index (finite.insert records k value))
  breaks clean =
      elim index.unique as (λ b. index.unique ≡ b → (b && clash_in (index_rows index records) k (rows_of_record index k value)) ≡ is_some (cond b (first_repeated (rows_of (index_rows index (finite.insert records k value)))) None)) [
        | true ↦ λ u. unique_breaks (broken_none index records u clean)
        | false ↦ λ u. refl
      ] refl

-- an index without rows has none of another record
no_other : (x k : KeyTree) → has_other no_rows x k ≡ false
no_other x k = ap (λ rs. list_any (is_other x k) rs) none_shown

no_clash : (k : KeyTree) (rows : List RowTree) → clash_in no_rows k rows ≡ false
no_clash k [] = refl
no_clash k (r ∷ rows) = ap (λ b. b || clash_in no_rows k rows) (no_other r.0 k) ∙ no_clash k rows

and_none : (a b : Bool) → b ≡ false → (a && b) ≡ false
and_none true b e = e
and_none false b e = refl

clash_breaks_none : (is : List IndexInfo) (records : Records) (spare : ℕ) (k : KeyTree) (value : Tree) → InStep is [] records spare → is_broken is records ≡ false → false ≡ is_broken is (finite.insert records k value)
clash_breaks_none [] records spare k value h clean = refl
clash_breaks_none (i ∷ is) records spare k value h clean =
    let parts = or_both _ _ clean in
    clash_breaks_none is records spare k value h.2 parts.1 ∙ ap (λ b. b || is_broken is (finite.insert records k value)) (
    sym (and_none i.unique (clash_in no_rows k (rows_of_record i k value)) (no_clash k (rows_of_record i k value)))
    ∙ ap (λ s. i.unique && clash_in s k (rows_of_record i k value)) (sym h.0) ∙ breaks i records k value parts.0)

pub clash_breaks : (is : List IndexInfo) (ts : List IndexRows) (records : Records) (spare : ℕ) (k : KeyTree) (value : Tree) → InStep is ts records spare → is_broken is records ≡ false
    → clash_any is ts (rows_in_indexes is k value) k ≡ is_broken is (finite.insert records k value)
clash_breaks [] [] records spare k value h clean = refl
clash_breaks [] (t ∷ ts) records spare k value h clean = absurd h
clash_breaks (i ∷ is) [] records spare k value h clean = clash_breaks_none (i ∷ is) records spare k value h clean
clash_breaks (i ∷ is) (t ∷ ts) records spare k value h clean =
    let parts = or_both _ _ clean in
    (λ j. (i.unique && clash_in (h.0 j) k (rows_of_record i k value)) || clash_breaks is ts records spare k value h.2 parts.1 j)
    ∙ ap (λ b. b || is_broken is (finite.insert records k value)) (breaks i records k value parts.0)
