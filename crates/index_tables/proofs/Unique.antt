-- What it means that no key has two rows, and when a new record brings a second one.
--     rows_rise_in, keys_rise_from, apart        rows rise;  where no key has two, their keys do, and two rows of one key are one
--     two_rows                                   where a key has two rows, there are two
--     broken_by, unbroken                        a unique index is broken by the least key that two records give
--     stays_unique, is_repeated                  a record that comes clashes, or not
use Rattle.std.specs.Prelude.{◌≡◌, ◌≢◌, ◌⊎◌, ◌↔◌, Bool, true, false, cond, ◌&&◌, ◌||◌, T, List, [], ◌∷◌, map, Option, Some, None, is_some, refl}
use Rattle.std.proofs.Common.{sym, ap, subst, ◌∙◌, inl, inr}
use Rattle.std.proofs.lemmas.Option.{same_Some}
use Rattle.std.proofs.lemmas.Bool.{or_cases, and_parts, false≢true, true≢false}
use Rattle.std.specs.List.{list_all}
use Rattle.std.specs.Ordering.{is_eq, is_lt, ordering_then}
use Rattle.std.specs.declared.cmp.Ordering.{Ordering}
use Rattle.std.specs.declared.cmp.Ordering.TheVariants.{Less, Equal, Greater}
use Rattle.std.specs.Cmp.{Equal-is, tied_itself}
use Rattle.index_tables.specs.Orders.{row_cmp_total}
use Rattle.std.specs.FinMap.{is_sorted, entries, entries_sorted, get, insert, get-insert}
use Rattle.std.specs.FinMap.Entries.{below_all}
use Rattle.clone_values.specs.Tree.{Tree}
use Rattle.clone_values.specs.KeyTree.{KeyTree}
use Rattle.idb_keys.specs.KeyOrder.{key_cmp}
use Rattle.idb_keys.proofs.Laws.{key_cmp_total, key_cmp_same, then_equal}
use Rattle.idb_schema.specs.declared.definitions.IndexInfo.{IndexInfo}
use Rattle.index_tables.specs.Rows.{RowTree, RowSet, row_cmp, is_row, among, has_row, rows_of}
use Rattle.sorted_table.proofs.Laws.{swapped_less, swapped_greater}
use Rattle.index_tables.proofs.RowLaws.{has_row_among, same_row}
use Rattle.index_tables.specs.RecordRows.{Records, gives_key, index_rows}
use Rattle.index_tables.specs.Unique.{first_repeated, broken_key, GivenTwice, IsLeastTwice}
use Rattle.index_tables.proofs.RecordRows.{has_index_row}

-- each key is less than all keys behind it
abbrev pub keys_rise : List RowTree → Bool
keys_rise [] = true
keys_rise (r ∷ rs) = list_all (λ s. is_lt (key_cmp r.0 s.0)) rs && keys_rise rs

-- each row is less than all rows behind it
abbrev pub rows_rise : List RowTree → Bool
rows_rise [] = true
rows_rise (r ∷ rs) = list_all (λ s. is_lt (row_cmp r s)) rs && rows_rise rs

below_rows : (r : RowTree) (es : List (RowTree × Unit {0})) → T (below_all row_cmp r es) → list_all (λ s. is_lt (row_cmp r s)) (map (λ e. e.0) es) ≡ true
below_rows r [] h = refl
below_rows r (e ∷ es) h = elim (is_lt (row_cmp r e.0)) as (λ b. T (b && below_all row_cmp r es) → (b && list_all (λ s. is_lt (row_cmp r s)) (map (λ e. e.0) es)) ≡ true) [ true ↦ below_rows r es | false ↦ λ h. absurd h ] h

rise_from_sorted : (es : List (RowTree × Unit {0})) → T (is_sorted row_cmp es) → rows_rise (map (λ e. e.0) es) ≡ true
rise_from_sorted [] h = refl
rise_from_sorted (e ∷ es) h = elim (below_all row_cmp e.0 es) as (λ b. (T b → list_all (λ s. is_lt (row_cmp e.0 s)) (map (λ e. e.0) es) ≡ true) → T (b && is_sorted row_cmp es) → (list_all (λ s. is_lt (row_cmp e.0 s)) (map (λ e. e.0) es) && rows_rise (map (λ e. e.0) es)) ≡ true) [
  | true ↦ λ f h. ap (λ b. b && rows_rise (map (λ e. e.0) es)) (f tt) ∙ rise_from_sorted es h
  | false ↦ λ f h. absurd h
] (below_rows e.0 es) h

pub rows_rise_in : (s : RowSet) → rows_rise (rows_of s) ≡ true
rows_rise_in s = rise_from_sorted (entries s) (entries_sorted s)

pub is_less : (r : Ordering) → is_lt r ≡ true → r ≡ Less
is_less Less h = refl
is_less Equal h = absurd (false≢true h)
is_less Greater h = absurd (false≢true h)

-- of two rows in order, the keys are in order unless they tie
key_less : (a b : Ordering) → is_lt (ordering_then a b) ≡ true → is_eq a ≡ false → is_lt a ≡ true
key_less Less b h n = refl
key_less Equal b h n = absurd (true≢false n)
key_less Greater b h n = h

-- below a key that is below all of these
below_further : (x y : KeyTree) (rs : List RowTree) → is_lt (key_cmp x y) ≡ true → list_all (λ s. is_lt (key_cmp y s.0)) rs ≡ true → list_all (λ s. is_lt (key_cmp x s.0)) rs ≡ true
below_further x y [] h all = refl
below_further x y (r ∷ rs) h all =
    let parts = and_parts _ _ all in
    ap (λ o. is_lt o && list_all (λ s. is_lt (key_cmp x s.0)) rs) (key_cmp_total.trans x y r.0 (is_less _ h) (is_less _ parts.0)) ∙ below_further x y rs h parts.1

not_none : {A : Type 0} (x : A) → Some x ≢ None
not_none x e = true≢false (ap is_some e)

pub keys_rise_from : (rs : List RowTree) → rows_rise rs ≡ true → first_repeated rs ≡ None → keys_rise rs ≡ true
keys_rise_from [] h none = refl
keys_rise_from (r ∷ []) h none = refl
keys_rise_from (r ∷ s ∷ rs) h none =
    elim (is_eq (key_cmp r.0 s.0)) as (λ b. is_eq (key_cmp r.0 s.0) ≡ b → cond b (Some r.0) (first_repeated (s ∷ rs)) ≡ None → keys_rise (r ∷ s ∷ rs) ≡ true) [
      | true ↦ λ t is. absurd (not_none _ is)
      | false ↦ λ t is.
          let parts = and_parts _ _ h in
          let rest = keys_rise_from (s ∷ rs) parts.1 is in
          let less = key_less _ _ (and_parts _ _ parts.0).0 t in
          ap (λ b. b && keys_rise (s ∷ rs)) (ap (λ b. b && list_all (λ s. is_lt (key_cmp r.0 s.0)) rs) less ∙ below_further r.0 s.0 rs less (and_parts _ _ rest).0) ∙ rest
    ] refl none

not_among : (x p : KeyTree) (y : KeyTree) (rs : List RowTree) → key_cmp x y ≡ Equal → list_all (λ s. is_lt (key_cmp y s.0)) rs ≡ true → among rs (x, p) ≡ false
not_among x p y [] tie all = refl
not_among x p y (r ∷ rs) tie all =
    let parts = and_parts _ _ all in
    ap (λ o. is_eq (ordering_then o (key_cmp p r.1)) || among rs (x, p)) (key_cmp_total.congr x y r.0 tie ∙ is_less _ parts.0) ∙ not_among x p y rs tie parts.1

pub same_primary : (x p : KeyTree) (r : RowTree) → is_row (x, p) r ≡ true → (key_cmp x r.0 ≡ Equal) × (p ≡ r.1)
same_primary x p r h = let both = then_equal _ _ ((Equal-is _).0 h) in (both.0, key_cmp_same p r.1 both.1)

-- where keys rise, two rows of one key are one
apart_in : (x p q : KeyTree) (rs : List RowTree) → keys_rise rs ≡ true → among rs (x, p) ≡ true → among rs (x, q) ≡ true → p ≡ q
apart_in x p q [] h a b = absurd (false≢true a)
apart_in x p q (r ∷ rs) h a b =
    let parts = and_parts _ _ h in
    elim (or_cases _ _ a) [
      | inl here ↦ elim (or_cases _ _ b) [
        | inl too ↦ (same_primary x p r here).1 ∙ sym (same_primary x q r too).1
        | inr there ↦ absurd (false≢true (sym (not_among x q r.0 rs (same_primary x p r here).0 parts.0) ∙ there))
      ]
      | inr there ↦ elim (or_cases _ _ b) [
        | inl too ↦ absurd (false≢true (sym (not_among x p r.0 rs (same_primary x q r too).0 parts.0) ∙ there))
        | inr too ↦ apart_in x p q rs parts.1 there too
      ]
    ]

-- where no key has two rows, two rows of one key are one
pub apart : (s : RowSet) → first_repeated (rows_of s) ≡ None → (x p q : KeyTree) → has_row s (x, p) ≡ true → has_row s (x, q) ≡ true → p ≡ q
apart s none x p q a b = apart_in x p q (rows_of s) (keys_rise_from (rows_of s) (rows_rise_in s) none) (sym (has_row_among s (x, p)) ∙ a) (sym (has_row_among s (x, q)) ∙ b)

-- two rows of one key
abbrev pub HasTwo : (KeyTree → KeyTree → Type 0) → Type 0
HasTwo Row = (x p q : KeyTree) × Row x p × Row x q × (p ≢ q)

-- two rows of this key
abbrev pub HasTwoAt : (KeyTree → KeyTree → Type 0) → KeyTree → Type 0
HasTwoAt Row x = (p q : KeyTree) × Row x p × Row x q × (p ≢ q)

-- in order, two neighbours of one key have two primary keys
two_keys : (r s : RowTree) → is_lt (row_cmp r s) ≡ true → is_eq (key_cmp r.0 s.0) ≡ true → r.1 ≢ s.1
two_keys r s less tie same =
    false≢true (sym (ap is_lt ((λ i. ordering_then ((Equal-is (key_cmp r.0 s.0)).0 tie i) (key_cmp r.1 s.1)) ∙ ap (λ k. key_cmp k s.1) same ∙ tied_itself key_cmp_total s.1)) ∙ less)

among_front : (r : RowTree) (rs : List RowTree) → among (r ∷ rs) r ≡ true
among_front r rs = ap (λ o. is_eq o || among rs r) (tied_itself row_cmp_total r)

among_behind : (r s : RowTree) (rs : List RowTree) → among rs r ≡ true → among (s ∷ rs) r ≡ true
among_behind r s rs h = elim (is_row r s) as (λ b. (b || among rs r) ≡ true) [ true ↦ refl | false ↦ h ]

two_in : (rs : List RowTree) (x : KeyTree) → rows_rise rs ≡ true → first_repeated rs ≡ Some x → HasTwoAt (λ y p. among rs (y, p) ≡ true) x
two_in [] x h some = absurd (not_none x (sym some))
two_in (r ∷ []) x h some = absurd (not_none x (sym some))
two_in (r ∷ s ∷ rs) x h some =
    let parts = and_parts _ _ h in
    elim (is_eq (key_cmp r.0 s.0)) as (λ b. is_eq (key_cmp r.0 s.0) ≡ b → cond b (Some r.0) (first_repeated (s ∷ rs)) ≡ Some x → HasTwoAt (λ y p. among (r ∷ s ∷ rs) (y, p) ≡ true) x) [
      | true ↦ λ t is.
          let here = same_Some r.0 x is in
          subst (HasTwoAt (λ y p. among (r ∷ s ∷ rs) (y, p) ≡ true)) here (r.1, s.1, among_front r (s ∷ rs), among_behind (r.0, s.1) r (s ∷ rs) (ap (λ k. among (s ∷ rs) (k, s.1)) (key_cmp_same r.0 s.0 ((Equal-is _).0 t)) ∙ among_front s rs), two_keys r s (and_parts _ _ parts.0).0 t)
      | false ↦ λ t is.
          let two = two_in (s ∷ rs) x parts.1 is in
          (two.0, two.1, among_behind _ r (s ∷ rs) two.2, among_behind _ r (s ∷ rs) two.3, two.4)
    ] refl some

-- the key of which there are two rows
two_of_key : (s : RowSet) (x : KeyTree) → first_repeated (rows_of s) ≡ Some x → HasTwoAt (λ y p. has_row s (y, p) ≡ true) x
two_of_key s x some =
    let two = two_in (rows_of s) x (rows_rise_in s) some in
    (two.0, two.1, has_row_among s _ ∙ two.2, has_row_among s _ ∙ two.3, two.4)

the_key : (o : Option KeyTree) → is_some o ≡ true → (x : KeyTree) × (o ≡ Some x)
the_key None e = absurd (false≢true e)
the_key (Some x) e = (x, refl)

-- where some key has two rows, there are two
pub two_rows : (s : RowSet) → is_some (first_repeated (rows_of s)) ≡ true → HasTwo (λ x p. has_row s (x, p) ≡ true)
two_rows s some =
    let key = the_key _ some in
    let two = two_of_key s key.0 key.1 in
    (key.0, two.0, two.1, two.2, two.3, two.4)

below_one : (r q : RowTree) (rs : List RowTree) → list_all (λ s. is_lt (row_cmp r s)) rs ≡ true → among rs q ≡ true → is_lt (row_cmp r q) ≡ true
below_one r q [] h a = absurd (false≢true a)
below_one r q (s ∷ rs) h a =
    let parts = and_parts _ _ h in
    elim (or_cases _ _ a) [
      | inl here ↦ ap (λ t. is_lt (row_cmp r t)) (same_row q s here) ∙ parts.0
      | inr there ↦ below_one r q rs parts.1 there
    ]

-- a row of a list in order has no lesser key than the first
not_below : (r : RowTree) (rs : List RowTree) (y p : KeyTree) → list_all (λ s. is_lt (row_cmp r s)) rs ≡ true → among (r ∷ rs) (y, p) ≡ true → key_cmp y r.0 ≢ Less
not_below r rs y p h a less =
    elim (or_cases _ _ a) [
      | inl here ↦ false≢true (ap is_lt (sym (same_primary y p r here).0 ∙ less))
      | inr there ↦ false≢true (sym (ap (λ o. is_lt (ordering_then o (key_cmp r.1 p))) (swapped_less key_cmp_total y r.0 less)) ∙ below_one r (y, p) rs h there)
    ]

-- a key of which the first row has one, and the others another, ties with the second
ties_on : (r s : RowTree) (rs : List RowTree) (y p q : KeyTree) → rows_rise (r ∷ s ∷ rs) ≡ true → is_eq (key_cmp r.0 s.0) ≡ false → is_row (y, p) r ≡ true → among (s ∷ rs) (y, q) ≡ true → ⊥
ties_on r s rs y p q h apart here there =
    let parts = and_parts _ _ h in
    not_below s rs y q (and_parts _ _ parts.1).0 there
    (key_cmp_total.congr y r.0 s.0 (same_primary y p r here).0 ∙ is_less _ (key_less _ _ (and_parts _ _ parts.0).0 apart))

-- no lesser key has two
least_in : (rs : List RowTree) (x : KeyTree) → rows_rise rs ≡ true → first_repeated rs ≡ Some x → (y : KeyTree) → HasTwoAt (λ z p. among rs (z, p) ≡ true) y → key_cmp y x ≢ Less
least_in [] x h some y two = absurd (not_none x (sym some))
least_in (r ∷ []) x h some y two = absurd (not_none x (sym some))
least_in (r ∷ s ∷ rs) x h some y two =
    let parts = and_parts _ _ h in
    elim (is_eq (key_cmp r.0 s.0)) as (λ b. is_eq (key_cmp r.0 s.0) ≡ b → cond b (Some r.0) (first_repeated (s ∷ rs)) ≡ Some x → key_cmp y x ≢ Less) [
      | true ↦ λ t is. subst (λ z. key_cmp y z ≢ Less) (same_Some r.0 x is) (not_below r (s ∷ rs) y two.0 parts.0 two.2)
      | false ↦ λ t is. elim (or_cases _ _ two.2) [
        | inl one ↦ elim (or_cases _ _ two.3) [
          | inl other ↦ absurd (two.4 ((same_primary y two.0 r one).1 ∙ sym (same_primary y two.1 r other).1))
          | inr other ↦ absurd (ties_on r s rs y two.0 two.1 h t one other)
        ]
        | inr one ↦ elim (or_cases _ _ two.3) [
          | inl other ↦ absurd (ties_on r s rs y two.1 two.0 h t other one)
          | inr other ↦ least_in (s ∷ rs) x parts.1 is y (two.0, two.1, one, other, two.4)
        ]
      ]
    ] refl some

-- ---- two records that give a key
module _ (index : IndexInfo) (records : Records) where
  rows_given : (x : KeyTree) → GivenTwice index records x → HasTwoAt (λ y p. among (rows_of (index_rows index records)) (y, p) ≡ true) x
  rows_given x g = (
    g.one,
    g.other,
    sym (has_row_among (index_rows index records) (x, g.one)) ∙ has_index_row index records (x, g.one) ∙ g.by_one,
    sym (has_row_among (index_rows index records) (x, g.other)) ∙ has_index_row index records (x, g.other) ∙ g.by_other,
    g.apart,
  )

  given_rows : (x : KeyTree) → HasTwoAt (λ y p. has_row (index_rows index records) (y, p) ≡ true) x → GivenTwice index records x
  given_rows x two = record {
    one = two.0;
    other = two.1;
    by_one = sym (has_index_row index records (x, two.0)) ∙ two.2;
    by_other = sym (has_index_row index records (x, two.1)) ∙ two.3;
    apart = two.4;
  }

  least_given : (x : KeyTree) → first_repeated (rows_of (index_rows index records)) ≡ Some x → IsLeastTwice index records x
  least_given x some = record {
    given = given_rows x (two_of_key (index_rows index records) x some);
    least = λ y g. least_in (rows_of (index_rows index records)) x (rows_rise_in (index_rows index records)) some y (rows_given y g);
  }

  none_given : first_repeated (rows_of (index_rows index records)) ≡ None → (x : KeyTree) → ¬ GivenTwice index records x
  none_given none x g =
      g.apart (apart (index_rows index records) none x g.one g.other (has_index_row index records (x, g.one) ∙ g.by_one) (has_index_row index records (x, g.other) ∙ g.by_other))

  one_least : (x y : KeyTree) → IsLeastTwice index records x → IsLeastTwice index records y → x ≡ y
  one_least x y a b =
      elim (key_cmp x y) as (λ o. key_cmp x y ≡ o → x ≡ y) [
        | Less ↦ λ e. absurd (b.least x a.given e)
        | Equal ↦ λ e. key_cmp_same x y e
        | Greater ↦ λ e. absurd (a.least y b.given (swapped_greater key_cmp_total x y e))
      ] refl

  told : (x : KeyTree) → broken_key index records ≡ Some x → (index.unique ≡ true) × IsLeastTwice index records x
  told x = elim index.unique as (λ u. cond u (first_repeated (rows_of (index_rows index records))) None ≡ Some x → (u ≡ true) × IsLeastTwice index records x) [
    | true ↦ λ e. (refl, least_given x e)
    | false ↦ λ e. absurd (not_none x (sym e))
  ]

  breaks : (x : KeyTree) → index.unique ≡ true → IsLeastTwice index records x → broken_key index records ≡ Some x
  breaks x u h =
      ap (λ b. cond b (first_repeated (rows_of (index_rows index records))) None) u
      ∙ elim (first_repeated (rows_of (index_rows index records))) as (λ o. first_repeated (rows_of (index_rows index records)) ≡ o → o ≡ Some x) [
        | None ↦ λ e. absurd (none_given e x h.given)
        | Some y ↦ λ e. ap Some (one_least y x (least_given y e) h)
      ] refl

  -- a unique index is broken by the least key that two records give
  pub broken_by : (x : KeyTree) → broken_key index records ≡ Some x ↔ ((index.unique ≡ true) × IsLeastTwice index records x)
  broken_by x = (told x, λ h. breaks x h.0 h.1)

  -- and by none where no two records give one
  pub unbroken : broken_key index records ≡ None ↔ (index.unique ≡ true → (x : KeyTree) → ¬ GivenTwice index records x)
  unbroken = (
    λ e u. none_given (sym (ap (λ b. cond b (first_repeated (rows_of (index_rows index records))) None) u) ∙ e),
    λ f. elim (broken_key index records) as (λ o. broken_key index records ≡ o → o ≡ None) [
      | None ↦ λ e. refl
      | Some x ↦ λ e. absurd (f (told x e).0 x (told x e).1.given)
    ] refl,
  )

-- another record than the one of key k has an index key of the value
abbrev pub Clashes : IndexInfo → Records → KeyTree → Tree → Type 0
Clashes index records k value = (x p : KeyTree) × (gives_key index x (Some value) ≡ true) × (has_row (index_rows index records) (x, p) ≡ true) × (p ≢ k)

module _ (index : IndexInfo) (records : Records) (k : KeyTree) (value : Tree) where
  after : (x p : KeyTree) → has_row (index_rows index (insert records k value)) (x, p) ≡ gives_key index x (cond (is_eq (key_cmp p k)) (Some value) (get records p))
  after x p = has_index_row index (insert records k value) (x, p) ∙ ap (gives_key index x) (get-insert key_cmp_total records k value p)

  -- a row after the new record came is one of the record's own, or one of another's
  either : (x p : KeyTree) → has_row (index_rows index (insert records k value)) (x, p) ≡ true
      → ((p ≡ k) × (gives_key index x (Some value) ≡ true)) ⊎ ((p ≢ k) × (has_row (index_rows index records) (x, p) ≡ true))
  either x p h =
      elim (is_eq (key_cmp p k)) as (λ b. is_eq (key_cmp p k) ≡ b → gives_key index x (cond b (Some value) (get records p)) ≡ true → ((p ≡ k) × (gives_key index x (Some value) ≡ true)) ⊎ ((p ≢ k) × (has_row (index_rows index records) (x, p) ≡ true))) [
        | true ↦ λ t is. inl (key_cmp_same p k ((Equal-is _).0 t), is)
        | false ↦ λ t is. inr ((λ same. true≢false (sym (ap is_eq (ap (λ j. key_cmp j k) same ∙ tied_itself key_cmp_total k)) ∙ t)), has_index_row index records (x, p) ∙ is)
      ] refl (sym (after x p) ∙ h)

  -- where no key had two rows and the new record clashes with none, none has two
  pub stays_unique : first_repeated (rows_of (index_rows index records)) ≡ None → ¬ Clashes index records k value → is_some (first_repeated (rows_of (index_rows index (insert records k value)))) ≢ true
  stays_unique none clean some =
      let two = two_rows _ some in
      elim (either two.0 two.1 two.3) [
        | inl here ↦ elim (either two.0 two.2 two.4) [
          | inl too ↦ two.5 (here.0 ∙ sym too.0)
          | inr there ↦ clean (two.0, two.2, here.1, there.1, there.0)
        ]
        | inr there ↦ elim (either two.0 two.2 two.4) [
          | inl here ↦ clean (two.0, two.1, here.1, there.1, there.0)
          | inr too ↦ two.5 (apart _ none two.0 two.1 two.2 there.1 too.1)
        ]
      ]

  -- where it clashes, some key has two
  pub is_repeated : Clashes index records k value → first_repeated (rows_of (index_rows index (insert records k value))) ≢ None
  is_repeated c none =
      c.4 (apart _ none c.0 c.1 k
      (after c.0 c.1 ∙ elim (is_eq (key_cmp c.1 k)) as (λ b. is_eq (key_cmp c.1 k) ≡ b → gives_key index c.0 (cond b (Some value) (get records c.1)) ≡ true) [
        | true ↦ λ t. absurd (c.4 (key_cmp_same c.1 k ((Equal-is _).0 t)))
        | false ↦ λ t. sym (has_index_row index records (c.0, c.1)) ∙ c.3
      ] refl)
      (after c.0 k ∙ ap (λ o. gives_key index c.0 (cond (is_eq o) (Some value) (get records k))) (tied_itself key_cmp_total k) ∙ c.2))
