-- The rows of an index (Indexed Database API 3.0, "index", its list of records): pairs of an index key and a primary key, by both in that order.
--     RowTree               a row as plain data
--     row_cmp, is_row       the order of rows, and whether two rows are one
--     RowSet                a finite set of rows; no_rows, has_row, with_row, without_row, rows_of (in their order), count_of
--     IndexRows             the rows of an index, and how many more can be added without memory
--     among                 a row is one of a list
--     AreNew, ArePresent    no row of a list is in a set;  each is
--     with_rows             a set and the rows of a list;  without_rows: a set without these
--     has_key               a row of the set has this index key
--     first_row             the place of the first row whose index key meets a lower bound
use Rattle.std.specs.Prelude.{◌≡◌, ℕ, Bool, true, false, List, [], ◌∷◌, Option, refl}
use Rattle.std.specs.Coded.{Coded, code_by, coded×, coded_ℕ}
use Rattle.std.specs.List.{list_any, position_or_len}
use Rattle.std.specs.declared.cmp.Ordering.{Ordering}
use Rattle.std.specs.Ordering.{ordering_then, eq_by_cmp}
use Rattle.std.specs.FinMap as finite
use Rattle.std.specs.FinSet as set
use Rattle.clone_values.specs.KeyTree.{KeyTree, key_code}
use Rattle.idb_keys.specs.KeyOrder.{key_cmp}
use Rattle.idb_keys.specs.KeyRange.{Bound, meets_lower}

-- an index key and a primary key
abbrev pub RowTree : Type 0
RowTree = KeyTree × KeyTree

abbrev pub row_code : Coded RowTree
row_code = coded× key_code key_code

-- the index key decides first, and then the primary key
abbrev pub row_cmp : RowTree → RowTree → Ordering
row_cmp p q = ordering_then (key_cmp p.0 q.0) (key_cmp p.1 q.1)

-- the two are one row
abbrev pub is_row : RowTree → RowTree → Bool
is_row = eq_by_cmp row_cmp

-- a finite set of rows, which is a finite map with nothing at each row
abbrev pub RowSet : Type 0
RowSet = set.FinSet row_cmp

abbrev pub no_rows : RowSet
no_rows = finite.empty

-- the row is in the set
abbrev pub has_row : RowSet → RowTree → Bool
has_row s row = finite.contains_key s row

-- the set and this row
abbrev pub with_row : RowSet → RowTree → RowSet
with_row s row = finite.insert s row tt

-- the set without this row
abbrev pub without_row : RowSet → RowTree → RowSet
without_row s row = finite.remove s row

-- the rows of the set, in their order
abbrev pub rows_of : RowSet → List RowTree
rows_of s = finite.keys s

-- how many rows the set has
abbrev pub count_of : RowSet → ℕ
count_of s = finite.len s

-- the rows of an index, and how many more can be added without memory
pub record IndexRows : Type 0 where
  pub rows : RowSet
  pub spare : ℕ

abbrev pub index_code : Coded IndexRows
index_code = code_by (RowSet × ℕ) (coded× (set.code row_code) coded_ℕ) (λ r. (r.rows, r.spare)) (λ p. record { rows = p.0; spare = p.1 }) (λ _. refl)

-- the row is one of the list
abbrev pub among : List RowTree → RowTree → Bool
among rows row = list_any (is_row row) rows

-- no row of the list is in the set
abbrev pub AreNew : RowSet → List RowTree → Type 0
AreNew s rows = (row : RowTree) → among rows row ≡ true → has_row s row ≡ false

-- each row of the list is in the set
abbrev pub ArePresent : RowSet → List RowTree → Type 0
ArePresent s rows = (row : RowTree) → among rows row ≡ true → has_row s row ≡ true

-- the set and the rows of the list
abbrev pub with_rows : RowSet → List RowTree → RowSet
with_rows s [] = s
with_rows s (row ∷ rows) = with_rows (with_row s row) rows

-- the set without the rows of the list
abbrev pub without_rows : RowSet → List RowTree → RowSet
without_rows s [] = s
without_rows s (row ∷ rows) = without_rows (without_row s row) rows

-- a row of the set has this index key
abbrev pub has_key : RowSet → KeyTree → Bool
has_key s key = list_any (λ row. eq_by_cmp key_cmp key row.0) (rows_of s)

-- the index key of this row meets the lower bound
abbrev pub row_meets : Option Bound → RowTree → Bool
row_meets lower row = meets_lower lower row.0

-- the place of the first row whose index key meets the lower bound; where none does, the number of the rows
abbrev pub first_row : Option Bound → RowSet → ℕ
first_row lower s = position_or_len (row_meets lower) (rows_of s)
