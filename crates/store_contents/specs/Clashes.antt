-- Rows of a new record that a unique index has already, of another record.
--     has_other             a row of the set has this index key, and another primary key
--     clash_at              one of the rows has its index key there, if the index is unique
--     clash_any             the same in some index
use Rattle.std.specs.Prelude.{◌≡◌, ℕ, Bool, true, false, not, ◌&&◌, ◌||◌, List, [], ◌∷◌, slice_get, Option, Some, None}
use Rattle.std.specs.List.{list_any}
use Rattle.std.specs.Ordering.{is_eq}
use Rattle.clone_values.specs.KeyTree.{KeyTree}
use Rattle.key_order.specs.KeyOrder.{key_cmp}
use Rattle.idb_schema.specs.declared.definitions.IndexInfo.{IndexInfo}
use Rattle.index_tables.specs.Rows.{RowTree, RowSet, IndexRows, rows_of}
use Rattle.index_tables.specs.Unique.{first_repeated}

-- this row has the index key, and another primary key
abbrev pub is_other : KeyTree → KeyTree → RowTree → Bool
is_other key primary row = is_eq (key_cmp key row.0) && not (is_eq (key_cmp primary row.1))

abbrev pub has_other : RowSet → KeyTree → KeyTree → Bool
has_other rows key primary = list_any (is_other key primary) (rows_of rows)

abbrev pub clash_in : RowSet → KeyTree → List RowTree → Bool
clash_in rows primary list = list_any (λ row. has_other rows row.0 primary) list

abbrev pub clash_at : Option IndexInfo → Option IndexRows → Option (List RowTree) → KeyTree → Bool
clash_at (Some index) (Some table) (Some list) primary = index.unique && clash_in table.rows primary list
clash_at (Some index) (Some table) None primary = false
clash_at (Some index) None list primary = false
clash_at None table list primary = false

abbrev pub clash_any : List IndexInfo → List IndexRows → List (List RowTree) → KeyTree → Bool
clash_any (i ∷ is) (t ∷ ts) (list ∷ lists) primary = (i.unique && clash_in t.rows primary list) || clash_any is ts lists primary
clash_any (i ∷ is) (t ∷ ts) [] primary = false
clash_any (i ∷ is) [] lists primary = false
clash_any [] ts lists primary = false

-- no key of a unique index has two rows
abbrev pub AreUnique : List IndexInfo → List IndexRows → Type 0
AreUnique indexes tables = (place : ℕ) (index : IndexInfo) (table : IndexRows) → Some index ≡ slice_get indexes place → Some table ≡ slice_get tables place → index.unique ≡ true → first_repeated (rows_of table.rows) ≡ None
