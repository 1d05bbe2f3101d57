-- What contracts see of rows and of the table that holds them.
--     row_of                a row as plain data;  row_seen: the same of a lent one
--     row_set               the set of the rows of a table's entries;  rows_in: the list of these
--     bound_seen            the bound that two arguments say
use denote.Ref.{Bor}
use Rattle.std.specs.Prelude.{Bool, List, Option, map, option_map}
use Rattle.std.specs.FinMap as finite
use Rattle.clone_values.specs.declared.key_types.Key.{Key}
use Rattle.clone_values.specs.View.{key_tree_of}
use Rattle.idb_keys.specs.KeyRange.{Bound, bound_at}
use Rattle.index_tables.specs.declared.rows.Row.{Row}
use Rattle.index_tables.specs.Rows.{RowTree, RowSet}

-- the index key and the primary key
abbrev pub row_of : Row → RowTree
row_of row = (key_tree_of row.key, key_tree_of row.primary)

abbrev pub row_seen : Bor Row → RowTree
row_seen row = row_of row.now

-- a row and nothing, as a set's entry
abbrev pub row_entry : Row × Unit {0} → RowTree × Unit {0}
row_entry e = (row_of e.0, e.1)

-- the set of a table's rows, which stand in order
abbrev pub row_set : List (Row × Unit {0}) → RowSet
row_set es = finite.from_sorted (map row_entry es)

-- the rows of a table, in their order
abbrev pub rows_in : List (Row × Unit {0}) → List RowTree
rows_in es = map (λ e. row_of e.0) es

-- the bound of this key, if there is one
abbrev pub bound_seen : Option (Bor Key) → Bool → Option Bound
bound_seen key is_open = option_map (λ k. bound_at (key_tree_of k.now) is_open) key
