-- What contracts see of a table of records.
--     record_of             the key and the value of an entry;  record_seen: the same of a lent one
--     own_rows              the members that a store shows: both keys are the record's
--     records_of            the records of a table's entries, which stand in order
use denote.Ref.{Bor}
use Rattle.std.specs.Prelude.{List, map}
use Rattle.std.specs.FinMap as finite
use Rattle.clone_values.specs.declared.key_types.Key.{Key}
use Rattle.clone_values.specs.declared.value_types.Value.{Value}
use Rattle.clone_values.specs.Tree.{Tree}
use Rattle.clone_values.specs.KeyTree.{KeyTree}
use Rattle.clone_values.specs.View.{key_tree_of, tree_of}
use Rattle.index_tables.specs.Rows.{RowTree}
use Rattle.index_tables.specs.RecordRows.{Records}

-- the key and the value
abbrev pub record_of : Key × Value → KeyTree × Tree
record_of e = (key_tree_of e.0, tree_of e.1)

abbrev pub record_seen : Bor Key × Bor Value → KeyTree × Tree
record_seen e = (key_tree_of e.0.now, tree_of e.1.now)

-- the records of a table's entries
abbrev pub records_of : List (Key × Value) → Records
records_of es = finite.from_sorted (map record_of es)

abbrev pub own_rows : List (Key × Value) → List RowTree
own_rows es = map (λ e. (key_tree_of e.0, key_tree_of e.0)) es
