-- What the table of records and the tables of rows show.
--     shown_by              the members of a store or of an index, by its table; an index without a table shows none
use Rattle.std.specs.Prelude.{List, [], map, slice_get, option_map, unwrap_or}
use Rattle.std.specs.FinMap.{entries}
use Rattle.idb_keys.specs.declared.names.Over.{Over}
use Rattle.idb_keys.specs.declared.names.Over.TheVariants.{Store, Index}
use Rattle.index_tables.specs.Rows.{RowTree, IndexRows, rows_of}
use Rattle.index_tables.specs.RecordRows.{Records}

-- a record's own key is both of its keys
abbrev pub shown_by : Records → List IndexRows → Over → List RowTree
shown_by records tables Store = map (λ e. (e.0, e.0)) (entries records)
shown_by records tables (Index place) = unwrap_or (option_map (λ t. rows_of t.rows) (slice_get tables place)) []
