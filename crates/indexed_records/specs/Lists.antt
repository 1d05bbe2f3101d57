-- One list of rows, or a vector of any number.
--     lists_held            the lists, in order
use Rattle.std.specs.Prelude.{List, [], ◌∷◌}
use Rattle.index_tables.specs.Rows.{RowTree}
use Rattle.indexed_records.specs.declared.row_lists.Lists.{Lists}
use Rattle.indexed_records.specs.declared.row_lists.Lists.TheVariants.{One, Any}

abbrev pub lists_held : Lists → List (List RowTree)
lists_held (One list) = list ∷ []
lists_held (Any lists) = lists.items
