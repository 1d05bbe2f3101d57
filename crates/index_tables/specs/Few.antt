-- One row, or a vector of any number.
--     few_rows              the rows, in order
use Rattle.std.specs.Prelude.{List, [], ◌∷◌}
use Rattle.index_tables.specs.declared.rows.Row.{Row}
use Rattle.index_tables.specs.declared.rows.Few.{Few}
use Rattle.index_tables.specs.declared.rows.Few.TheVariants.{One, Any}

abbrev pub few_rows : Few → List Row
few_rows (One row) = row ∷ []
few_rows (Any rows) = rows.items
