use Rattle.std.proofs.Common.{ap}
use Rattle.index_tables.specs.Rows.{with_rows, without_rows}
use Rattle.index_tables.specs.View.{row_of, row_set}
use Rattle.index_tables.proofs.RowLaws.{comes_again}
use Rattle.index_tables.proofs.changing.remove_unless_near.Goals as goal

pub returns-then-not-is_near-clause-rows : goal.returns-then-not-is_near-clause-rows
returns-then-not-is_near-clause-rows g c = λ others. ap (λ s. with_rows (without_rows s others) c.args.coming.now) c.remove_row.ensures.rows

pub returns-else-not-is_near-clause-rows : goal.returns-else-not-is_near-clause-rows
returns-else-not-is_near-clause-rows g c = λ others. comes_again (row_set (g.R.OrderedTable.entries c.args.table.now)) (row_of c.args.row.now) others c.args.coming.now (search (c.is_near.ensures, c.if-not-is_near.false))
