use Rattle.std.proofs.Common.{sym}
use Rattle.index_tables.proofs.TableRows.{rows_of_set}
use Rattle.index_tables.proofs.searching.in_order.Goals as goal

pub returns : goal.returns
returns g c = sym (rows_of_set (g.R.OrderedTable.entries c.args.table.now) (g.met.R.OrderedTable.rises c.args.table.now))
