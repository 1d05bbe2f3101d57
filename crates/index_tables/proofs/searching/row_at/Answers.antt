use Rattle.std.proofs.Common.{Some, None}
use Rattle.index_tables.proofs.TableRows.{seen_at}
use Rattle.index_tables.proofs.searching.row_at.Goals as goal

pub returns-in-Some : goal.returns-in-Some
returns-in-Some g c = seen_at (g.R.OrderedTable.entries c.args.table.now) c.args.place (Some (c.in-Some.row.now, tt)) (g.met.R.OrderedTable.rises c.args.table.now) c.in-Some.ensures

pub returns-in-None : goal.returns-in-None
returns-in-None g c = seen_at (g.R.OrderedTable.entries c.args.table.now) c.args.place None (g.met.R.OrderedTable.rises c.args.table.now) c.in-None.ensures
