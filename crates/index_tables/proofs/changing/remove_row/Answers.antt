use Rattle.std.proofs.Common.{◌∙◌, ap}
use Rattle.index_tables.specs.View.{row_set}
use Rattle.index_tables.proofs.TableRows.{set_of_removed, set_without_absent}
use Rattle.index_tables.proofs.changing.remove_row.Goals as goal

pub returns-in-Ok-clause-rows : goal.returns-in-Ok-clause-rows
returns-in-Ok-clause-rows g c = ap row_set c.remove.ensures.left ∙ set_of_removed _ c.in-Ok.place c.args.row.now (g.met.R.OrderedTable.rises c.args.table.now) c.in-Ok.ensures.found

pub returns-in-Err-clause-rows : goal.returns-in-Err-clause-rows
returns-in-Err-clause-rows g c = set_without_absent _ _ c.args.row.now (g.met.R.OrderedTable.rises c.args.table.now) c.in-Err.ensures.absent
