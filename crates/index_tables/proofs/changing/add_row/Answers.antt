use Rattle.std.proofs.Common.{◌∙◌, ap}
use Rattle.index_tables.specs.View.{row_set}
use Rattle.index_tables.proofs.TableRows.{set_of_put, set_with_present}
use Rattle.index_tables.proofs.changing.add_row.Goals as goal

pub returns-in-Ok-clause-rows : goal.returns-in-Ok-clause-rows
returns-in-Ok-clause-rows g c = set_with_present _ _ c.args.row (g.met.R.OrderedTable.rises c.args.table.now) c.in-Ok.ensures.found

pub returns-in-Err-clause-rows : goal.returns-in-Err-clause-rows
returns-in-Err-clause-rows g c = ap row_set c.insert_at.ensures.entries ∙ set_of_put _ c.args.row _ (g.met.R.OrderedTable.rises c.args.table.now)
