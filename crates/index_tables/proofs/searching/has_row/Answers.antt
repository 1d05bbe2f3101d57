use Rattle.std.proofs.Common.{◌∙◌}
use Rattle.index_tables.proofs.TableRows.{has_answered}
use Rattle.index_tables.proofs.searching.has_row.Goals as goal

pub returns : goal.returns
returns g c = c.is_ok.ensures.value ∙ has_answered _ c.args.row.now c.find_place.result (g.met.R.OrderedTable.rises c.args.table.now) c.find_place.ensures.found c.find_place.ensures.absent
