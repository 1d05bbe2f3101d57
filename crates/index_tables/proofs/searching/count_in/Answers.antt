use Rattle.std.proofs.Common.{◌∙◌, sym}
use Rattle.index_tables.proofs.RowLaws.{counted}
use Rattle.index_tables.proofs.TableRows.{count_of_set}
use Rattle.index_tables.proofs.searching.count_in.Goals as goal

pub returns-clause-value : goal.returns-clause-value
returns-clause-value g c = c.len.ensures.value ∙ sym (count_of_set _ (g.met.R.OrderedTable.rises c.args.table.now))

pub returns-clause-listed : goal.returns-clause-listed
returns-clause-listed g c = c.len.ensures.value ∙ sym (count_of_set _ (g.met.R.OrderedTable.rises c.args.table.now)) ∙ counted _
