use Rattle.std.proofs.Common.{[], ◌∙◌}
use Rattle.store_contents.proofs.Laws.{shown_length}
use Rattle.indexed_records.proofs.reading.records_shown.Goals as goal

pub returns : goal.returns
returns g c = c.len.ensures.value ∙ shown_length _ [] (g.met.R.OrderedTable.rises c.args.records.now)
