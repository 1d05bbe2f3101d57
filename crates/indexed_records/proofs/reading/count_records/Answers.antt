use Rattle.std.proofs.Common.{◌∙◌, sym}
use Rattle.store_contents.proofs.Laws.{count_of}
use Rattle.indexed_records.proofs.reading.count_records.Goals as goal

pub returns : goal.returns
returns g c = c.len.ensures.value ∙ sym (count_of _ (g.met.R.OrderedTable.rises c.args.records.now))
