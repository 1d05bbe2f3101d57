use Rattle.std.proofs.Common.{[], sym}
use Rattle.store_contents.proofs.Laws.{shown_keys}
use Rattle.indexed_records.proofs.reading.records_in_order.Goals as goal

pub returns : goal.returns
returns g c = sym (shown_keys _ [] (g.met.R.OrderedTable.rises c.args.records.now))
