use Rattle.std.proofs.Common.{◌∙◌, ap}
use Rattle.store_contents.specs.View.{records_of}
use Rattle.store_contents.proofs.Laws.{gap_in, of_put}
use Rattle.indexed_records.proofs.keyed.put_record.Goals as goal

pub insert_at-requires-clause-belongs : goal.insert_at-requires-clause-belongs
insert_at-requires-clause-belongs g c = gap_in c.args.key _ c.args.place (g.met.R.OrderedTable.rises c.args.records.now) c.requires.gap

pub returns-clause-records : goal.returns-clause-records
returns-clause-records g c = ap records_of c.insert_at.ensures.entries ∙ of_put _ c.args.key c.args.value (g.met.R.OrderedTable.rises c.args.records.now)
