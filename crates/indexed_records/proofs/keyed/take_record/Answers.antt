use Rattle.std.proofs.Common.{arith, ◌∙◌, ap}
use Rattle.store_contents.specs.View.{records_of}
use Rattle.store_contents.proofs.Laws.{count_of, stands_of, of_removed}
use Rattle.indexed_records.proofs.keyed.take_record.Goals as goal

pub remove-requires : goal.remove-requires
remove-requires g c = omega (arith, c.requires, count_of (g.R.OrderedTable.entries c.args.records.now) (g.met.R.OrderedTable.rises c.args.records.now))

pub returns-clause-taken : goal.returns-clause-taken
returns-clause-taken g c = stands_of _ c.args.place c.remove.result.0 c.remove.result.1 (g.met.R.OrderedTable.rises c.args.records.now) c.remove.ensures.taken

pub returns-clause-left : goal.returns-clause-left
returns-clause-left g c = ap records_of c.remove.ensures.left ∙ of_removed _ c.args.place c.remove.result.0 c.remove.result.1 (g.met.R.OrderedTable.rises c.args.records.now) c.remove.ensures.taken
