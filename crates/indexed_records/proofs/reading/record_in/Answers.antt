use Rattle.clone_values.specs.View.{tree_of}
use Rattle.store_contents.proofs.Laws.{stands, gap_of}
use Rattle.indexed_records.proofs.reading.record_in.Goals as goal

pub returns-in-Ok-clause-found : goal.returns-in-Ok-clause-found
returns-in-Ok-clause-found g c = (
  tree_of c.in-Ok.ensures.found.value,
  stands _ c.in-Ok.place c.args.key.now (g.met.R.OrderedTable.rises c.args.records.now) c.in-Ok.ensures.found,
)

pub returns-in-Err-clause-absent : goal.returns-in-Err-clause-absent
returns-in-Err-clause-absent g c = gap_of c.args.key.now _ _ (g.met.R.OrderedTable.rises c.args.records.now) c.in-Err.ensures.absent
