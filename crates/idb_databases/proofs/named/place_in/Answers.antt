use Rattle.std.proofs.Common.{◌+◌, ◌-◌, ◌/◌, sym, arith}
use Rattle.sorted_table.proofs.Laws.{above_read, below_read, has_read}
use Rattle.item_changes.proofs.Laws.{names_total, one_name}
use Rattle.idb_databases.proofs.named.place_in.Goals as goal

pub loop-low-preserved-in-Less : goal.loop-low-preserved-in-Less
loop-low-preserved-in-Less g c = record {
  ordered = omega arith;
  within = omega arith;
  passed = c.loop-low.invariant.passed;
  ahead = above_read names_total c.args.items.now (c.loop-low.low + (c.loop-low.high - c.loop-low.low) / 2) c.index-items-middle.result c.args.name.now c.requires (omega arith) (sym c.in-Less.ensures);
}

pub loop-low-preserved : goal.loop-low-preserved
loop-low-preserved g c = record {
  ordered = omega arith;
  within = omega arith;
  passed = below_read names_total c.args.items.now (c.loop-low.low + (c.loop-low.high - c.loop-low.low) / 2) c.index-items-middle.result c.args.name.now c.requires (omega arith) (sym c.in-Greater.ensures);
  ahead = c.loop-low.invariant.ahead;
}

pub returns-in-Equal-clause-found : goal.returns-in-Equal-clause-found
returns-in-Equal-clause-found g c = has_read names_total one_name c.args.items.now (c.loop-low.low + (c.loop-low.high - c.loop-low.low) / 2) c.index-items-middle.result c.args.name.now c.requires (omega arith) (sym c.in-Equal.ensures)
