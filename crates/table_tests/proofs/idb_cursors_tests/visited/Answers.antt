use Rattle.std.proofs.Common.{arith}
use Rattle.table_tests.proofs.idb_cursors_tests.visited.Goals as goal

pub returns-then-is_none : goal.returns-then-is_none
returns-then-is_none g c = omega (arith, c.loop-places.invariant, c.iterate_counted.ensures.cost 17 (omega (arith, c.requires)))

pub loop-places-preserved : goal.loop-places-preserved
loop-places-preserved g c = omega (arith, c.loop-places.invariant, c.iterate_counted.ensures.cost 17 (omega (arith, c.requires)))
