use Rattle.std.proofs.Common.{◌+◌, ◌*◌, ◌≤◌}
use Rattle.table_tests.proofs.idb_cursors_tests.visited.Given as goal

-- each turn so far took at most 190 comparisons
abbrev pub invariant-loop-places : goal.invariant-loop-places
invariant-loop-places g l = l.steps ≤ l.fn.steps + l.places * 190
