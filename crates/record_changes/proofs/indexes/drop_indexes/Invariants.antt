use Rattle.std.proofs.Common.{◌≡◌, [], length}
use Rattle.record_changes.specs.Loosened.{with_indexes}
use Rattle.record_changes.proofs.indexes.drop_indexes.Given as goal

-- as many are left, and nothing else has changed
abbrev pub invariant-loop-left : goal.invariant-loop-left
invariant-loop-left g l = record {
  count : length l.store.store.info.indexes ≡ l.left;
  same : with_indexes [] l.store.store ≡ with_indexes [] l.initial.store.store;
}

abbrev pub decreases-loop-left : goal.decreases-loop-left
decreases-loop-left g l = l.left
