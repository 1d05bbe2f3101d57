use Rattle.std.proofs.Common.{◌≡◌, [], ◌++◌, drop}
use Rattle.record_changes.specs.Loosened.{with_indexes}
use Rattle.record_changes.proofs.indexes.add_indexes.Given as goal

-- those so far and those to come are all, and nothing else has changed
abbrev pub invariant-loop-place : goal.invariant-loop-place
invariant-loop-place g l = record {
  whole : l.store.store.info.indexes ++ drop l.place l.indexes ≡ l.indexes;
  same : with_indexes [] l.store.store ≡ with_indexes [] l.initial.store.store;
}
