use Rattle.std.proofs.Common.{◌≡◌, drop}
use Rattle.clone_values.specs.View.{tree_of}
use Rattle.store_contents.specs.Sameness.{gives_same_rows}
use Rattle.indexed_records.proofs.comparing.gives_same_in_each.Given as goal

-- the indexes so far get the same keys
abbrev pub invariant-loop-place : goal.invariant-loop-place
invariant-loop-place l = gives_same_rows (drop l.place l.indexes) (tree_of l.one) (tree_of l.other) ≡ gives_same_rows l.indexes (tree_of l.one) (tree_of l.other)
