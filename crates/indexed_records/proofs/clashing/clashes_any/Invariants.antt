use Rattle.std.proofs.Common.{◌≡◌, drop}
use Rattle.clone_values.specs.View.{key_tree_of}
use Rattle.store_contents.specs.Clashes.{clash_any}
use Rattle.indexed_records.proofs.clashing.clashes_any.Given as goal

-- the indexes so far don't clash
abbrev pub invariant-loop-place : goal.invariant-loop-place
invariant-loop-place g l =
    clash_any (drop l.place l.indexes) (drop l.place l.tables.items) (drop l.place l.rows) (key_tree_of l.primary) ≡ clash_any l.indexes l.tables.items l.rows (key_tree_of l.primary)
