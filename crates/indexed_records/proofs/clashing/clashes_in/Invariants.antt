use Rattle.std.proofs.Common.{◌≡◌, drop}
use Rattle.clone_values.specs.View.{key_tree_of}
use Rattle.store_contents.specs.Clashes.{clash_in}
use Rattle.indexed_records.proofs.clashing.clashes_in.Given as goal

-- the rows so far don't clash
abbrev pub invariant-loop-place : goal.invariant-loop-place
invariant-loop-place g l = clash_in l.table.rows (key_tree_of l.primary) (drop l.place l.rows) ≡ clash_in l.table.rows (key_tree_of l.primary) l.rows
