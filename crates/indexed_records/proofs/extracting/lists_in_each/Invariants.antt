use Rattle.std.proofs.Common.{◌≡◌, take}
use Rattle.clone_values.specs.View.{key_tree_of, tree_of}
use Rattle.store_contents.specs.Contents.{rows_in_indexes}
use Rattle.indexed_records.proofs.extracting.lists_in_each.Given as goal

-- the rows in the indexes so far
abbrev pub invariant-loop-place : goal.invariant-loop-place
invariant-loop-place l = l.lists.items ≡ rows_in_indexes (take l.place l.indexes) (key_tree_of l.key) (tree_of l.value)
