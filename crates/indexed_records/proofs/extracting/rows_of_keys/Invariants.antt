use Rattle.std.proofs.Common.{◌≡◌, map, take}
use Rattle.clone_values.specs.View.{key_tree_of}
use Rattle.index_tables.specs.View.{row_of}
use Rattle.indexed_records.proofs.extracting.rows_of_keys.Given as goal

-- a row for each key so far
abbrev pub invariant-loop-place : goal.invariant-loop-place
invariant-loop-place l = map row_of l.rows.items ≡ map (λ k. (k, key_tree_of l.primary)) (take l.place l.keys)
