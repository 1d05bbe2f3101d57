use Rattle.std.proofs.Common.{◌≡◌, ◌++◌, drop, map}
use Rattle.idb_recovery.specs.Lines.{batch_line_of}
use Rattle.idb_recovery.proofs.lines.lines_of.Given as goal

abbrev pub invariant-loop-place : goal.invariant-loop-place
invariant-loop-place l = l.lines ++ map batch_line_of (drop l.place l.batches) ≡ map batch_line_of l.batches
