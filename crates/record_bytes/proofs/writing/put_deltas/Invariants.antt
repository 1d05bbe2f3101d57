use Rattle.std.proofs.Common.{◌≡◌, ◌++◌, drop, take, length}
use Rattle.std.specs.List.{flat_map, AllByRecursion}
use Rattle.value_bytes.specs.Spelling.{count_bytes}
use Rattle.value_bytes.specs.Writing.{BeginsWith}
use Rattle.record_bytes.specs.Loggable.{HasLoggableParts, IsNamed}
use Rattle.record_bytes.specs.Spelling.{delta_spelling}
use Rattle.record_bytes.proofs.writing.put_deltas.Given as goal

-- what was put, and what is still put, is the whole
abbrev pub invariant-loop-place : goal.invariant-loop-place
invariant-loop-place l = record {
  written : l.out.items ++ flat_map delta_spelling (drop l.place l.deltas) ≡ l.fn.out.items ++ (count_bytes (length l.deltas) ++ flat_map delta_spelling l.deltas);
  front : BeginsWith l.fn.out.items l.out.items;
  parts : AllByRecursion HasLoggableParts (drop l.place l.deltas);
  named : AllByRecursion IsNamed (take l.place l.deltas);
}
