use Rattle.std.proofs.Common.{◌≡◌, ◌++◌, drop, length}
use Rattle.std.specs.List.{flat_map}
use Rattle.value_bytes.specs.Spelling.{count_bytes, string_bytes}
use Rattle.value_bytes.specs.Writing.{BeginsWith}
use Rattle.record_bytes.proofs.writing.put_texts.Given as goal

-- what was put, and what is still put, is the whole
abbrev pub invariant-loop-place : goal.invariant-loop-place
invariant-loop-place l = record {
  written : l.out.items ++ flat_map string_bytes (drop l.place l.texts) ≡ l.fn.out.items ++ (count_bytes (length l.texts) ++ flat_map string_bytes l.texts);
  front : BeginsWith l.fn.out.items l.out.items;
}
