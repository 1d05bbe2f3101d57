-- What a whole reading takes of a source, and what a writing that may stop leaves in a sink, where bytes are told.
--
-- ConsumesAtMost: a reading up to a limit. AppendsFront: a writing that may have stopped.
use Rattle.std.specs.Prelude.{ℕ, ◌≤◌, List, Option, length, take}
use Rattle.std.specs.Io.KnownBytes.{Appends, Consumes}

-- At most this many bytes were taken from the front of what was left.
abbrev pub ConsumesAtMost : Option (List ℕ) → Option (List ℕ) → ℕ → Type 0
ConsumesAtMost old new limit = (bytes : List ℕ) × (length bytes ≤ limit) × Consumes old new bytes

-- Some front of the bytes was appended, and nothing else.
abbrev pub AppendsFront : Option (List ℕ) → Option (List ℕ) → List ℕ → Type 0
AppendsFront old new bytes = (n : ℕ) × (n ≤ length bytes) × Appends old new (take n bytes)
