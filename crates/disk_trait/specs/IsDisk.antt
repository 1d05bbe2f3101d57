-- What holds of a disk in memory.
use Rattle.std.specs.Prelude.{◌+◌, ◌≤◌}
use Rattle.disk_trait.specs.Memory.{MemoryState}
use Rattle.disk_trait.specs.declared.memory.MemoryDisk.TheInside.{Inside}

-- the disk as callers see it
abbrev pub memory_of : Inside → MemoryState
memory_of d = record {
  history = d.content.history;
  image = d.content.image;
  room = d.content.room;
  limit = d.limit;
  stop_after = d.stop_after;
  calls = d.calls;
}

-- there is an entry in the log for each call that can still come
abbrev pub HasEntries : Inside → Type 0
HasEntries d = d.limit ≤ d.calls.made + d.content.spare
