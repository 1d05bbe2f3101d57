-- A disk in memory: the changes that reached it, and what follows from them.
use Rattle.std.specs.Prelude.{◌≡◌, ◌⊎◌, ℕ, ◌+◌, ◌-◌, ◌≤◌, List, [], ◌∷◌, length, take, replicate, Option, Some, None, Result, is_ok, IsSomeAnd, if◌then◌else◌, nat_lt, nat_le}
use Rattle.edge_traits.specs.Fakes.{Calls, IsListed, one_more, no_calls}
use Rattle.disk_trait.specs.declared.area.Area.{Area}
use Rattle.disk_trait.specs.declared.plan.Image.{Image}
use Rattle.disk_trait.specs.declared.plan.Image.TheVariants.{Kept, Dropped, Byte}
use Rattle.disk_trait.specs.Areas.{Areas, area_of, with_area}
use Rattle.disk_trait.specs.Disk.{DiskView, overwritten, Torn, Cut, OnArea}

-- What reached the disk. A write or a cut did so whether it answered Ok or not, a sync or a restart where it answered Ok.
pub data Change : Type 0 where
  Wrote : (area : Area) (from : ℕ) (bytes : List ℕ) → Change
  -- a write of n bytes for which there was no room: it changed nothing that reads give
  Missed : (area : Area) (from n : ℕ) → Change
  WasCut : (area : Area) (len : ℕ) → Change
  Synced : (area : Area) → Change
  Restarted : Change

-- What reads give, and the image that the plan picks.
pub record Standing : Type 0 where
  pub reads : Areas
  pub picked : Areas

-- The picked image over a write: as written, or not written, or the plan's byte at each place of the range.
abbrev pub picked_write : Image → ℕ → List ℕ → List ℕ → List ℕ
picked_write Kept from bytes old = overwritten from bytes old
picked_write Dropped from bytes old = old
picked_write (Byte b) from bytes old = overwritten from (replicate (length bytes) b) old

-- The picked image over a cut: cut, but for Dropped.
abbrev pub picked_cut : Image → ℕ → List ℕ → List ℕ
picked_cut Kept len old = take len old
picked_cut Dropped len old = old
picked_cut (Byte b) len old = take len old

-- What stands after one more change. A sync pins its area, and a restart takes up the picked image.
abbrev pub after_change : Image → Change → Standing → Standing
after_change image (Wrote area from bytes) s = record {
  reads = with_area area (overwritten from bytes (area_of area s.reads)) s.reads;
  picked = with_area area (picked_write image from bytes (area_of area s.picked)) s.picked;
}
after_change image (Missed area from n) s = s
after_change image (WasCut area len) s = record {
  reads = with_area area (take len (area_of area s.reads)) s.reads;
  picked = with_area area (picked_cut image len (area_of area s.picked)) s.picked;
}
after_change image (Synced area) s = record { reads = s.reads; picked = with_area area (area_of area s.reads) s.picked }
after_change image Restarted s = record { reads = s.picked; picked = s.picked }

-- two empty areas
abbrev pub no_bytes : Areas
no_bytes = record { zero = []; one = [] }

-- What stands after these changes, the newest of them first. A new disk has two empty areas.
abbrev pub standing : Image → List Change → Standing
standing image [] = record { reads = no_bytes; picked = no_bytes }
standing image (change ∷ earlier) = after_change image change (standing image earlier)

-- The images that a stop after these changes may leave, the newest change first: those of the model, and not only the
-- picked one.
abbrev pub MayLeave : Image → List Change → Areas → Type 0
MayLeave image [] areas = areas ≡ no_bytes
MayLeave image (Wrote area from bytes ∷ earlier) areas = (before : Areas) × MayLeave image earlier before × OnArea area (Torn from (length bytes)) before areas
MayLeave image (Missed area from n ∷ earlier) areas = (before : Areas) × MayLeave image earlier before × OnArea area (Torn from n) before areas
MayLeave image (WasCut area len ∷ earlier) areas = (before : Areas) × MayLeave image earlier before × OnArea area (Cut len) before areas
MayLeave image (Synced area ∷ earlier) areas = MayLeave image earlier areas × (area_of area areas ≡ area_of area (standing image earlier).reads)
MayLeave image (Restarted ∷ earlier) areas = areas ≡ (standing image earlier).picked

-- The images that a stop may have left when t changes had reached the disk, or later.
abbrev pub LeftSince : Image → List Change → ℕ → Areas → Type 0
LeftSince image [] t areas = MayLeave image [] areas
LeftSince image (change ∷ earlier) t areas = MayLeave image (change ∷ earlier) areas ⊎ ((t ≤ length earlier) × LeftSince image earlier t areas)

-- how many bytes the writes brought that there was room for
abbrev pub bytes_of : List Change → ℕ
bytes_of [] = 0
bytes_of (Wrote area from bytes ∷ earlier) = bytes_of earlier + length bytes
bytes_of (Missed area from n ∷ earlier) = bytes_of earlier
bytes_of (WasCut area len ∷ earlier) = bytes_of earlier
bytes_of (Synced area ∷ earlier) = bytes_of earlier
bytes_of (Restarted ∷ earlier) = bytes_of earlier

-- how many restarts are among the changes
abbrev pub starts_in : List Change → ℕ
starts_in [] = 0
starts_in (Wrote area from bytes ∷ earlier) = starts_in earlier
starts_in (Missed area from n ∷ earlier) = starts_in earlier
starts_in (WasCut area len ∷ earlier) = starts_in earlier
starts_in (Synced area ∷ earlier) = starts_in earlier
starts_in (Restarted ∷ earlier) = starts_in earlier + 1

-- A disk in memory, as callers see it.
pub record MemoryState : Type 0 where
  -- what reached the disk, the newest first
  pub history : List Change
  pub image : Image
  -- for how many bytes of writes there is room yet
  pub room : ℕ
  -- how many calls there may be in all
  pub limit : ℕ
  -- the stop that is to come, or that holds until a restart
  pub stop_after : Option ℕ
  pub calls : Calls

-- a new disk
abbrev pub new_disk : ℕ → ℕ → List ℕ → Option ℕ → Image → MemoryState
new_disk room limit fail_at stop_after image = record { history = []; image = image; room = room; limit = limit; stop_after = stop_after; calls = no_calls fail_at }

-- what reads of the disk give
abbrev pub reads_of : MemoryState → Areas
reads_of disk = (standing disk.image disk.history).reads

-- the disk as the trait sees it
abbrev pub disk_view : MemoryState → DiskView
disk_view disk = record {
  reads = Some (reads_of disk);
  lengths = λ area. length (area_of area (reads_of disk));
  may_leave = λ image. MayLeave disk.image disk.history image;
  moment = length disk.history;
  left_since = λ t image. LeftSince disk.image disk.history t image;
  starts = starts_in disk.history;
  faults = disk.calls.faults;
}

-- the stop has come, and no restart since
abbrev pub IsStopped : MemoryState → Type 0
IsStopped disk = IsSomeAnd disk.stop_after (λ k. k ≤ disk.calls.made)

-- all calls were made that there may be
abbrev pub IsSpent : MemoryState → Type 0
IsSpent disk = disk.limit ≤ disk.calls.made

-- The next call fails, unless it is a restart: it is listed, or the disk has stopped, or all calls were made.
abbrev pub MustFail : MemoryState → Type 0
MustFail disk = IsListed disk.calls ⊎ IsStopped disk ⊎ IsSpent disk

-- one more change reached the disk
abbrev pub with_change : Change → MemoryState → MemoryState
with_change change disk = record disk { history = change ∷ disk.history }

-- A write reached the disk, unless all calls were made. Where there is no room it is missed.
abbrev pub with_write : Area → ℕ → List ℕ → MemoryState → MemoryState
with_write area from bytes disk = if nat_lt disk.calls.made disk.limit then
    (if nat_le (length bytes) disk.room then record disk { history = Wrote area from bytes ∷ disk.history; room = disk.room - length bytes }
    else with_change (Missed area from (length bytes)) disk)
    else disk

-- a cut reached the disk, unless all calls were made
abbrev pub with_cut : Area → ℕ → MemoryState → MemoryState
with_cut area len disk = if nat_lt disk.calls.made disk.limit then with_change (WasCut area len) disk else disk

-- the stop that is left after a restart, where so many calls were made before it
abbrev pub still_to_come : ℕ → Option ℕ → Option ℕ
still_to_come made None = None
still_to_come made (Some k) = if nat_le k made then None else Some k

-- The picked image was taken up, and a stop that held is over.
abbrev pub restarted : MemoryState → MemoryState
restarted disk = record disk { history = Restarted ∷ disk.history; stop_after = still_to_come disk.calls.made disk.stop_after }

-- a call was counted, and counted as a fault where it failed
abbrev pub with_call : {T E : Type 0} → Result T E → MemoryState → MemoryState
with_call result disk = record disk { calls = record disk.calls { made = one_more disk.calls.made; faults = if is_ok result then disk.calls.faults else one_more disk.calls.faults } }
