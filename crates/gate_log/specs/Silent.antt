-- A disk that tells nothing of its content, by its lengths, its starts and its count of faults.
use Rattle.std.specs.Prelude.{ℕ, None}
use Rattle.disk_trait.specs.declared.area.Area.{Area}
use Rattle.disk_trait.specs.declared.area.Area.TheVariants.{Zero, One}
use Rattle.disk_trait.specs.Disk.{DiskView}

-- the length of an area, of those of both
abbrev pub length_in : (first second : ℕ) → Area → ℕ
length_in first second Zero = first
length_in first second One = second

-- Reads are untold, so there is no image that a stop is known to leave.
abbrev pub silent_view : (first second starts faults : ℕ) → DiskView
silent_view first second starts faults = record {
  reads = None;
  lengths = length_in first second;
  may_leave = λ image. ⊥;
  moment = 0;
  left_since = λ t image. ⊥;
  starts = starts;
  faults = faults;
}
