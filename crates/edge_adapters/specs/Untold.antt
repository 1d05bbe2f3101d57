-- A disk over two files as every layer above sees it: it tells nothing of its content.
use Rattle.std.specs.Prelude.{None}
use Rattle.disk_trait.specs.Disk.{DiskView}
use Rattle.edge_adapters.specs.Noted.{TwoFiles, noted_in}

-- Its noted lengths, its starts and its count of faults. Reads are untold, so there is no image that a stop is known to leave.
abbrev pub untold_view : TwoFiles → DiskView
untold_view disk = record {
  reads = None;
  lengths = λ area. noted_in area disk;
  may_leave = λ image. ⊥;
  moment = 0;
  left_since = λ t image. ⊥;
  starts = disk.starts;
  faults = disk.faults;
}
