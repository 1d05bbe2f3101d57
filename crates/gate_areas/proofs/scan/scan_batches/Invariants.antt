use Rattle.std.proofs.Common.{◌-◌, ◌≤◌, take}
use Rattle.disk_trait.specs.Areas.{area_of}
use Rattle.disk_trait.specs.Disk.{WhereTold}
use Rattle.gate_areas.specs.Sealed.{BatchList}
use Rattle.gate_areas.specs.Fronts.{IsFront}
use Rattle.disk_trait.specs.Disk.{Untouched}
use Rattle.gate_areas.proofs.scan.scan_batches.Given as goal

abbrev pub invariant-batches : goal.invariant-batches
invariant-batches g l = record {
  headed : 17 ≤ l.place;
  within : l.place ≤ l.end;
  never_falls : (g.D.Disk.shows l.fn.disk).faults ≤ (g.D.Disk.shows l.disk).faults;
  untouched : Untouched (g.D.Disk.shows l.fn.disk) (g.D.Disk.shows l.disk);
  front : WhereTold (g.D.Disk.shows l.disk) (λ areas. (batches : BatchList) × IsFront l.generation l.place (take l.place (area_of l.area areas)) batches);
}

abbrev pub decreases-batches : goal.decreases-batches
decreases-batches g l = l.end - l.place
