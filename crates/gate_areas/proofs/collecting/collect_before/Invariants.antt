use Rattle.std.proofs.Common.{◌≡◌, ◌-◌, ◌≤◌, ℕ, [], ◌∷◌, ◌++◌, take, drop}
use Rattle.disk_trait.specs.Areas.{area_of}
use Rattle.disk_trait.specs.Disk.{WhereTold, Untouched}
use Rattle.gate_areas.specs.Sealed.{with_front, batches_at, CLOSED}
use Rattle.gate_areas.specs.Scan.{GateIs, GateFits}
use Rattle.gate_areas.specs.LiveBatches.{EndBy}
use Rattle.gate_areas.proofs.collecting.collect_before.Given as goal

abbrev pub invariant-batches : goal.invariant-batches
invariant-batches g l = record {
  within : l.place ≤ l.gate;
  bounded : EndBy l.place l.batches;
  room : l.gate ≤ (g.D.Disk.shows l.disk).lengths l.area;
  never_falls : (g.D.Disk.shows l.fn.disk).faults ≤ (g.D.Disk.shows l.disk).faults;
  untouched : Untouched (g.D.Disk.shows l.fn.disk) (g.D.Disk.shows l.disk);
  fits : GateFits l.here l.place l.gate;
  gate : WhereTold (g.D.Disk.shows l.disk) (λ areas. (last : ℕ) → GateIs l.here (drop l.place (take l.gate (area_of l.area areas) ++ last ∷ [])));
  so_far : WhereTold (g.D.Disk.shows l.disk) (λ areas.
      with_front l.batches (batches_at l.place 0 (drop l.place (take l.gate (area_of l.area areas) ++ CLOSED ∷ [])))
      ≡ batches_at 17 0 (drop 17 (take l.gate (area_of l.area areas) ++ CLOSED ∷ [])));
}

abbrev pub decreases-batches : goal.decreases-batches
decreases-batches g l = l.gate - l.place
