-- What a log keeps of its disk.
use Rattle.std.specs.Prelude.{◌≡◌, ℕ, ◌+◌, ◌-◌, ◌^◌, ◌≤◌, Option}
use Rattle.std.specs.Option.{ForNone, ForSome}
use Rattle.disk_trait.specs.Disk.{DiskView, WhereTold, IsSettled}
use Rattle.gate_areas.specs.LiveBatches.{Begins, Rests}
use Rattle.gate_areas.specs.declared.live.LiveArea.{LiveArea}
use Rattle.gate_log.specs.Content.{IsInDoubt}

-- What a log keeps. Before its last gate stand its batches. Until an append or a switch has failed the live area is at
-- rest, and a stop leaves just what reads give. After one that failed each image is found as the log, or as one thing
-- more: the log with the batch that failed, or the area that it didn't get to.
pub record IsKept (disk : DiskView) (live : LiveArea) (seen : Option ℕ) : Type 0 where
  pub headed : 17 ≤ live.gate
  pub limit : live.gate + 1 ≤ 2 ^ 63 - 1
  pub begins : WhereTold disk (Begins live)
  pub rests : ForNone seen (WhereTold disk (Rests live))
  pub settled : ForNone seen (IsSettled disk)
  pub last : ForNone seen (disk.lengths live.area ≡ live.gate + 1)
  pub counted : ForSome seen (λ count. count ≤ disk.faults)
  pub in_doubt : ForSome seen (λ count. IsInDoubt disk live)
