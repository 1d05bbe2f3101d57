-- The bytes so far are written, and the noted length follows them.
use Rattle.std.proofs.Common.{◌≡◌, ◌+◌, ◌-◌, ◌≤◌, max, length, take}
use Rattle.disk_trait.specs.Disk.{Written}
use Rattle.edge_adapters.specs.Files.{BytesBecome}
use Rattle.edge_adapters.specs.declared.stand.Stand.TheVariants.{Open}
use Rattle.edge_adapters.proofs.file_area.FileArea.write_whole.Given as goal

abbrev pub invariant-loop-done : goal.invariant-loop-done
invariant-loop-done g l =
    (l.done ≤ length l.bytes) × (l.self.stand ≡ Open) × (l.self.noted ≡ max l.initial.self.noted (l.from + l.done))
    × BytesBecome (Written l.from (take l.done l.bytes)) l.initial.self.file l.self.file

abbrev pub decreases-loop-done : goal.decreases-loop-done
decreases-loop-done g l = length l.bytes - l.done
