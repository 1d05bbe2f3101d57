-- The bytes so far are those of the file.
use Rattle.std.proofs.Common.{◌≡◌, ◌-◌, ◌≤◌, length, take, drop, IfSome}
use Rattle.edge_adapters.proofs.file_area.read_whole.Given as goal

abbrev pub invariant-loop-done : goal.invariant-loop-done
invariant-loop-done g l =
    (l.done ≤ length l.buf) × (g.F.AreaFile.shows l.file ≡ g.F.AreaFile.shows l.initial.file)
    × IfSome (g.F.AreaFile.shows l.initial.file) (λ f. take l.done l.buf ≡ take l.done (drop l.from f.held))

abbrev pub decreases-loop-done : goal.decreases-loop-done
decreases-loop-done g l = length l.initial.buf - l.done
