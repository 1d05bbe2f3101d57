-- The bytes so far are those that the source lost, and they are within the limit.
use Rattle.std.proofs.Common.{vec_len, ◌-◌, ◌≤◌}
use Rattle.std.specs.Io.KnownBytes.{Consumes}
use Rattle.edge_traits.proofs.sources.read_all.Given as goal

abbrev pub invariant-loop-bytes : goal.invariant-loop-bytes
invariant-loop-bytes g l =
    (vec_len l.bytes ≤ l.limit) × Consumes (g.S.Source.left l.initial.source) (g.S.Source.left l.source) l.bytes.items
    × (g.S.Source.faults l.initial.source ≤ g.S.Source.faults l.source)

abbrev pub decreases-loop-bytes : goal.decreases-loop-bytes
decreases-loop-bytes g l = l.limit - vec_len l.bytes
