use Rattle.std.proofs.Common.{◌≤◌, ◌-◌, length}
use Rattle.clone_values.proofs.NamesLaws.{Passed, Ahead}
use Rattle.clone_values.proofs.value_types.Props.place_of.Given as goal

-- the properties before `low` have smaller names, those from `high` on greater ones
abbrev pub invariant-loop-low : goal.invariant-loop-low
invariant-loop-low l = record { passed : Passed l.self l.name l.low; ahead : Ahead l.self l.name l.high; ordered : l.low ≤ l.high; within : l.high ≤ length l.self }

abbrev pub decreases-loop-low : goal.decreases-loop-low
decreases-loop-low l = l.high - l.low
