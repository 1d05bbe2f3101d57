use Rattle.std.proofs.Common.{◌≡◌, ◌+◌, ◌<◌, ◌≤◌, ◌-◌, ◌*◌, drop, ℕ}
use Rattle.script_runs.specs.Going.{GoesSoFar, Statements, Rounds}
use Rattle.script_runs.proofs.interpreting.+blocks.Given as goal

abbrev pub decreases-enter : goal.decreases-enter
decreases-enter g l = 5 * (64 - l.depth)

abbrev pub decreases-execute : goal.decreases-execute
decreases-execute g l = 5 * (64 - l.depth) + 4

abbrev pub decreases-perform : goal.decreases-perform
decreases-perform g l = 5 * (64 - l.depth) + 3

abbrev pub decreases-repeat : goal.decreases-repeat
decreases-repeat g l = 5 * (64 - l.depth) + 2

abbrev pub decreases-rounds : goal.decreases-rounds
decreases-rounds g l = 5 * (64 - l.depth) + 1

abbrev pub invariant-execute-loop-statement : goal.invariant-execute-loop-statement
invariant-execute-loop-statement g l = GoesSoFar g.W.World.noted g.W.World.shown g.W.World.does l.client.blocks l.depth (Statements l.statements) (Statements (drop l.statement-index l.statements)) (record { world = g.W.World.plain l.initial.world; at = l.initial.at }) l.initial.notes (record { world = g.W.World.plain l.world; at = l.at }) l.notes
    × g.W.World.moves l.initial.world l.world

abbrev pub invariant-rounds-loop-turn : goal.invariant-rounds-loop-turn
invariant-rounds-loop-turn g l = GoesSoFar g.W.World.noted g.W.World.shown g.W.World.does l.client.blocks l.depth (Rounds l.times 0 l.block) (Rounds l.times l.turn l.block) (record { world = g.W.World.plain l.initial.world; at = l.initial.at }) l.initial.notes (record { world = g.W.World.plain l.world; at = l.at }) l.notes
    × g.W.World.moves l.initial.world l.world
