use Rattle.std.proofs.Common.{◌≡◌, Ok, drop}
use Rattle.log_history.specs.Replayed.{replayed_on, replayed}
use Rattle.log_replay.proofs.batches.replay.Given as goal

-- those to come, on what was made so far, give what all give
abbrev pub invariant-loop-index : goal.invariant-loop-index
invariant-loop-index g l = replayed_on (Ok l.items) (drop l.index l.batches) ≡ replayed l.batches
