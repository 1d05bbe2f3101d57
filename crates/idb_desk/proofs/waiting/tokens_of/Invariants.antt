use Rattle.std.proofs.Common.{◌≡◌, ◌++◌, drop, map}
use Rattle.desk_steps.specs.Tokens.{token_of}
use Rattle.idb_desk.proofs.waiting.tokens_of.Given as goal

abbrev pub invariant-loop-step : goal.invariant-loop-step
invariant-loop-step l = l.tokens.items ++ map token_of (drop l.step-index l.steps) ≡ map token_of l.steps
