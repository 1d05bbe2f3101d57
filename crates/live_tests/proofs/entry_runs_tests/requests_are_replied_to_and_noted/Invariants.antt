use Rattle.placed_calls.specs.Fitting.{AreFit}
use Rattle.live_tests.proofs.entry_runs_tests.requests_are_replied_to_and_noted.Given as goal

-- the front's calls fit
abbrev pub invariant-loop-step : goal.invariant-loop-step
invariant-loop-step g l = AreFit l.front
