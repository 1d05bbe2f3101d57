use Rattle.std.proofs.Common.{◌≡◌, None}
use Rattle.session_tests.proofs.session_txs_tests.turns.Given as goal

abbrev pub invariant-loop-turn : goal.invariant-loop-turn
invariant-loop-turn g l = l.tx.end ≡ None
