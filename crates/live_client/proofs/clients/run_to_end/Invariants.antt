use Rattle.live_client.specs.Upgrades.{GoesFor}
use Rattle.live_client.proofs.clients.run_to_end.Given as goal

abbrev pub invariant-loop-turn : goal.invariant-loop-turn
invariant-loop-turn g l = GoesFor l.turn l.initial.live.state l.live.state l.initial.notes l.notes
