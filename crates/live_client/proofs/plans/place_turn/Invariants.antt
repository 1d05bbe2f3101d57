use Rattle.std.proofs.Common.{◌≡◌, length}
use Rattle.request_lists.specs.Placing.{Becomes}
use Rattle.live_client.specs.Plans.{asked_all, leaf}
use Rattle.live_client.proofs.plans.place_turn.Given as goal

abbrev pub invariant-loop-request : goal.invariant-loop-request
invariant-loop-request l = record {
  placed : asked_all leaf l.left l.front ≡ asked_all leaf l.initial.left l.initial.front;
  becomes : Becomes l.initial.front l.front;
}

abbrev pub decreases-loop-request : goal.decreases-loop-request
decreases-loop-request l = length l.left
