use Rattle.std.proofs.Common.{refl, ap, sym, ◌∙◌}
use Rattle.request_lists.specs.Placing.{Stays}
use Rattle.request_lists.proofs.Laws.{becomes_again}
use Rattle.live_client.specs.Plans.{same_plan, asked_all}
use Rattle.live_client.proofs.PlansLemmas.{placed_next}
use Rattle.live_client.proofs.clients.place_all.Goals as goal

pub loop-request-init : goal.loop-request-init
loop-request-init c = record { placed = refl; becomes = Stays }

pub loop-request-preserved : goal.loop-request-preserved
loop-request-preserved c = record {
  placed =
      ap (λ rs. asked_all same_plan rs c.place.new.front) c.in-Some.ensures.left
      ∙ placed_next same_plan c.loop-request.left c.in-Some.request c.loop-request.front c.place.new.front (sym c.in-Some.ensures.first) c.in-Ok.ensures.placed
      ∙ c.loop-request.invariant.placed;
  becomes = becomes_again c.args.front.now c.loop-request.front c.place.new.front c.loop-request.invariant.becomes c.in-Ok.ensures.becomes;
}

pub returns-in-Err-clause-becomes : goal.returns-in-Err-clause-becomes
returns-in-Err-clause-becomes c = becomes_again c.args.front.now c.loop-request.front c.place.new.front c.loop-request.invariant.becomes c.in-Err.ensures.becomes
