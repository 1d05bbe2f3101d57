use Rattle.request_lists.specs.Placing.{Stays}
use Rattle.live_client.proofs.PlansLemmas.{reacts_so}
use Rattle.live_client.proofs.plans.PlannedHandler.on_event.Goals as goal

pub returns-in_default-clause-becomes : goal.returns-in_default-clause-becomes
returns-in_default-clause-becomes c = Stays

pub returns-in-Ok-react-clause-reacts : goal.returns-in-Ok-react-clause-reacts
returns-in-Ok-react-clause-reacts c = λ k. reacts_so c.args.self.now c.react.new.self c.args.front.now c.react.new.front c.args.event.now c.in-Ok-react.how c.in-Ok-react.ensures.left c.in-Ok-react.ensures.placed c.in-Ok-react.ensures.ends
