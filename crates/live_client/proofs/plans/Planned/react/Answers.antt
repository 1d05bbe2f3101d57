use Rattle.request_lists.specs.Placing.{Stays}
use Rattle.live_client.proofs.plans.Planned.react.Goals as goal

pub returns-in-None-clause-becomes : goal.returns-in-None-clause-becomes
returns-in-None-clause-becomes c = Stays
