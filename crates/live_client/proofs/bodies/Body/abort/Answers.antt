use Rattle.live_client.proofs.BodiesLemmas.{begun_more}
use Rattle.live_client.proofs.bodies.Body.abort.Goals as goal

pub invariant_of-self : goal.invariant_of-self
invariant_of-self c = begun_more c.self.inside.schema c.self.inside.front c.abort.new.self c.self.invariant c.abort.ensures.becomes
