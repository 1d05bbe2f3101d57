use Rattle.scope_desk.proofs.RisingLemmas.{pushed}
use Rattle.std.proofs.Common.{arith}
use Rattle.scope_desk.proofs.lanes.Lane.enter.Goals as goal

pub invariant_of-self-2 : goal.invariant_of-self-2
invariant_of-self-2 c = rw (c.in_ok-push_back.ensures.items) (pushed 0 _ _ (omega arith) c.self.invariant (rw (c.self.view_is) c.requires))
