use Rattle.request_lists.specs.Fronts.{requests_of}
use Rattle.request_lists.proofs.Numbered.{numbered_next}
use Rattle.request_lists.proofs.Accepted.{request_put}
use Rattle.request_lists.proofs.front.TxFront.add_request.Goals as goal

pub invariant_of-self-2 : goal.invariant_of-self-2
invariant_of-self-2 g c = numbered_next (requests_of c.self.inside.cursors.items) c.self.inside.next c.self.invariant

pub returns-clause-placed : goal.returns-clause-placed
returns-clause-placed g c = request_put _ c.args.self.now c.args.call c.args.handler c.reserve.new.self.items c.push_back_reserved.new.self.items c.push_back_reserved.ensures.items c.reserve.ensures.items c.self.view_is
