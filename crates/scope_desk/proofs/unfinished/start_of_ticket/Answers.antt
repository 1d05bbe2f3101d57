use Rattle.std.proofs.Common.{◌∙◌, ap}
use Rattle.scope_desk.specs.Starts.{start_of}
use Rattle.scope_desk.proofs.Starting.{starts}
use Rattle.scope_desk.proofs.unfinished.start_of_ticket.Goals as goal

pub returns : goal.returns
returns c = c.start_unless.ensures ∙ rw c.least_for.ensures (ap start_of (starts c.args.tickets.now.items c.args.ticket.now c.args.next _ _ c.requires))
