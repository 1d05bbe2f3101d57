use Rattle.std.proofs.Common.{sym, Some, None}
use Rattle.scope_desk.proofs.Places.{any_of}
use Rattle.scope_desk.proofs.unfinished.ScopeDesk.has.Goals as goal

pub returns-in-Some : goal.returns-in-Some
returns-in-Some c = rw (← c.self.view_is) (sym (any_of c.args.number c.self.inside.tickets.items (Some _) (sym c.in-Some.ensures)))

pub returns-in-None : goal.returns-in-None
returns-in-None c = rw (← c.self.view_is) (sym (any_of c.args.number c.self.inside.tickets.items None (sym c.in-None.ensures)))
