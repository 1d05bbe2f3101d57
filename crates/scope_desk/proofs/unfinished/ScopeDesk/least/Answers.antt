use Rattle.scope_desk.proofs.Starting.{first_goes}
use Rattle.scope_desk.proofs.unfinished.ScopeDesk.least.Goals as goal

pub returns-clause-may_start : goal.returns-clause-may_start
returns-clause-may_start c = rw (← c.self.view_is) (first_goes _ _ c.self.invariant.numbers c.first_number.ensures)
