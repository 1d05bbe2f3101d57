use Rattle.machine_laws.proofs.Scoping.{scope_fresh, goes_scope, scope_made, goes_in_scope}
use Rattle.machine_laws.proofs.laws_of_limits.reach_laws.Goals as goal

pub returns-clause-body : goal.returns-clause-body
returns-clause-body g c mode schema scope before body b named = scope_fresh mode schema scope before named body b

pub returns-clause-turns : goal.returns-clause-turns
returns-clause-turns g c old new lines t is = goes_scope g.H.Handler.reacts g.H.Handler.writes old new lines t is

pub returns-clause-made : goal.returns-clause-made
returns-clause-made g c mode schema scope before body b = scope_made mode schema scope before body b

pub returns-clause-same : goal.returns-clause-same
returns-clause-same g c old new lines t = goes_in_scope g.H.Handler.reacts g.H.Handler.writes old new lines t
