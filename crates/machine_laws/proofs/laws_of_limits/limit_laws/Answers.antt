use Rattle.machine_laws.proofs.Limiting.{limits_fresh, turn_limits}
use Rattle.machine_laws.proofs.laws_of_limits.limit_laws.Goals as goal

pub returns-clause-body : goal.returns-clause-body
returns-clause-body g c front schema before few = limits_fresh front schema before few

pub returns-clause-turn : goal.returns-clause-turn
returns-clause-turn g c old new lines t w = turn_limits g.H.Handler.reacts g.H.Handler.writes old new lines t w
