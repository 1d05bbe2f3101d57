use Rattle.list_machine.proofs.Seeing.{turn_map, runs_map}
use Rattle.list_machine.proofs.laws_of_seeing.seeing_laws.Goals as goal

pub returns-clause-turn : goal.returns-clause-turn
returns-clause-turn g c old new step lines t = turn_map g.H.Handler.plain g.H.Handler.reacts g.H.Handler.writes old step new lines t

pub returns-clause-run : goal.returns-clause-run
returns-clause-run g c old new step lines r = runs_map g.H.Handler.plain g.H.Handler.reacts g.H.Handler.writes old step new lines r
