use Rattle.list_machine.proofs.Growing.{handled_grows, aborted_empties}
use Rattle.list_machine.proofs.laws_of_turns.list_laws.Goals as goal

pub returns-clause-grows : goal.returns-clause-grows
returns-clause-grows g c front last entry event how lines h = handled_grows g.H.Handler.reacts g.H.Handler.writes front last entry event how lines h

pub returns-clause-aborted : goal.returns-clause-aborted
returns-clause-aborted g c old new error lines t = aborted_empties g.H.Handler.reacts g.H.Handler.writes error old new lines t
