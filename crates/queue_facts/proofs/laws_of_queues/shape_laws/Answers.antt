use Rattle.queue_facts.proofs.Moves.{settled_name_goes}
use Rattle.queue_facts.proofs.laws_of_queues.shape_laws.Goals as goal

pub returns-clause-shaped : goal.returns-clause-shaped
returns-clause-shaped c n s = (settled_name_goes n s).shaped

pub returns-clause-named : goal.returns-clause-named
returns-clause-named c n s = (settled_name_goes n s).name

pub returns-clause-database : goal.returns-clause-database
returns-clause-database c n s = (settled_name_goes n s).database

pub returns-clause-counted : goal.returns-clause-counted
returns-clause-counted c n who s = (settled_name_goes n s).counts who
