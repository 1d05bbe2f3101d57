use Rattle.desk_steps.proofs.Quiet as quiet
use Rattle.desk_steps.proofs.laws_of_desks.quiet_laws.Goals as goal

pub returns-clause-ask : goal.returns-clause-ask
returns-clause-ask c = quiet.quiet_ask c.queue_laws.ensures.rests

pub returns-clause-take : goal.returns-clause-take
returns-clause-take c = quiet.quiet_take

pub returns-clause-handle : goal.returns-clause-handle
returns-clause-handle c = quiet.quiet_handle c.queue_laws.ensures.rests

pub returns-clause-close : goal.returns-clause-close
returns-clause-close c = quiet.quiet_close c.queue_laws.ensures.rests

pub returns-clause-finish : goal.returns-clause-finish
returns-clause-finish c = quiet.quiet_finish c.queue_laws.ensures.rests

pub returns-clause-upgrade : goal.returns-clause-upgrade
returns-clause-upgrade c = quiet.quiet_upgrade c.queue_laws.ensures.rests

pub returns-clause-deletion : goal.returns-clause-deletion
returns-clause-deletion c = quiet.quiet_deletion c.queue_laws.ensures.rests

pub returns-clause-fault : goal.returns-clause-fault
returns-clause-fault c = quiet.quiet_fault
