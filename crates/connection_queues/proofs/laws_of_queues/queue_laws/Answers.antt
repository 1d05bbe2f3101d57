use Rattle.connection_queues.proofs.Settling.{settled_rests, run_more, waits_conn}
use Rattle.connection_queues.proofs.laws_of_queues.queue_laws.Goals as goal

pub returns-clause-rests : goal.returns-clause-rests
returns-clause-rests c = settled_rests

pub returns-clause-one_more_call : goal.returns-clause-one_more_call
returns-clause-one_more_call c = run_more

pub returns-clause-waits : goal.returns-clause-waits
returns-clause-waits c = waits_conn
