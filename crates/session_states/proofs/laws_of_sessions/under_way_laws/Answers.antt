use Rattle.client_ties.proofs.Laws.{sound_run}
use Rattle.session_states.proofs.Faults.{desk_faults, durable_faulted, in_step_faulted, doubted_faulted}
use Rattle.session_states.proofs.Fresh.{fresh_under_way}
use Rattle.session_states.proofs.Ready.{seat_tied, least_ready}
use Rattle.session_states.proofs.Moving.{durable_there}
use Rattle.session_states.proofs.Ending.{legal_at_end}
use Rattle.session_states.proofs.laws_of_sessions.under_way_laws.Goals as goal

pub returns-clause-fresh : goal.returns-clause-fresh
returns-clause-fresh c = fresh_under_way c.desk_laws.ensures.empty_order

pub returns-clause-tied : goal.returns-clause-tied
returns-clause-tied c = seat_tied

pub returns-clause-ready : goal.returns-clause-ready
returns-clause-ready c = least_ready (sound_run c.desk_laws.ensures.numbers)

pub returns-clause-faulted : goal.returns-clause-faulted
returns-clause-faulted c = desk_faults

pub returns-clause-faults : goal.returns-clause-faults
returns-clause-faults c session opening now running u run = (in_step_faulted session opening now running u run).0

pub returns-clause-doubted : goal.returns-clause-doubted
returns-clause-doubted c = doubted_faulted

pub returns-clause-durable : goal.returns-clause-durable
returns-clause-durable c session opening now running place script before seat acts r number tx u m found = durable_there session opening now running place script before seat acts r u m number tx found

pub returns-clause-durable_faulted : goal.returns-clause-durable_faulted
returns-clause-durable_faulted c r number = durable_faulted r.order number

pub returns-clause-legal : goal.returns-clause-legal
returns-clause-legal c = legal_at_end (sound_run c.desk_laws.ensures.numbers)
