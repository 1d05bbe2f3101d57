use Rattle.client_parts.specs.Clients.{client_seen}
use Rattle.client_tasks.proofs.Staying.{taken_seated}
use Rattle.client_tasks.proofs.meeting.take.Goals as goal

pub returns-clause-seated : goal.returns-clause-seated
returns-clause-seated c = taken_seated (client_seen c.args.parts.now) c.args.desk.now c.take_step.new.desk c.args.event c.take_open.new.opens.items c.requires.seated c.requires.own c.take_open.ensures c.in_ok-take_step.ensures.made
