use Rattle.std.proofs.Common.{refl}
use Rattle.desk_steps.specs.declared.steps.DeskStep.TheVariants as step
use Rattle.client_parts.specs.Clients.{client_seen}
use Rattle.client_tasks.proofs.Staying.{later_seated}
use Rattle.client_tasks.proofs.meeting.take_step.Goals as goal

pub returns-clause-seated : goal.returns-clause-seated
returns-clause-seated c = later_seated (client_seen c.args.parts.now) c.args.desk.now c.step.new.self (step.Takes c.args.parts.now.number) c.requires.seated refl c.in_ok-step.ensures.made
