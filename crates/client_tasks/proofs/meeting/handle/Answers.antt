use Rattle.std.proofs.Common.{refl}
use Rattle.desk_steps.specs.declared.steps.DeskStep.TheVariants as step
use Rattle.client_parts.specs.Clients.{client_seen}
use Rattle.client_tasks.proofs.Staying.{later_seated}
use Rattle.client_tasks.proofs.meeting.handle.Goals as goal

pub returns-in-Ok-clause-seated : goal.returns-in-Ok-clause-seated
returns-in-Ok-clause-seated c = later_seated (client_seen c.args.parts.now) c.args.desk.now c.step.new.self (step.Handles c.args.parts.now.number) c.requires.seated refl c.in-Ok.ensures.made
