use Rattle.std.proofs.Common.{refl}
use Rattle.desk_steps.specs.declared.steps.DeskStep.TheVariants as step
use Rattle.client_parts.specs.Clients.{client_seen}
use Rattle.client_tasks.proofs.Staying.{later_seated}
use Rattle.client_tasks.proofs.offices.Office.fault.Goals as goal

pub invariant_of-self : goal.invariant_of-self
invariant_of-self c = later_seated (client_seen c.self.inside.parts) c.self.inside.desk c.step.new.self step.Faults c.self.invariant refl c.in-Ok.ensures.made
