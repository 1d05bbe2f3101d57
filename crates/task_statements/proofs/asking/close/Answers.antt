use Rattle.std.proofs.Common.{refl, sym, subst}
use Rattle.desk_steps.specs.declared.steps.DeskStep.TheVariants as step
use Rattle.client_seats.specs.Seating.{IsSeated}
use Rattle.client_seats.proofs.Laws.{seat_later}
use Rattle.client_parts.specs.Clients.{client_seen}
use Rattle.task_statements.proofs.asking.close.Goals as goal

pub returns-in_ok-step-clause-seated : goal.returns-in_ok-step-clause-seated
returns-in_ok-step-clause-seated c = subst (λ q. IsSeated (client_seen c.args.parts.now) q) (sym c.in_ok-step.ensures.made) (seat_later (client_seen c.args.parts.now) c.args.desk.now (step.Closes c.args.who) c.requires refl)
