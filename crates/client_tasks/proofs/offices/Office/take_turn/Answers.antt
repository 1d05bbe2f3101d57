use Rattle.std.proofs.Common.{sym, ◌∙◌, subst, drop}
use Rattle.std.specs.Arc.{arc_value}
use Rattle.client_parts.specs.Clients.{client_seen}
use Rattle.client_seats.proofs.Laws.{seat_alike}
use Rattle.task_statements.specs.Offices.{OfficeState}
use Rattle.client_tasks.specs.Steps.{TurnInto}
use Rattle.client_tasks.proofs.Staying.{none_left}
use Rattle.client_tasks.proofs.Stepping.{has_turned}
use Rattle.client_tasks.proofs.offices.Office.take_turn.Goals as goal

pub invariant_of-self : goal.invariant_of-self
invariant_of-self c = seat_alike (client_seen c.self.inside.parts) (client_seen c.take_posts.new.parts) c.self.inside.desk c.self.invariant c.take_posts.ensures.alike

pub invariant_of-self-2 : goal.invariant_of-self-2
invariant_of-self-2 c = seat_alike (client_seen c.self.inside.parts) (client_seen c.take_posts.new.parts) c.self.inside.desk c.self.invariant c.take_posts.ensures.alike

pub returns-clause-ran : goal.returns-clause-ran
returns-clause-ran c =
    let o = c.self.inside in
    let new = client_seen c.take_posts.new.parts in
    subst (λ (x : OfficeState). TurnInto c.args.number x (drop c.args.from c.args.notes.now) (record { blocks = (arc_value o.script).blocks; client = new; run = o.desk })) c.self.view_is
    (has_turned (record { blocks = (arc_value o.script).blocks; client = client_seen o.parts; run = o.desk }) new c.args.number (drop c.args.from c.args.notes.now)
    (none_left o.parts.tasks.items o.parts.tasks.len c.is_empty.result o.parts.tasks.ok.0 c.is_empty.ensures c.if-not-is_empty.false)
    (sym c.is_started.ensures ∙ c.if-not-is_started.false) c.in_ok-take_posts.ensures.posted c.take_posts.ensures.alike.number)
