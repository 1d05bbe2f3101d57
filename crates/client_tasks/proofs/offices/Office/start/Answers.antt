use Rattle.std.proofs.Common.{sym, ◌∙◌, subst}
use Rattle.std.specs.Prelude.{IfSome}
use Rattle.std.specs.Arc.{arc_value}
use Rattle.client_parts.specs.Clients.{client_seen}
use Rattle.client_parts.specs.Holding.{body_seen}
use Rattle.task_statements.specs.Offices.{OfficeState}
use Rattle.client_tasks.specs.Steps.{StartsInto}
use Rattle.client_tasks.proofs.Staying.{started_seated, none_left}
use Rattle.client_tasks.proofs.Stepping.{has_started}
use Rattle.client_tasks.proofs.offices.Office.start.Goals as goal

pub invariant_of-self : goal.invariant_of-self
invariant_of-self c = started_seated (client_seen c.self.inside.parts) c.self.inside.desk c.step.new.self c.args.number c.start.new.txs.items c.self.invariant c.start.ensures.started c.in-Ok.ensures.made

pub returns-clause-started : goal.returns-clause-started
returns-clause-started c =
    let o = c.self.inside in
    subst (λ (x : OfficeState). IfSome c.start.result (λ body. StartsInto c.args.number x (body_seen body) (record { blocks = (arc_value o.script).blocks; client = client_seen (record o.parts { txs = c.start.new.txs }); run = c.step.new.self }))) c.self.view_is
    (has_started (record { blocks = (arc_value o.script).blocks; client = client_seen o.parts; run = o.desk }) c.step.new.self c.start.new.txs.items c.args.number c.start.result
    (none_left o.parts.tasks.items o.parts.tasks.len c.is_empty.result o.parts.tasks.ok.0 c.is_empty.ensures c.if-not-is_empty.false)
    (sym c.can_start.ensures ∙ c.if-not-can_start.false) c.start.ensures.begun c.start.ensures.started c.in-Ok.ensures.made)
