use Rattle.std.proofs.Common.{refl, sym, ◌∙◌, subst}
use Rattle.std.specs.Arc.{arc_value}
use Rattle.desk_steps.specs.declared.steps.DeskStep.TheVariants as step
use Rattle.client_parts.specs.Clients.{client_seen}
use Rattle.client_parts.specs.Holding.{kind_seen}
use Rattle.task_statements.specs.Offices.{OfficeState}
use Rattle.client_tasks.specs.Steps.{FinishesInto}
use Rattle.client_tasks.proofs.Staying.{left_seated, none_left}
use Rattle.client_tasks.proofs.Stepping.{has_finished}
use Rattle.client_tasks.proofs.offices.Office.finish.Goals as goal

pub invariant_of-self : goal.invariant_of-self
invariant_of-self c =
    let client = client_seen c.self.inside.parts in
    left_seated client c.self.inside.desk c.step.new.self c.args.number (step.Leaves client.number c.args.number c.args.outcome c.args.kept) c.take_out.new.txs.items c.self.invariant refl c.in-Ok.ensures.made c.take_out.ensures.left

pub returns-clause-finished : goal.returns-clause-finished
returns-clause-finished c =
    let o = c.self.inside in
    subst (λ (x : OfficeState). FinishesInto c.args.number c.args.outcome c.args.kept x c.args.notes.now c.end_tx.new.self c.end_tx.new.notes) c.self.view_is
    (has_finished (record { blocks = (arc_value o.script).blocks; client = client_seen o.parts; run = o.desk }) c.end_tx.new.self c.step.new.self c.take_out.new.txs.items c.args.number c.args.outcome c.args.kept c.in-Some.tx (kind_seen c.into_parts-kind.result.0) c.args.notes.now c.end_tx.new.notes
    (none_left o.parts.tasks.items o.parts.tasks.len c.is_empty.result o.parts.tasks.ok.0 c.is_empty.ensures c.if-not-is_empty.false)
    (sym c.is_started.ensures ∙ c.if-not-is_started.false) c.in-Some.ensures.given c.take_out.ensures.left c.into_parts-kind.ensures.kind c.in-Ok.ensures.made c.in_ok-end_tx.ensures)
