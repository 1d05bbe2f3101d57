use Rattle.std.proofs.Common.{◌≡◌, false, List, [], ◌++◌, Some, None, drop, refl, subst}
use Rattle.std.specs.Arc.{arc_value}
use Rattle.desk_steps.specs.declared.steps.DeskStep.TheVariants as step
use Rattle.serial_order.specs.SerialRuns.{joined_lines}
use Rattle.script_runs.specs.declared.notes.Note.{Note}
use Rattle.client_machine.specs.ClientStates.{ClientTx, ClientState, tx_at, without_tx}
use Rattle.client_parts.specs.Clients.{client_seen}
use Rattle.client_parts.specs.Holding.{kind_seen}
use Rattle.task_statements.specs.Offices.{OfficeState}
use Rattle.client_tasks.specs.Steps.{FinishesUnstartedInto}
use Rattle.client_tasks.proofs.Staying.{posted_seated}
use Rattle.client_tasks.proofs.Stepping.{has_finished_unstarted}
use Rattle.client_tasks.proofs.offices.Office.finish_unstarted.Goals as goal

pub invariant_of-self : goal.invariant_of-self
invariant_of-self c =
    let client = client_seen c.self.inside.parts in
    posted_seated client (client_seen c.take_posts.new.parts) c.self.inside.desk c.step.new.self (step.Leaves client.number c.args.number c.args.outcome None) c.self.invariant refl c.in-Ok.ensures.made c.take_posts.ensures.alike

pub invariant_of-self-2 : goal.invariant_of-self-2
invariant_of-self-2 c =
    let client = client_seen c.self.inside.parts in
    posted_seated client (client_seen c.take_posts.new.parts) c.self.inside.desk c.step.new.self (step.Leaves client.number c.args.number c.args.outcome None) c.self.invariant refl c.in-Ok.ensures.made c.take_posts.ensures.alike

pub returns-clause-finished : goal.returns-clause-finished
returns-clause-finished c =
    let o = c.self.inside in
    let added = drop c.args.from c.args.notes.now in
    subst (λ (x : OfficeState). (d : ClientState) (tx : ClientTx) (turns : List (List Note)) (before : List Note) → d.tasks ≡ [] → tx_at d c.args.number ≡ Some tx → tx.started ≡ false → tx.kind ≡ kind_seen c.args.kind
    → x.client ≡ without_tx d c.args.number → joined_lines turns ≡ added → c.args.notes.now ≡ before ++ joined_lines turns
    → FinishesUnstartedInto c.args.number turns c.args.outcome (record x { client = d }) before c.end_tx.new.self c.end_tx.new.notes) c.self.view_is
    (has_finished_unstarted (record { blocks = (arc_value o.script).blocks; client = client_seen o.parts; run = o.desk }) c.end_tx.new.self (client_seen c.take_posts.new.parts) c.step.new.self (kind_seen c.args.kind) c.args.number c.args.outcome
    added c.args.notes.now c.end_tx.new.notes c.in_ok-take_posts.ensures.posted c.take_posts.ensures.alike.number c.in-Ok.ensures.made c.in_ok-end_tx.ensures)
