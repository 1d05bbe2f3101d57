use Rattle.std.proofs.Common.{◌≡◌, Some, sym, ap, ◌∙◌, subst, List}
use Rattle.std.specs.Prelude.{IfSome}
use Rattle.std.specs.Arc.{arc_value}
use Rattle.client_machine.specs.ClientStates.{ClientTx, tx_at, without_tx}
use Rattle.client_parts.specs.Clients.{client_seen}
use Rattle.task_statements.specs.Offices.{OfficeState}
use Rattle.client_tasks.proofs.Staying.{out_seated, none_left}
use Rattle.client_tasks.proofs.Stepping.{found_out, waits_out, never_out, each_some}
use Rattle.client_tasks.proofs.offices.Office.take_unstarted.Goals as goal

pub invariant_of-self : goal.invariant_of-self
invariant_of-self c = out_seated (client_seen c.self.inside.parts) c.self.inside.desk c.args.number c.take_out.new.txs.items c.self.invariant c.take_out.ensures.left

pub returns-clause-found : goal.returns-clause-found
returns-clause-found c = subst (λ (x : OfficeState). IfSome c.take_out.result (λ tx. tx_at x.client c.args.number ≡ Some tx)) c.self.view_is (found_out _ _ c.take_out.ensures.given)

pub returns-clause-waits : goal.returns-clause-waits
returns-clause-waits c = waits_out _ _ c.take_out.ensures.given (sym c.waits.ensures ∙ c.if-not-waits.false)

pub returns-clause-idle : goal.returns-clause-idle
returns-clause-idle c =
    let tasks = c.self.inside.parts.tasks in
    each_some c.take_out.result (sym (ap (λ (x : OfficeState). x.client.tasks) c.self.view_is) ∙ none_left tasks.items tasks.len c.is_empty.result tasks.ok.0 c.is_empty.ensures c.if-not-is_empty.false)

pub returns-clause-taken : goal.returns-clause-taken
returns-clause-taken c =
    let o = c.self.inside in
    let client = client_seen o.parts in
    each_some c.take_out.result (ap (λ (txs : List ClientTx). record { blocks = (arc_value o.script).blocks; client = record client { txs = txs }; run = o.desk }) c.take_out.ensures.left
    ∙ ap (λ (x : OfficeState). record x { client = without_tx x.client c.args.number }) c.self.view_is)

pub returns-clause-none : goal.returns-clause-none
returns-clause-none c = never_out _ _ c.take_out.ensures.given _ (sym c.waits.ensures ∙ c.if-not-waits.false)

pub returns-clause-unchanged : goal.returns-clause-unchanged
returns-clause-unchanged c = never_out _ _ c.take_out.ensures.given _ (sym c.waits.ensures ∙ c.if-not-waits.false)
