use Rattle.std.proofs.Common.{◌≡◌, Some, sym, ap, ◌∙◌, subst}
use Rattle.std.specs.Arc.{arc_value}
use Rattle.name_queues.specs.Mails.{conn_of}
use Rattle.name_queues.specs.declared.ids.ConnId.{ConnId}
use Rattle.idb_desk.specs.Steps.{desk_run, event_for}
use Rattle.client_machine.specs.ClientStates.{open_at}
use Rattle.client_parts.specs.Clients.{client_seen}
use Rattle.task_statements.specs.Offices.{OfficeState}
use Rattle.client_tasks.specs.Steps.{TakesEventInto, IsStray}
use Rattle.client_tasks.proofs.Strays.{read_none, read_some, stray_open}
use Rattle.client_tasks.proofs.Stepping.{took_plain}
use Rattle.client_tasks.proofs.offices.Office.meet_plain.Goals as goal

pub returns-in_default-clause-stray : goal.returns-in_default-clause-stray
returns-in_default-clause-stray c =
    let o = c.self.inside in
    let cl = client_seen o.parts in
    let old : OfficeState = record { blocks = (arc_value o.script).blocks; client = cl; run = o.desk } in
    let first : event_for (desk_run o.desk) cl.number ≡ Some c.args.event = ap (λ (x : OfficeState). event_for (desk_run x.run) x.client.number) c.self.view_is ∙ c.requires.first in
    λ s. subst (λ (x : OfficeState). IsStray x) c.self.view_is (stray_open old c.args.event first (ap (open_at cl) (sym (c.from.ensures ∙ ap (λ (x : ConnId). x.request) c.conn.ensures)) ∙ read_none c.open_at.result _ c.open_at.ensures c.in_default.is))

pub returns-clause-took : goal.returns-clause-took
returns-clause-took c =
    let o = c.self.inside in
    let cl = client_seen o.parts in
    let old : OfficeState = record { blocks = (arc_value o.script).blocks; client = cl; run = o.desk } in
    let first : event_for (desk_run o.desk) cl.number ≡ Some c.args.event = ap (λ (x : OfficeState). event_for (desk_run x.run) x.client.number) c.self.view_is ∙ c.requires.first in
    let idle = ap (λ (x : OfficeState). x.client.tasks) c.self.view_is ∙ c.requires.idle in
    let is : open_at cl (conn_of c.args.event).request ≡ Some c.in-Some.open.now = ap (open_at cl) (sym (c.from.ensures ∙ ap (λ (x : ConnId). x.request) c.conn.ensures)) ∙ read_some c.open_at.result _ c.in-Some.open c.open_at.ensures c.in-Some.is in
    subst (λ (x : OfficeState). TakesEventInto x c.args.notes.now c.run_now.new.self c.run_now.new.notes) c.self.view_is
    (took_plain old c.run_now.new.self (client_seen c.take.new.parts) c.take.new.desk c.args.event c.in-Some.open.now c.in_ok-env.env c.event_block-block.result c.event_line-line.result c.args.notes.now c.push.new.self c.run_now.new.notes
    idle first c.requires.plain is (c.in_ok-take.ensures.taken c.in-Some.open.now is) c.in_ok-take.ensures.made c.in_ok-env.ensures c.event_block-block.ensures c.event_line-line.ensures c.in_ok-push.ensures.stored c.in_ok-run_now.ensures)
