use Rattle.std.proofs.Common.{◌≡◌, Some, sym, ap, ◌∙◌, subst}
use Rattle.std.specs.Arc.{arc_value}
use Rattle.name_queues.specs.declared.events.ClientEvent.TheVariants as event
use Rattle.idb_desk.specs.Steps.{desk_run, event_for}
use Rattle.client_machine.specs.ClientStates.{open_at}
use Rattle.client_parts.specs.Clients.{client_seen}
use Rattle.task_statements.specs.Offices.{OfficeState}
use Rattle.client_tasks.specs.Steps.{TakesEventInto, IsStray}
use Rattle.client_tasks.proofs.Strays.{read_none, read_some, stray_open}
use Rattle.client_tasks.proofs.Stepping.{moved_to, took_change}
use Rattle.client_tasks.specs.Between.{RunsNowInto}
use Rattle.client_tasks.proofs.offices.Office.meet_change.Goals as goal

pub returns-in_default-clause-stray : goal.returns-in_default-clause-stray
returns-in_default-clause-stray c =
    let o = c.self.inside in
    let cl = client_seen o.parts in
    let old : OfficeState = record { blocks = (arc_value o.script).blocks; client = cl; run = o.desk } in
    let first : event_for (desk_run o.desk) cl.number ≡ Some (event.VersionChange c.args.conn c.args.old c.args.new) = ap (λ (x : OfficeState). event_for (desk_run x.run) x.client.number) c.self.view_is ∙ c.requires.first in
    λ s. subst (λ (x : OfficeState). IsStray x) c.self.view_is (stray_open old (event.VersionChange c.args.conn c.args.old c.args.new) first (ap (open_at cl) (sym c.from.ensures) ∙ read_none c.open_at.result _ c.open_at.ensures c.in_default.is))

pub returns-clause-took : goal.returns-clause-took
returns-clause-took c =
    let o = c.self.inside in
    let cl = client_seen o.parts in
    let old : OfficeState = record { blocks = (arc_value o.script).blocks; client = cl; run = o.desk } in
    let first : event_for (desk_run o.desk) cl.number ≡ Some (event.VersionChange c.args.conn c.args.old c.args.new) = ap (λ (x : OfficeState). event_for (desk_run x.run) x.client.number) c.self.view_is ∙ c.requires.first in
    let idle = ap (λ (x : OfficeState). x.client.tasks) c.self.view_is ∙ c.requires.idle in
    let is : open_at cl c.args.conn.request ≡ Some c.in-Some.open.now = ap (open_at cl) (sym c.from.ensures) ∙ read_some c.open_at.result _ c.in-Some.open c.open_at.ensures c.in-Some.is in
    let p = c.self-2.inside in
    let ran : OfficeState = record { blocks = (arc_value p.script).blocks; client = client_seen p.parts; run = p.desk } in
    let g = subst (λ (x : OfficeState). RunsNowInto (moved_to old cl c.take_step.new.desk) c.in_ok-env.env c.event_block-block.result c.push.new.self x c.run_now.new.notes) (sym c.self-2.view_is) c.in_ok-run_now.ensures in
    subst (λ (x : OfficeState). TakesEventInto x c.args.notes.now (moved_to ran ran.client c.handle.new.desk) c.run_now.new.notes) c.self.view_is
    (took_change old ran c.take_step.new.desk c.handle.new.desk c.args.conn c.args.old c.args.new c.in-Some.open.now c.in_ok-env.env c.event_block-block.result c.event_line-line.result c.args.notes.now c.push.new.self c.run_now.new.notes
    idle first is c.in_ok-take_step.ensures.made c.in_ok-env.ensures c.event_block-block.ensures c.event_line-line.ensures c.in_ok-push.ensures.stored g c.handle.ensures.handled)
