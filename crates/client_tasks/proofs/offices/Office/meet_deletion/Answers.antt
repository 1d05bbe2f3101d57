use Rattle.std.proofs.Common.{◌≡◌, ℕ, List, Option, Some, refl, sym, ap, ◌∙◌, subst}
use Rattle.std.specs.Arc.{arc_value}
use Rattle.name_queues.specs.declared.events.ClientEvent.TheVariants as event
use Rattle.idb_desk.specs.Steps.{desk_run, event_for, with_step}
use Rattle.idb_desk.specs.Desks.{request_at}
use Rattle.client_machine.specs.ClientStates.{ClientState, open_at}
use Rattle.client_parts.specs.Clients.{client_seen}
use Rattle.task_statements.specs.Offices.{OfficeState}
use Rattle.client_tasks.specs.Steps.{TakesEventInto, IsStray}
use Rattle.client_tasks.proofs.Staying.{same_seated}
use Rattle.client_tasks.proofs.Strays.{read_none, read_some, none_drawn, told_drawn, stray_open, stray_number}
use Rattle.client_tasks.proofs.Stepping.{took_deletion, deletion_seated}
use Rattle.std.specs.Prelude.{is_some}
use Rattle.name_queues.specs.declared.events.ClientEvent.{ClientEvent}
use Rattle.desk_steps.specs.declared.steps.DeskStep.TheVariants as step
use Rattle.client_machine.specs.ClientSteps.{deletion_tx}
use Rattle.client_tasks.proofs.offices.Office.meet_deletion.Goals as goal

pub returns-in_default-clause-stray : goal.returns-in_default-clause-stray
returns-in_default-clause-stray c =
    let o = c.self.inside in
    let cl = client_seen o.parts in
    let old : OfficeState = record { blocks = (arc_value o.script).blocks; client = cl; run = o.desk } in
    let first : event_for (desk_run o.desk) cl.number ≡ Some (event.DeleteReady c.args.conn c.args.old) = ap (λ (x : OfficeState). event_for (desk_run x.run) x.client.number) c.self.view_is ∙ c.requires.first in
    λ s. subst (λ (x : OfficeState). IsStray x) c.self.view_is (stray_open old (event.DeleteReady c.args.conn c.args.old) first (ap (open_at cl) (sym c.from.ensures) ∙ read_none c.open_at.result _ c.open_at.ensures c.in_default.is))

pub returns-in_default-request-clause-stray : goal.returns-in_default-request-clause-stray
returns-in_default-request-clause-stray c =
    let o = c.self.inside in
    let cl = client_seen o.parts in
    let old : OfficeState = record { blocks = (arc_value o.script).blocks; client = cl; run = o.desk } in
    let first : event_for (desk_run o.desk) cl.number ≡ Some (event.DeleteReady c.args.conn c.args.old) = ap (λ (x : OfficeState). event_for (desk_run x.run) x.client.number) c.self.view_is ∙ c.requires.first in
    λ s. subst (λ (x : OfficeState). IsStray x) c.self.view_is (stray_number old (event.DeleteReady c.args.conn c.args.old) first refl (told_drawn (desk_run o.desk) cl.number ∙ none_drawn (desk_run o.desk) cl.number (event.DeleteReady c.args.conn c.args.old) first refl (read_none c.request.result _ c.request.ensures c.in_default-request.is)))

pub invariant_of-self : goal.invariant_of-self
invariant_of-self c = same_seated (client_seen c.self.inside.parts) (client_seen c.make_room.new.parts) c.self.inside.desk c.self.invariant c.make_room.ensures.same

pub take_step-requires-clause-seated : goal.take_step-requires-clause-seated
take_step-requires-clause-seated c = same_seated (client_seen c.self.inside.parts) (client_seen c.make_room.new.parts) c.self.inside.desk c.self.invariant c.make_room.ensures.same

pub returns-clause-took : goal.returns-clause-took
returns-clause-took c =
    let o = c.self.inside in
    let cl = client_seen o.parts in
    let old : OfficeState = record { blocks = (arc_value o.script).blocks; client = cl; run = o.desk } in
    let first : event_for (desk_run o.desk) cl.number ≡ Some (event.DeleteReady c.args.conn c.args.old) = ap (λ (x : OfficeState). event_for (desk_run x.run) x.client.number) c.self.view_is ∙ c.requires.first in
    let idle = ap (λ (x : OfficeState). x.client.tasks) c.self.view_is ∙ c.requires.idle in
    let is : open_at cl c.args.conn.request ≡ Some c.in-Some.open.now = ap (open_at cl) (sym c.from.ensures) ∙ read_some c.open_at.result _ c.in-Some.open c.open_at.ensures c.in-Some.is in
    let asked : request_at (desk_run o.desk).board.clients c.args.conn ≡ Some c.in-Some-request.field-0.now = read_some c.request.result _ c.in-Some-request.field-0 c.request.ensures c.in-Some-request.is in
    let room = client_seen c.make_room.new.parts in
    let r = c.take_step.new.desk in
    let txs = c.put_tx.new.txs.items in
    let same = c.make_room.ensures.same in
    let made : r ≡ with_step o.desk (step.Takes cl.number) = c.in_ok-take_step.ensures.made ∙ ap (λ (n : ℕ). with_step o.desk (step.Takes n)) (ap (λ (x : ClientState). x.number) same) in
    let new : c.new-tx.result ≡ deletion_tx c.next_number-number.result c.in-Some.open.now.name = c.new-tx.ensures ∙ ap (λ (n : List ℕ). deletion_tx c.next_number-number.result n) (c.in_ok-name.ensures ∙ c.name.ensures) in
    subst (λ (x : OfficeState). TakesEventInto x c.args.notes.now (record { blocks = (arc_value o.script).blocks; client = record room { txs = txs }; run = r }) c.push.new.self) c.self.view_is
    (took_deletion old room r c.args.conn c.args.old c.next_number-number.result c.in-Some.open.now c.in-Some-request.field-0.now c.new-tx.result txs first is asked c.next_number-number.ensures same made new c.put_tx.ensures
    c.event_line-line.result c.args.notes.now c.push.new.self idle c.event_line-line.ensures c.in_ok-push.ensures.stored)

pub take_step-requires-clause-some : goal.take_step-requires-clause-some
take_step-requires-clause-some c =
    let o = c.self.inside in
    let cl = client_seen o.parts in
    let old : OfficeState = record { blocks = (arc_value o.script).blocks; client = cl; run = o.desk } in
    let first : event_for (desk_run o.desk) cl.number ≡ Some (event.DeleteReady c.args.conn c.args.old) = ap (λ (x : OfficeState). event_for (desk_run x.run) x.client.number) c.self.view_is ∙ c.requires.first in
    ap (λ (n : ℕ). is_some (event_for (desk_run o.desk) n)) (ap (λ (x : ClientState). x.number) c.make_room.ensures.same) ∙ ap (λ (e : Option ClientEvent). is_some e) first

pub invariant_of-self-in_err-push : goal.invariant_of-self-in_err-push
invariant_of-self-in_err-push c =
    let o = c.self.inside in
    let cl = client_seen o.parts in
    let old : OfficeState = record { blocks = (arc_value o.script).blocks; client = cl; run = o.desk } in
    let first : event_for (desk_run o.desk) cl.number ≡ Some (event.DeleteReady c.args.conn c.args.old) = ap (λ (x : OfficeState). event_for (desk_run x.run) x.client.number) c.self.view_is ∙ c.requires.first in
    let is : open_at cl c.args.conn.request ≡ Some c.in-Some.open.now = ap (open_at cl) (sym c.from.ensures) ∙ read_some c.open_at.result _ c.in-Some.open c.open_at.ensures c.in-Some.is in
    let asked : request_at (desk_run o.desk).board.clients c.args.conn ≡ Some c.in-Some-request.field-0.now = read_some c.request.result _ c.in-Some-request.field-0 c.request.ensures c.in-Some-request.is in
    let room = client_seen c.make_room.new.parts in
    let r = c.take_step.new.desk in
    let txs = c.put_tx.new.txs.items in
    let same = c.make_room.ensures.same in
    let made : r ≡ with_step o.desk (step.Takes cl.number) = c.in_ok-take_step.ensures.made ∙ ap (λ (n : ℕ). with_step o.desk (step.Takes n)) (ap (λ (x : ClientState). x.number) same) in
    let new : c.new-tx.result ≡ deletion_tx c.next_number-number.result c.in-Some.open.now.name = c.new-tx.ensures ∙ ap (λ (n : List ℕ). deletion_tx c.next_number-number.result n) (c.in_ok-name.ensures ∙ c.name.ensures) in
    deletion_seated old room r c.args.conn c.args.old c.next_number-number.result c.in-Some.open.now c.in-Some-request.field-0.now c.new-tx.result txs first is asked c.next_number-number.ensures same made new c.put_tx.ensures c.self.invariant

pub invariant_of-self-2 : goal.invariant_of-self-2
invariant_of-self-2 c =
    let o = c.self.inside in
    let cl = client_seen o.parts in
    let old : OfficeState = record { blocks = (arc_value o.script).blocks; client = cl; run = o.desk } in
    let first : event_for (desk_run o.desk) cl.number ≡ Some (event.DeleteReady c.args.conn c.args.old) = ap (λ (x : OfficeState). event_for (desk_run x.run) x.client.number) c.self.view_is ∙ c.requires.first in
    let is : open_at cl c.args.conn.request ≡ Some c.in-Some.open.now = ap (open_at cl) (sym c.from.ensures) ∙ read_some c.open_at.result _ c.in-Some.open c.open_at.ensures c.in-Some.is in
    let asked : request_at (desk_run o.desk).board.clients c.args.conn ≡ Some c.in-Some-request.field-0.now = read_some c.request.result _ c.in-Some-request.field-0 c.request.ensures c.in-Some-request.is in
    let room = client_seen c.make_room.new.parts in
    let r = c.take_step.new.desk in
    let txs = c.put_tx.new.txs.items in
    let same = c.make_room.ensures.same in
    let made : r ≡ with_step o.desk (step.Takes cl.number) = c.in_ok-take_step.ensures.made ∙ ap (λ (n : ℕ). with_step o.desk (step.Takes n)) (ap (λ (x : ClientState). x.number) same) in
    let new : c.new-tx.result ≡ deletion_tx c.next_number-number.result c.in-Some.open.now.name = c.new-tx.ensures ∙ ap (λ (n : List ℕ). deletion_tx c.next_number-number.result n) (c.in_ok-name.ensures ∙ c.name.ensures) in
    deletion_seated old room r c.args.conn c.args.old c.next_number-number.result c.in-Some.open.now c.in-Some-request.field-0.now c.new-tx.result txs first is asked c.next_number-number.ensures same made new c.put_tx.ensures c.self.invariant
