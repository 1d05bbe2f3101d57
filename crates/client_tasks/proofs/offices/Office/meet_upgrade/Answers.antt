use Rattle.std.proofs.Common.{◌≡◌, Option, Some, refl, sym, ap, ◌∙◌, subst}
use Rattle.std.specs.Arc.{arc_value}
use Rattle.name_queues.specs.declared.events.ClientEvent.TheVariants as event
use Rattle.idb_desk.specs.Steps.{desk_run, event_for}
use Rattle.idb_desk.specs.Desks.{request_at}
use Rattle.connection_queues.specs.Machine.{schema_of}
use Rattle.client_machine.specs.ClientStates.{open_at}
use Rattle.client_parts.specs.Clients.{client_seen}
use Rattle.task_statements.specs.Offices.{OfficeState}
use Rattle.client_tasks.specs.Steps.{TakesEventInto, IsStray}
use Rattle.std.specs.Prelude.{option_map}
use Rattle.idb_schema.specs.Schemas.{SchemaData, with_version}
use Rattle.client_machine.specs.Answering.{at_new_version}
use Rattle.client_machine.specs.ClientStates.{ClientTx}
use Rattle.client_tasks.proofs.Staying.{same_seated}
use Rattle.client_tasks.proofs.Strays.{read_none, read_some, none_drawn, told_drawn, told_schema_is, stray_open, stray_number, stray_schema}
use Rattle.client_tasks.proofs.Stepping.{took_upgrade, upgrade_seated}
use Rattle.client_tasks.proofs.offices.Office.meet_upgrade.Goals as goal

pub returns-in_default-clause-stray : goal.returns-in_default-clause-stray
returns-in_default-clause-stray c =
    let o = c.self.inside in
    let cl = client_seen o.parts in
    let old : OfficeState = record { blocks = (arc_value o.script).blocks; client = cl; run = o.desk } in
    let first : event_for (desk_run o.desk) cl.number ≡ Some (event.Upgrade c.args.conn c.args.old c.args.new) = ap (λ (x : OfficeState). event_for (desk_run x.run) x.client.number) c.self.view_is ∙ c.requires.first in
    λ s. subst (λ (x : OfficeState). IsStray x) c.self.view_is (stray_open old (event.Upgrade c.args.conn c.args.old c.args.new) first (ap (open_at cl) (sym c.from.ensures) ∙ read_none c.open_at.result _ c.open_at.ensures c.in_default.is))

pub returns-in_default-request-clause-stray : goal.returns-in_default-request-clause-stray
returns-in_default-request-clause-stray c =
    let o = c.self.inside in
    let cl = client_seen o.parts in
    let old : OfficeState = record { blocks = (arc_value o.script).blocks; client = cl; run = o.desk } in
    let first : event_for (desk_run o.desk) cl.number ≡ Some (event.Upgrade c.args.conn c.args.old c.args.new) = ap (λ (x : OfficeState). event_for (desk_run x.run) x.client.number) c.self.view_is ∙ c.requires.first in
    λ s. subst (λ (x : OfficeState). IsStray x) c.self.view_is (stray_number old (event.Upgrade c.args.conn c.args.old c.args.new) first refl (told_drawn (desk_run o.desk) cl.number ∙ none_drawn (desk_run o.desk) cl.number (event.Upgrade c.args.conn c.args.old c.args.new) first refl (read_none c.request.result _ c.request.ensures c.in_default-request.is)))

pub returns-clause-took : goal.returns-clause-took
returns-clause-took c =
    let o = c.self.inside in
    let cl = client_seen o.parts in
    let old : OfficeState = record { blocks = (arc_value o.script).blocks; client = cl; run = o.desk } in
    let first : event_for (desk_run o.desk) cl.number ≡ Some (event.Upgrade c.args.conn c.args.old c.args.new) = ap (λ (x : OfficeState). event_for (desk_run x.run) x.client.number) c.self.view_is ∙ c.requires.first in
    let idle = ap (λ (x : OfficeState). x.client.tasks) c.self.view_is ∙ c.requires.idle in
    let is : open_at cl c.args.conn.request ≡ Some c.in-Some.open.now = ap (open_at cl) (sym c.from.ensures) ∙ read_some c.open_at.result _ c.in-Some.open c.open_at.ensures c.in-Some.is in
    let asked : request_at (desk_run o.desk).board.clients c.args.conn ≡ Some c.in-Some-request.field-0.now = read_some c.request.result _ c.in-Some-request.field-0 c.request.ensures c.in-Some-request.is in
    let room = client_seen c.make_room.new.parts in
    let new = client_seen c.take_posts.new.parts in
    let r = c.take.new.desk in
    let txs = c.put_tx.new.txs.items in
    let same = c.make_room.ensures.same ∙ c.in_ok-take.ensures.taken c.in-Some.open.now is in
    let has : schema_of (desk_run o.desk).queues c.args.conn ≡ Some c.in-Some-schema.schema.now = read_some c.schema.result _ c.in-Some-schema.schema c.schema.ensures c.in-Some-schema.is in
    subst (λ (x : OfficeState). TakesEventInto x c.args.notes.now (record { blocks = (arc_value o.script).blocks; client = new; run = r }) c.begin_upgrade.new.notes) c.self.view_is
    (took_upgrade old room new r c.args.conn c.args.old c.args.new c.next_number-number.result c.in-Some.open.now c.in-Some-request.field-0.now c.in_ok-tx.tx txs first is asked c.next_number-number.ensures same c.in_ok-take.ensures.made c.put_tx.ensures c.take_posts.ensures.alike
    c.in-Some-schema.schema.now c.set_version.new.self c.in_ok-env.env c.event_block-block.result c.event_line-line.result c.len-from.result c.args.notes.now c.push.new.self c.begin_upgrade.new.notes
    idle has (c.set_version.ensures ∙ ap (λ (x : SchemaData). with_version x c.args.new) c.in_ok-schema.ensures) c.in_ok-env.ensures c.event_block-block.ensures c.event_line-line.ensures c.in_ok-push.ensures.stored c.len-from.ensures c.in_ok-tx.ensures c.in_ok-take_posts.ensures.posted)

pub returns-in_default-schema-clause-stray : goal.returns-in_default-schema-clause-stray
returns-in_default-schema-clause-stray c =
    let o = c.self.inside in
    let cl = client_seen o.parts in
    let old : OfficeState = record { blocks = (arc_value o.script).blocks; client = cl; run = o.desk } in
    let first : event_for (desk_run o.desk) cl.number ≡ Some (event.Upgrade c.args.conn c.args.old c.args.new) = ap (λ (x : OfficeState). event_for (desk_run x.run) x.client.number) c.self.view_is ∙ c.requires.first in
    λ s. subst (λ (x : OfficeState). IsStray x) c.self.view_is (stray_schema old (event.Upgrade c.args.conn c.args.old c.args.new) first refl (told_schema_is (desk_run o.desk) cl.number c.args.conn c.args.old c.args.new first ∙ ap (λ (x : Option SchemaData). option_map (at_new_version c.args.new) x) (read_none c.schema.result _ c.schema.ensures c.in_default-schema.is)))

pub invariant_of-self-in_err-make_room : goal.invariant_of-self-in_err-make_room
invariant_of-self-in_err-make_room c = same_seated (client_seen c.take.new.parts) (client_seen c.make_room.new.parts) c.take.new.desk c.take.ensures.seated c.make_room.ensures.same

pub invariant_of-self-in_err-push : goal.invariant_of-self-in_err-push
invariant_of-self-in_err-push c = same_seated (client_seen c.take.new.parts) (client_seen c.make_room.new.parts) c.take.new.desk c.take.ensures.seated c.make_room.ensures.same

pub invariant_of-self-in_err-tx : goal.invariant_of-self-in_err-tx
invariant_of-self-in_err-tx c = same_seated (client_seen c.take.new.parts) (client_seen c.make_room.new.parts) c.take.new.desk c.take.ensures.seated c.make_room.ensures.same

pub invariant_of-self-in_err-take_posts : goal.invariant_of-self-in_err-take_posts
invariant_of-self-in_err-take_posts c =
    let o = c.self.inside in
    let cl = client_seen o.parts in
    let old : OfficeState = record { blocks = (arc_value o.script).blocks; client = cl; run = o.desk } in
    let first : event_for (desk_run o.desk) cl.number ≡ Some (event.Upgrade c.args.conn c.args.old c.args.new) = ap (λ (x : OfficeState). event_for (desk_run x.run) x.client.number) c.self.view_is ∙ c.requires.first in
    let is : open_at cl c.args.conn.request ≡ Some c.in-Some.open.now = ap (open_at cl) (sym c.from.ensures) ∙ read_some c.open_at.result _ c.in-Some.open c.open_at.ensures c.in-Some.is in
    let asked : request_at (desk_run o.desk).board.clients c.args.conn ≡ Some c.in-Some-request.field-0.now = read_some c.request.result _ c.in-Some-request.field-0 c.request.ensures c.in-Some-request.is in
    let room = client_seen c.make_room.new.parts in
    let new = client_seen c.take_posts.new.parts in
    let r = c.take.new.desk in
    let txs = c.put_tx.new.txs.items in
    let same = c.make_room.ensures.same ∙ c.in_ok-take.ensures.taken c.in-Some.open.now is in
    upgrade_seated old room new r c.args.conn c.args.old c.args.new c.next_number-number.result c.in-Some.open.now c.in-Some-request.field-0.now c.in_ok-tx.tx txs first is asked c.next_number-number.ensures same c.in_ok-take.ensures.made c.put_tx.ensures c.take_posts.ensures.alike c.self.invariant (ap (λ (x : ClientTx). x.number) c.in_ok-tx.ensures.made)

pub invariant_of-self-2 : goal.invariant_of-self-2
invariant_of-self-2 c =
    let o = c.self.inside in
    let cl = client_seen o.parts in
    let old : OfficeState = record { blocks = (arc_value o.script).blocks; client = cl; run = o.desk } in
    let first : event_for (desk_run o.desk) cl.number ≡ Some (event.Upgrade c.args.conn c.args.old c.args.new) = ap (λ (x : OfficeState). event_for (desk_run x.run) x.client.number) c.self.view_is ∙ c.requires.first in
    let is : open_at cl c.args.conn.request ≡ Some c.in-Some.open.now = ap (open_at cl) (sym c.from.ensures) ∙ read_some c.open_at.result _ c.in-Some.open c.open_at.ensures c.in-Some.is in
    let asked : request_at (desk_run o.desk).board.clients c.args.conn ≡ Some c.in-Some-request.field-0.now = read_some c.request.result _ c.in-Some-request.field-0 c.request.ensures c.in-Some-request.is in
    let room = client_seen c.make_room.new.parts in
    let new = client_seen c.take_posts.new.parts in
    let r = c.take.new.desk in
    let txs = c.put_tx.new.txs.items in
    let same = c.make_room.ensures.same ∙ c.in_ok-take.ensures.taken c.in-Some.open.now is in
    upgrade_seated old room new r c.args.conn c.args.old c.args.new c.next_number-number.result c.in-Some.open.now c.in-Some-request.field-0.now c.in_ok-tx.tx txs first is asked c.next_number-number.ensures same c.in_ok-take.ensures.made c.put_tx.ensures c.take_posts.ensures.alike c.self.invariant (ap (λ (x : ClientTx). x.number) c.in_ok-tx.ensures.made)
