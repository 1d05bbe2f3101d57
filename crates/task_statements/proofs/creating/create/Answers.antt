use Rattle.std.proofs.Common.{refl, sym, ◌∙◌}
use Rattle.client_parts.specs.Clients.{client_seen}
use Rattle.task_statements.specs.Doing.{RefusedCreate}
use Rattle.task_statements.proofs.Acted.{created_all, created_seated}
use Rattle.task_statements.proofs.creating.create.Goals as goal

pub returns-in-Some-clause-created : goal.returns-in-Some-clause-created
returns-in-Some-clause-created c = RefusedCreate c.in-Some.error refl refl (sym c.in_ok-error.ensures ∙ c.in-Some.is)

pub returns-clause-created : goal.returns-clause-created
returns-clause-created c =
    created_all c.args.desk.now c.args.asked c.next_number-number.result c.in_ok-copy.field-0 c.next_number-number.ensures (c.in_ok-copy.ensures ∙ c.in_ok-names.ensures)
    _ (client_seen c.args.parts.now) (client_seen c.make_room.new.parts) c.step.new.self c.args.env.now c.in_ok-schema.schema c.in_ok-tx.tx c.put_tx.new.txs.items c.args.notes.now c.begin.new.notes
    c.in_ok-tx.ensures c.make_room.ensures.same c.put_tx.ensures c.in_ok-step.ensures.made c.in_ok-schema.ensures

pub returns-clause-seated : goal.returns-clause-seated
returns-clause-seated c =
    created_seated c.args.desk.now c.args.asked c.next_number-number.result c.in_ok-copy.field-0 c.next_number-number.ensures (c.in_ok-copy.ensures ∙ c.in_ok-names.ensures)
    _ (client_seen c.args.parts.now) (client_seen c.make_room.new.parts) c.step.new.self c.args.env.now c.in_ok-schema.schema c.in_ok-tx.tx c.put_tx.new.txs.items c.args.notes.now c.begin.new.notes
    c.in_ok-tx.ensures c.make_room.ensures.same c.put_tx.ensures c.in_ok-step.ensures.made c.requires (sym c.in_ok-error.ensures ∙ c.in_default.is)
