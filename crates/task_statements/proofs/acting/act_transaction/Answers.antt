use Rattle.std.proofs.Common.{sym, ap, ◌∙◌}
use Rattle.std.specs.Arc.{arc_value}
use Rattle.client_machine.specs.TaskRuns.{conn_named, task_ask}
use Rattle.client_parts.specs.Clients.{client_seen}
use Rattle.task_statements.specs.Doing.{own_conn}
use Rattle.task_statements.proofs.Acted.{in_ok, own_client, did_create, did_nothing}
use Rattle.task_statements.proofs.Asks.{tx_none, tx_asked}
use Rattle.task_statements.proofs.acting.act_transaction.Goals as goal

pub returns-in_default-own_conn-clause-did : goal.returns-in_default-own_conn-clause-did
returns-in_default-own_conn-clause-did c =
    let old = client_seen c.args.parts.now in
    let t = c.in-Transaction in
    did_nothing (arc_value c.args.script.now).blocks old c.args.desk.now c.args.env.now c.args.statement.now c.args.notes.now
    (ap (task_ask old c.args.env.now) t.is ∙ tx_none old c.args.env.now t.conn t.scope t.mode t.durability t.body t.complete t.abort (ap (own_conn old) (sym c.conn_named.ensures) ∙ sym c.own_conn.ensures ∙ c.in_default-own_conn.is))

pub returns-clause-did : goal.returns-clause-did
returns-clause-did c =
    let old = client_seen c.args.parts.now in
    let t = c.in-Transaction in
    let here = ap (own_conn old) (sym c.conn_named.ensures) ∙ sym c.own_conn.ensures ∙ c.in-Some.is in
    in_ok c.create.result (λ refusal h.
    did_create (arc_value c.args.script.now).blocks old c.args.desk.now _ _ c.args.env.now c.args.statement.now _ refusal c.args.notes.now _
    (ap (task_ask old c.args.env.now) t.is ∙ tx_asked old c.args.env.now t.conn t.scope t.mode t.durability t.body t.complete t.abort c.in-Some.who c.in_ok-copy.field-0 c.unwrap_or.result here c.in_ok-copy.ensures c.unwrap_or.ensures)
    (own_client old (conn_named c.args.env.now t.conn) c.in-Some.who here) h) c.create.ensures.created
