use Rattle.std.proofs.Common.{sym, ap, ◌∙◌}
use Rattle.script_statements.specs.declared.statement.Stmt.TheVariants.{Close}
use Rattle.client_machine.specs.TaskRuns.{closes, conn_named}
use Rattle.client_parts.specs.Clients.{client_seen}
use Rattle.task_statements.specs.Doing.{own_conn}
use Rattle.task_statements.proofs.Acted.{own_is, own_none, own_client, did_close, did_nothing}
use Rattle.task_statements.proofs.acting.act_close.Goals as goal

pub returns-in_default-clause-did : goal.returns-in_default-clause-did
returns-in_default-clause-did c = λ blocks notes.
    did_nothing blocks (client_seen c.args.parts.now) c.args.desk.now c.args.env.now (Close c.args.conn) notes
    (own_none (client_seen c.args.parts.now) (conn_named c.args.env.now c.args.conn) closes (ap (own_conn (client_seen c.args.parts.now)) (sym c.conn_named.ensures) ∙ sym c.own_conn.ensures ∙ c.in_default.is))

pub returns-clause-did : goal.returns-clause-did
returns-clause-did c = λ blocks notes.
    let here = ap (own_conn (client_seen c.args.parts.now)) (sym c.conn_named.ensures) ∙ sym c.own_conn.ensures ∙ c.in-Some.is in
    did_close blocks (client_seen c.args.parts.now) c.args.desk.now c.close.new.desk c.args.env.now (Close c.args.conn) c.in-Some.who notes
    (own_is (client_seen c.args.parts.now) (conn_named c.args.env.now c.args.conn) closes c.in-Some.who here)
    (own_client (client_seen c.args.parts.now) (conn_named c.args.env.now c.args.conn) c.in-Some.who here)
    c.in_ok-close.ensures.closed
