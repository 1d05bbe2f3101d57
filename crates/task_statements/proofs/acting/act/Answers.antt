use Rattle.std.specs.Arc.{arc_value}
use Rattle.client_parts.specs.Clients.{client_seen}
use Rattle.task_statements.proofs.Acted.{did_nothing}
use Rattle.task_statements.proofs.Asks.{misplaced_else}
use Rattle.task_statements.proofs.acting.act.Goals as goal

pub returns-in_default-clause-did : goal.returns-in_default-clause-did
returns-in_default-clause-did c =
    let old = client_seen c.args.parts.now in
    did_nothing (arc_value c.args.script.now).blocks old c.args.desk.now c.args.env.now c.args.statement.now c.args.notes.now
    (misplaced_else old c.args.env.now c.args.statement.now c.in_default.not-Open c.in_default.not-DeleteDatabase c.in_default.not-Close c.in_default.not-Transaction)
