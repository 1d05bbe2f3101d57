use Rattle.std.proofs.Common.{sym, ◌∙◌}
use Rattle.client_parts.specs.Clients.{client_seen}
use Rattle.task_statements.proofs.Acted.{in_ok, did_ask}
use Rattle.task_statements.proofs.Asks.{asked_task}
use Rattle.task_statements.proofs.acting.act_ask.Goals as goal

pub returns-clause-did : goal.returns-clause-did
returns-clause-did c = λ blocks notes. in_ok c.ask.result (λ refusal h.
    did_ask blocks (client_seen c.args.parts.now) c.args.desk.now (client_seen c.ask.new.parts) c.ask.new.desk c.args.env.now c.args.statement.now c.in-Some.asking.kept c.in-Some.asking.wants refusal notes
    (asked_task (client_seen c.args.parts.now) c.args.env.now c.args.statement.now c.in-Some.asking (sym c.in_ok-asking.ensures ∙ c.in-Some.is)) h) c.ask.ensures.asked
