use Rattle.std.proofs.Common.{sym, ap, ◌∙◌}
use Rattle.idb_desk.specs.Refusals.{refusal_of_create}
use Rattle.idb_desk.specs.Steps.{desk_run}
use Rattle.task_statements.proofs.Scopes.{once_refused}
use Rattle.task_statements.proofs.creating.refused.Goals as goal

pub returns : goal.returns
returns c =
    let asked = c.args.asked.now in
    c.refusal.ensures ∙ ap (λ ns. refusal_of_create (desk_run c.args.desk.now) asked.who ns asked.mode) c.in_ok-copy.ensures ∙ sym (once_refused (desk_run c.args.desk.now) asked.who asked.scope asked.mode)
