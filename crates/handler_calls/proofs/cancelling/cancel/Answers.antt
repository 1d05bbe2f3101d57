use Rattle.std.proofs.Common.{◌∙◌, ap}
use Rattle.request_lists.specs.declared.entries.Phase.TheVariants as phase
use Rattle.request_lists.specs.Running.{ended_as}
use Rattle.handler_calls.specs.Cancelling.{cancel_error}
use Rattle.handler_calls.proofs.Cancelled.{ended_attended, cancelled_told}
use Rattle.handler_calls.proofs.cancelling.cancel.Goals as goal

pub cancel_all-requires-clause-attended : goal.cancel_all-requires-clause-attended
cancel_all-requires-clause-attended g c = ended_attended c.args.front c.end_as.new.self (phase.Aborted c.cancel_error-error.result) c.end_as.ensures c.requires

pub returns-in-Ok-clause-told : goal.returns-in-Ok-clause-told
returns-in-Ok-clause-told g c = cancelled_told g.H.Handler.plain g.H.Handler.reacts g.H.Handler.writes c.args.front c.end_as.new.self c.cancel_all.new.front (g.H.Handler.lines c.args.notes.now) (g.H.Handler.lines c.cancel_all.new.notes)
    (c.end_as.ensures ∙ ap (λ e. ended_as (phase.Aborted e) c.args.front) (c.cancel_error-error.ensures ∙ ap cancel_error c.phase.ensures)) c.in-Ok.ensures.told
