use Rattle.std.proofs.Common.{Option, sym, subst}
use Rattle.std.specs.Prelude.{IfSome}
use Rattle.client_parts.specs.declared.begun.BegunBody.{BegunBody}
use Rattle.client_parts.specs.Holding.{body_seen, begun_seen}
use Rattle.office_scenes.specs.Running.{EndsBody}
use Rattle.office_moves.proofs.Unstarted.{deletion_ends}
use Rattle.office_moves.proofs.dropping.end_body.Goals as goal

pub returns-in-Some-Deletion-clause-ended : goal.returns-in-Some-Deletion-clause-ended
returns-in-Some-Deletion-clause-ended c =
    let trace = c.dropped_deletion_trace.result in
    subst (λ (o : Option BegunBody). IfSome (begun_seen o) (λ b. EndsBody b trace.outcome c.args.notes.now c.args.notes.now)) (sym c.in-Some-Deletion.is)
    (subst (λ (b : BegunBody). EndsBody (body_seen b) trace.outcome c.args.notes.now c.args.notes.now) (sym c.in-Some-Deletion.field-0-is) (deletion_ends c.args.number _ trace c.args.notes.now c.dropped_deletion_trace.ensures))
