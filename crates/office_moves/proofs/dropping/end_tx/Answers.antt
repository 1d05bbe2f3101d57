use Rattle.std.proofs.Common.{None, sym, ap, subst}
use Rattle.idb_desk.specs.Steps.{IsDeskRun, desk_run}
use Rattle.idb_desk.specs.Refusals.{is_allowed}
use Rattle.desk_steps.specs.declared.steps.DeskStep.TheVariants as step
use Rattle.office_scenes.specs.Steps.{FinishesUnstartedInto}
use Rattle.office_scenes.specs.Offices.{OfficeState}
use Rattle.office_scenes.specs.Running.{EndsBody}
use Rattle.office_scenes.proofs.Laws.{driven_cancel, driven_host, allowed_aborted}
use Rattle.office_moves.proofs.Turning.{whether_so}
use Rattle.office_moves.proofs.Unstarted.{body_held, ends_held, never_committed, dropped_goes, turns_behind}
use Rattle.office_moves.proofs.dropping.end_tx.Goals as goal

pub unreachable-requires-then-not-finished : goal.unreachable-requires-then-not-finished
unreachable-requires-then-not-finished c =
    let tx = c.in-Some.tx in
    let outcome = c.in_ok-trace.trace.outcome in
    let ends : EndsBody tx.body outcome c.args.notes.now c.end_body.new.notes = ends_held tx.body _ outcome c.args.notes.now c.end_body.new.notes (body_held tx.started tx.body _ c.in-Some.ensures.waits c.into_parts-kind.ensures.begun) c.in_ok-trace.ensures.ended in
    let allowed = allowed_aborted c.telling_laws.ensures.aborted None c.args.office.now c.args.notes.now c.args.number tx outcome c.requires.at c.in-Some.ensures.found (never_committed tx.body outcome _ _ ends) in
    let taken = ap (λ (o : OfficeState). is_allowed (desk_run o.run) (step.Leaves o.client.number c.args.number outcome None)) c.in-Some.ensures.taken in
    let one = c.in_ok-finished.ensures.one in
    cc

pub returns-clause-leads : goal.returns-clause-leads
returns-clause-leads c =
    let tx = c.in-Some.tx in
    let old = c.args.office.now in
    let outcome = c.in_ok-trace.trace.outcome in
    let ends : EndsBody tx.body outcome c.args.notes.now c.end_body.new.notes = ends_held tx.body _ outcome c.args.notes.now c.end_body.new.notes (body_held tx.started tx.body _ c.in-Some.ensures.waits c.into_parts-kind.ensures.begun) c.in_ok-trace.ensures.ended in
    let finished : FinishesUnstartedInto c.args.number ends.turns outcome old c.args.notes.now c.finish_unstarted.new.self c.finish_unstarted.new.notes =
    subst (λ (o : OfficeState). FinishesUnstartedInto c.args.number ends.turns outcome o c.args.notes.now c.finish_unstarted.new.self c.finish_unstarted.new.notes)
    (ap (λ (o : OfficeState). record o { client = old.client }) c.in-Some.ensures.taken)
    (whether_so c.in_ok-finished.finished _ _ c.if-not-finished.false
    (c.in_ok-finished.ensures.finished old.client tx ends.turns c.args.notes.now c.in-Some.ensures.idle c.in-Some.ensures.found c.in-Some.ensures.waits (sym c.into_parts-kind.ensures.kind)
    (ap (λ (o : OfficeState). o.client) c.in-Some.ensures.taken)
    (turns_behind c.len-from.result c.args.notes.now c.end_body.new.notes ends.turns c.len-from.ensures ends.added) ends.added)) in
    dropped_goes (driven_cancel c.step_laws.ensures.cancel c.fitting_laws.ensures.cancel c.showing_laws.ensures.cancel c.step_laws.ensures.undone)
    (driven_host c.step_laws.ensures.end_by_host c.fitting_laws.ensures.cancel c.showing_laws.ensures.end_by_host c.step_laws.ensures.undone)
    c.under_way_laws.ensures.durable c.telling_laws.ensures.not_begun c.args.number outcome tx old c.finish_unstarted.new.self c.args.notes.now c.end_body.new.notes c.finish_unstarted.new.notes
    c.requires.dropped c.in-Some.ensures.found ends finished (subst IsDeskRun c.desk.ensures c.is_run.ensures)
