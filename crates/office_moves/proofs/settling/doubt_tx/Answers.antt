use Rattle.std.proofs.Common.{◌∙◌, subst}
use Rattle.idb_desk.specs.Steps.{IsDeskRun}
use Rattle.office_scenes.proofs.Laws.{driven_doubt}
use Rattle.office_moves.proofs.Turning.{whether_so}
use Rattle.office_moves.proofs.AtEnd.{calm_at, fault_allowed, doubt_allowed, doubt_goes}
use Rattle.office_moves.proofs.settling.doubt_tx.Goals as goal

pub unreachable-requires : goal.unreachable-requires
unreachable-requires c =
    let calm = calm_at c.under_way_laws.ensures.faulted c.requires.at.0 c.args.office.now c.args.notes.now c.requires.at.1.1 in
    let can = c.fault.ensures.one ∙ fault_allowed c.args.office.now calm in
    cc

pub unreachable-requires-then-not-finished : goal.unreachable-requires-then-not-finished
unreachable-requires-then-not-finished c =
    let can = c.in_ok-finished.ensures.one ∙ doubt_allowed (record { in_step = c.under_way_laws.ensures.faults; fits = c.fitting_laws.ensures.faults; shown = c.showing_laws.ensures.faults }) c.telling_laws.ensures.aborted c.requires.at.0 c.args.office.now c.fault.new.self c.args.notes.now c.args.number (c.fault.ensures.faulted c.if-not-fault.false) (subst IsDeskRun c.desk.ensures c.is_run.ensures) c.requires.at.1.1 c.requires.holds c.requires.idle in
    cc

pub returns : goal.returns
returns c = doubt_goes (driven_doubt c.step_laws.ensures.doubt c.fitting_laws.ensures.finish c.showing_laws.ensures.finish (record { in_step = c.under_way_laws.ensures.faults; fits = c.fitting_laws.ensures.faults; shown = c.showing_laws.ensures.faults }) c.step_laws.ensures.undone) (record { in_step = c.under_way_laws.ensures.faults; fits = c.fitting_laws.ensures.faults; shown = c.showing_laws.ensures.faults }) c.under_way_laws.ensures.durable c.under_way_laws.ensures.durable_faulted
    c.args.number c.args.office.now c.fault.new.self c.finish.new.self c.args.notes.now c.finish.new.notes (c.fault.ensures.faulted c.if-not-fault.false)
    (whether_so c.in_ok-finished.finished _ _ c.if-not-finished.false c.in_ok-finished.ensures.finished) (subst IsDeskRun c.desk-2.ensures c.is_run-2.ensures)
