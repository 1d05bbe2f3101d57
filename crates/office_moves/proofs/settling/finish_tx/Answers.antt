use Rattle.std.proofs.Common.{subst, ◌∙◌}
use Rattle.idb_desk.specs.Steps.{IsDeskRun}
use Rattle.office_scenes.proofs.Laws.{driven_finish, finish_can}
use Rattle.office_moves.proofs.Turning.{whether_so}
use Rattle.office_moves.proofs.AtEnd.{end_goes}
use Rattle.office_moves.proofs.settling.finish_tx.Goals as goal

pub unreachable-requires : goal.unreachable-requires
unreachable-requires c = let can = c.in_ok-finished.ensures.one ∙ finish_can c.args.office.now c.args.number c.args.outcome c.args.kept c.requires.idle c.requires.holds c.requires.allowed in cc

pub returns : goal.returns
returns c = end_goes (driven_finish c.step_laws.ensures.finish c.fitting_laws.ensures.finish c.showing_laws.ensures.finish (record { limits = c.limit_laws.ensures.items; one_record = c.resting_laws.ensures.logged; one_commit = c.resting_laws.ensures.one_commit_more; applies = c.applying_laws.ensures.applies; within = c.serial_laws.ensures.within })) c.under_way_laws.ensures.durable c.args.number c.args.outcome c.args.kept c.args.office.now c.finish.new.self c.args.notes.now c.finish.new.notes
    (whether_so c.in_ok-finished.finished _ _ c.if-not-finished.false c.in_ok-finished.ensures.finished) (subst IsDeskRun c.desk.ensures c.is_run.ensures) c.requires.sound
