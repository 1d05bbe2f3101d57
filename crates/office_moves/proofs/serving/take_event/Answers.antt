use Rattle.std.proofs.Common.{subst}
use Rattle.idb_desk.specs.Steps.{IsDeskRun}
use Rattle.office_scenes.proofs.Laws.{driven_event, event_less, never_stray}
use Rattle.office_moves.proofs.Served.{event_or_still}
use Rattle.office_moves.proofs.Turning.{whether_so}
use Rattle.office_moves.proofs.serving.take_event.Goals as goal

pub returns-in-Ok-clause-keeps : goal.returns-in-Ok-clause-keeps
returns-in-Ok-clause-keeps c = event_or_still (driven_event c.step_laws.ensures.event c.fitting_laws.ensures.event c.showing_laws.ensures.event) c.args.office.now c.take_event.new.self c.args.notes.now c.take_event.new.notes c.in-Ok.took c.in-Ok.ensures.took
    (subst IsDeskRun c.desk.ensures c.is_run.ensures)

pub returns-in-Ok-clause-less : goal.returns-in-Ok-clause-less
returns-in-Ok-clause-less c = λ e. event_less c.args.office.now c.take_event.new.self c.args.notes.now c.take_event.new.notes (whether_so c.in-Ok.took _ _ e c.in-Ok.ensures.took) c.are_few.ensures

pub unreachable-requires : goal.unreachable-requires
unreachable-requires c = never_stray c.telling_laws.ensures.opens c.telling_laws.ensures.upgrades c.telling_laws.ensures.deletions c.requires.at.0 c.args.office.now c.args.notes.now c.requires.at.1 (c.in-Err-Stray.ensures.stray c.in-Err-Stray.field-0-is)
