use Rattle.std.proofs.Common.{subst}
use Rattle.idb_desk.specs.Steps.{IsDeskRun}
use Rattle.office_scenes.proofs.Laws.{driven_start}
use Rattle.office_moves.proofs.Turning.{start_goes, start_holds, start_dropped}
use Rattle.office_moves.proofs.running.start_tx.Goals as goal

pub returns-clause-started : goal.returns-clause-started
returns-clause-started c = start_goes (driven_start c.step_laws.ensures.start c.fitting_laws.ensures.start c.showing_laws.ensures.start) c.args.number c.args.office.now c.start-body.new.self c.start-body.result c.start-body.ensures.started
    (subst IsDeskRun c.desk.ensures c.is_run.ensures) c.requires.due.least

pub returns-clause-holds : goal.returns-clause-holds
returns-clause-holds c = start_holds c.telling_laws.ensures.held_started c.args.number c.args.office.now c.start-body.new.self c.start-body.result c.start-body.ensures.started

pub returns-clause-aborted : goal.returns-clause-aborted
returns-clause-aborted c = start_dropped c.args.number c.args.office.now c.start-body.result c.requires.due c.requires.calm c.start-body.ensures.refused
