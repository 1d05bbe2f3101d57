use Rattle.std.proofs.Common.{subst}
use Rattle.idb_desk.specs.Steps.{IsDeskRun}
use Rattle.office_scenes.proofs.Laws.{driven_task, task_less, held_behind}
use Rattle.office_moves.proofs.Served.{task_or_still}
use Rattle.office_moves.proofs.Turning.{whether_so}
use Rattle.office_moves.proofs.serving.run_task.Goals as goal

pub returns-clause-keeps : goal.returns-clause-keeps
returns-clause-keeps c = task_or_still (driven_task c.step_laws.ensures.task c.fitting_laws.ensures.task c.showing_laws.ensures.task) c.args.office.now c.run_task.new.self c.args.notes.now c.run_task.new.notes c.in_ok-ran.ran c.in_ok-ran.ensures.ran
    (subst IsDeskRun c.desk.ensures c.is_run.ensures)

pub returns-clause-holds : goal.returns-clause-holds
returns-clause-holds c = λ number h. held_behind c.telling_laws.ensures.held_tasks number c.args.office.now c.run_task.new.self c.args.notes.now c.run_task.new.notes c.in_ok-ran.ran c.in_ok-ran.ensures.ran h

pub returns-clause-less : goal.returns-clause-less
returns-clause-less c = λ e. task_less c.args.office.now c.run_task.new.self c.args.notes.now c.run_task.new.notes (whether_so c.in_ok-ran.ran _ _ e c.in_ok-ran.ensures.ran)
