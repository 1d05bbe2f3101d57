use Rattle.std.proofs.Common.{refl}
use Rattle.office_moves.proofs.Turning.{keeps_still, keeps_again}
use Rattle.office_moves.proofs.serving.run_tasks.Goals as goal

pub tasks-init : goal.tasks-init
tasks-init c = record { keeps = keeps_still c.args.office.now c.args.office.now c.args.notes.now c.args.notes.now refl refl; holds = λ number h. h }

pub tasks-preserved : goal.tasks-preserved
tasks-preserved c = record {
  keeps = keeps_again c.args.office.now c.tasks.office c.run_task.new.office c.args.notes.now c.tasks.notes c.run_task.new.notes c.tasks.invariant.keeps c.in_ok-ran.ensures.keeps;
  holds = λ number h. c.in_ok-ran.ensures.holds number (c.tasks.invariant.holds number h);
}

pub returns-then-not-ran-clause-keeps : goal.returns-then-not-ran-clause-keeps
returns-then-not-ran-clause-keeps c = keeps_again c.args.office.now c.tasks.office c.run_task.new.office c.args.notes.now c.tasks.notes c.run_task.new.notes c.tasks.invariant.keeps c.in_ok-ran.ensures.keeps
