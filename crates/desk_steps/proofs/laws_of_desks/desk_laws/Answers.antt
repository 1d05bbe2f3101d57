use Rattle.desk_steps.proofs.Runs.{run_snoc, run_start, is_run_snoc, is_run_start}
use Rattle.desk_steps.proofs.Numbered.{run_numbered}
use Rattle.desk_steps.proofs.laws_of_desks.desk_laws.Goals as goal

pub returns-clause-one_more_step : goal.returns-clause-one_more_step
returns-clause-one_more_step c = run_snoc

pub returns-clause-no_step : goal.returns-clause-no_step
returns-clause-no_step c = run_start

pub returns-clause-allowed_step : goal.returns-clause-allowed_step
returns-clause-allowed_step c = is_run_snoc

pub returns-clause-empty_order : goal.returns-clause-empty_order
returns-clause-empty_order c = is_run_start

pub returns-clause-numbers : goal.returns-clause-numbers
returns-clause-numbers c = run_numbered
