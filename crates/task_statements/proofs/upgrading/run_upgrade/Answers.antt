use Rattle.request_lists.specs.Placing.{Stays}
use Rattle.task_statements.proofs.Acted.{in_ok}
use Rattle.task_statements.proofs.Upgrades.{ran_block, ran_none}
use Rattle.task_statements.proofs.upgrading.run_upgrade.Goals as goal

pub returns-in-Some-clause-runs : goal.returns-in-Some-clause-runs
returns-in-Some-clause-runs c = in_ok c.run_body.result (λ how h. ran_block _ _ _ _ _ c.in-Some.block _ how _ _ c.in-Some.is h) c.run_body.ensures.runs

pub returns-in-None-clause-runs : goal.returns-in-None-clause-runs
returns-in-None-clause-runs c = ran_none _ _ _ _ _ _ c.in-None.is

pub returns-in-None-clause-becomes : goal.returns-in-None-clause-becomes
returns-in-None-clause-becomes c = Stays
