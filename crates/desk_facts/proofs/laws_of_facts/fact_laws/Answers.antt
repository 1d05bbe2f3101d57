use Rattle.desk_facts.proofs.Stepping.{orderly_opening, orderly_step, orderly_run}
use Rattle.desk_facts.proofs.Alone.{sees_upgrade}
use Rattle.desk_facts.proofs.Runs.{own, asked_in_run}
use Rattle.desk_facts.proofs.laws_of_facts.fact_laws.Goals as goal

pub returns-clause-opening : goal.returns-clause-opening
returns-clause-opening c schemas a = orderly_opening schemas a

pub returns-clause-step : goal.returns-clause-step
returns-clause-step c d t o h = orderly_step d t o h

pub returns-clause-run : goal.returns-clause-run
returns-clause-run c r a h = orderly_run r a h

pub returns-clause-own : goal.returns-clause-own
returns-clause-own c d o = own d o

pub returns-clause-asked : goal.returns-clause-asked
returns-clause-asked c r h = asked_in_run r h

pub returns-clause-upgrade_schema : goal.returns-clause-upgrade_schema
returns-clause-upgrade_schema c d number name t new o f k = sees_upgrade d number name t new o f k
