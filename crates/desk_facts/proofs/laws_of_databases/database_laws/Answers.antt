use Rattle.desk_facts.proofs.Databases.{opening_databases}
use Rattle.desk_facts.proofs.Facts.{step_keeps, upgrade_puts, deletion_removes, shows}
use Rattle.desk_facts.proofs.Alone.{alone_in}
use Rattle.desk_facts.proofs.Runs.{stays_in_run}
use Rattle.desk_facts.proofs.laws_of_databases.database_laws.Goals as goal

pub returns-clause-opening : goal.returns-clause-opening
returns-clause-opening c schemas name a = opening_databases schemas a name

pub returns-clause-step : goal.returns-clause-step
returns-clause-step c d t name o h n = step_keeps d t name o h n

pub returns-clause-upgrade : goal.returns-clause-upgrade
returns-clause-upgrade c d client number ended schema name t new o f k h = upgrade_puts d client number ended schema name t new o f k h

pub returns-clause-deletion : goal.returns-clause-deletion
returns-clause-deletion c d client number ended kept name t o f k e h = deletion_removes d client number ended kept name t o f k e h

pub returns-clause-names : goal.returns-clause-names
returns-clause-names c d o = o.queued.apart

pub returns-clause-shown : goal.returns-clause-shown
returns-clause-shown c d who name o u a = shows d who name o u a

pub returns-clause-alone : goal.returns-clause-alone
returns-clause-alone c d number name t o f w = alone_in d number name t o f w

pub returns-clause-stays : goal.returns-clause-stays
returns-clause-stays c r more number name t a h f n = stays_in_run r more number name t a h f n
