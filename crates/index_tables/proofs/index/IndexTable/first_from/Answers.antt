use Rattle.std.proofs.Common.{ap}
use Rattle.index_tables.specs.Rows.{IndexRows}
use Rattle.index_tables.proofs.Halving.{position_of_split, failed_before, passed_behind}
use Rattle.index_tables.proofs.index.IndexTable.first_from.Goals as goal

pub returns-clause-place : goal.returns-clause-place
returns-clause-place g c = position_of_split _ _ _ (rw (ap (λ (seen : IndexRows). seen.rows) c.self.view_is) at c.first_from.ensures.split)

pub returns-clause-before : goal.returns-clause-before
returns-clause-before g c = failed_before _ _ _ (rw (ap (λ (seen : IndexRows). seen.rows) c.self.view_is) at c.first_from.ensures.split)

pub returns-clause-behind : goal.returns-clause-behind
returns-clause-behind g c = passed_behind _ _ _ (rw (ap (λ (seen : IndexRows). seen.rows) c.self.view_is) at c.first_from.ensures.split)
