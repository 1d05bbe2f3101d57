use Rattle.idb_cursors.proofs.VisitLaws as laws
use Rattle.idb_cursors.proofs.cursor_laws.visit_laws.Goals as goal

pub returns-clause-next : goal.returns-clause-next
returns-clause-next c = λ rows range rising. laws.visits_next rows rising range

pub returns-clause-prev : goal.returns-clause-prev
returns-clause-prev c = λ rows range rising. laws.visits_prev rows rising range

pub returns-clause-next_unique : goal.returns-clause-next_unique
returns-clause-next_unique c = λ rows range rising. laws.visits_next_unique rows rising range

pub returns-clause-prev_unique : goal.returns-clause-prev_unique
returns-clause-prev_unique c = λ rows range rising. laws.visits_prev_unique rows rising range
