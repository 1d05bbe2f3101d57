use Rattle.index_tables.proofs.Meeting.{each_meets_none}
use Rattle.index_tables.proofs.searching.first_from.Goals as goal

pub returns-in-None-clause-split : goal.returns-in-None-clause-split
returns-in-None-clause-split g c = rw c.in-None.is (each_meets_none _)
