use Rattle.index_tables.proofs.TableRows.{set_of_none}
use Rattle.index_tables.proofs.index.IndexTable.new.Goals as goal

pub returns-clause-rows : goal.returns-clause-rows
returns-clause-rows g c = set_of_none _ c.rows.ensures.empty
