use Rattle.std.proofs.Common.{refl}
use Rattle.clone_values.proofs.Laws.{stands_from_got}
use Rattle.index_tables.specs.View.{row_of}
use Rattle.index_tables.proofs.rows.row_at.Goals as goal

pub returns-clause-stands : goal.returns-clause-stands
returns-clause-stands c = stands_from_got row_of _ _ _ _ _ refl refl c.get.ensures.lookup.3 c.get.ensures.lookup.1
