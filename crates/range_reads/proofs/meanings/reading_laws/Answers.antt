use Rattle.range_reads.proofs.Rising.{members_rise, row_shown_by_key}
use Rattle.range_reads.proofs.meanings.reading_laws.Goals as goal

pub returns-clause-rises : goal.returns-clause-rises
returns-clause-rises c = members_rise

pub returns-clause-shown : goal.returns-clause-shown
returns-clause-shown c = row_shown_by_key
