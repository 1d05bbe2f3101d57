use Rattle.store_contents.proofs.Laws.{copied_in_step}
use Rattle.indexed_records.proofs.records.IndexedRecords.copy.Goals as goal

pub invariant_of-result : goal.invariant_of-result
invariant_of-result g c = rw (c.in_ok-info.ensures, c.in_ok-records.ensures) (copied_in_step _ _ _ _ _ c.in_ok-tables.ensures c.self.invariant)
