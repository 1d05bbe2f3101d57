use Rattle.store_contents.proofs.Laws.{of_none, nothing_in_step}
use Rattle.indexed_records.proofs.records.IndexedRecords.new.Goals as goal

pub invariant_of-result : goal.invariant_of-result
invariant_of-result g c = nothing_in_step _ _ _ c.new.ensures.items (of_none _ c.records.ensures.empty)

pub returns-clause-records : goal.returns-clause-records
returns-clause-records g c = of_none _ c.records.ensures.empty
