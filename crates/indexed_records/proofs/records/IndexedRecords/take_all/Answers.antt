use Rattle.std.proofs.Common.{◌∙◌, map, ap, arith}
use Rattle.store_contents.specs.Contents.{row_sets}
use Rattle.store_contents.specs.View.{records_of}
use Rattle.store_contents.proofs.Laws.{of_none, nothing_in_step, filled_in_step, filled_count, room_of, sets_of}
use Rattle.indexed_records.proofs.records.IndexedRecords.take_all.Goals as goal

pub invariant_of-result : goal.invariant_of-result
invariant_of-result g c =
    rw (c.replace-2.ensures.value, c.replace-3.ensures.value) (room_of _ _ _ _ (filled_in_step _ _ _ _ _ _ (omega arith) c.self.invariant c.in_ok-complete-2.ensures.ok))

pub invariant_of-self-2 : goal.invariant_of-self-2
invariant_of-self-2 g c =
    rw (c.replace.ensures.after, c.replace-2.ensures.after, c.replace-3.ensures.after)
    (filled_in_step _ _ _ _ _ 0 (omega arith) (nothing_in_step _ _ _ c.new-tables.ensures.items (of_none _ c.records-2.ensures.empty)) c.in_ok-complete.ensures.ok)

pub returns-clause-records : goal.returns-clause-records
returns-clause-records g c = ap (λ r. records_of (g.T.Records.OrderedTable.entries r)) c.replace.ensures.after ∙ of_none _ c.records-2.ensures.empty

pub returns-clause-rows : goal.returns-clause-rows
returns-clause-rows g c =
    ap (λ v. map (λ t. t.rows) v.items) c.replace-2.ensures.value
    ∙ sets_of _ _ _ _ (filled_in_step _ _ _ _ _ _ (omega arith) c.self.invariant c.in_ok-complete-2.ensures.ok) (filled_count _ _ _ c.in_ok-complete-2.ensures.ok)
    ∙ ap (λ v. row_sets v.info.indexes v.records) c.self.view_is
