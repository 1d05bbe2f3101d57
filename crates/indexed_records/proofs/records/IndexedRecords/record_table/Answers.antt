use Rattle.std.proofs.Common.{◌∙◌, ap}
use Rattle.idb_keys.specs.declared.names.Over.TheVariants.{Store}
use Rattle.store_contents.specs.Reading.{members_in}
use Rattle.store_contents.proofs.Laws.{shown_is_members}
use Rattle.indexed_records.proofs.records.IndexedRecords.record_table.Goals as goal

pub returns : goal.returns
returns g c =
    c.records_in_order.ensures ∙ shown_is_members _ _ _ _ Store c.self.invariant
    ∙ ap (λ v. members_in v.info.indexes v.records Store) c.self.view_is
