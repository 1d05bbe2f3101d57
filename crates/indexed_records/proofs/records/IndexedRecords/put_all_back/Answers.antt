use Rattle.std.proofs.Common.{◌∙◌, sym, subst}
use Rattle.store_contents.specs.Contents.{row_sets}
use Rattle.store_contents.specs.Matches.{InStep}
use Rattle.store_contents.specs.View.{records_of}
use Rattle.store_contents.proofs.Laws.{out_of_sets}
use Rattle.indexed_records.proofs.records.IndexedRecords.put_all_back.Goals as goal

pub invariant_of-self : goal.invariant_of-self
invariant_of-self g c =
    subst (λ r. InStep c.self.inside.info.indexes c.emptied.inside.tables.items (records_of (g.T.Records.OrderedTable.entries r)) c.emptied.inside.row_spare) (sym c.into_inner.ensures)
    (out_of_sets _ _ _ _ ((λ i. (c.emptied.view_is i).rows) ∙ c.requires ∙ (λ i. row_sets ((sym c.self.view_is i).info.indexes) ((sym c.emptied.view_is i).records))) c.emptied.invariant)
