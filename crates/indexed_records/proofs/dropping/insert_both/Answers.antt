use Rattle.std.proofs.Common.{◌≡◌, ◌≤◌, refl, subst}
use Rattle.index_tables.specs.Rows.{IndexRows}
use Rattle.store_contents.specs.Taken.{DroppedIndex}
use Rattle.store_contents.specs.Walks.{IsInserted}
use Rattle.indexed_records.proofs.dropping.insert_both.Goals as goal

pub returns-clause-tables : goal.returns-clause-tables
returns-clause-tables g c =
    subst (λ (d : DroppedIndex). (t : IndexRows) × (t.rows ≡ d.rows) × (d.spare ≤ t.spare) × IsInserted d.place t c.args.tables.now.items c.inserted.result.items) c.dropped.view_is (
      c.dropped.inside.table.value,
      refl,
      c.dropped.invariant.4,
      subst (λ (ts : _). IsInserted c.dropped.inside.place c.dropped.inside.table.value ts.items c.inserted.result.items) c.replace-2.ensures.value
          (subst (λ (t : IndexRows). IsInserted c.dropped.inside.place t c.replace-2.result.items c.inserted.result.items) c.into_inner.ensures c.inserted.ensures),
    )
