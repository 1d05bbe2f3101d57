use Rattle.std.proofs.Common.{◌∙◌, sym, ap}
use Rattle.std.specs.Prelude.{slice_get}
use Rattle.store_contents.proofs.Laws.{shown_table, shown_none}
use Rattle.indexed_records.proofs.reading.shown_at.Goals as goal

pub returns-in-Store : goal.returns-in-Store
returns-in-Store g c = rw c.in-Store.is c.record_shown.ensures

pub returns-in-Some : goal.returns-in-Some
returns-in-Some g c = c.row_shown.ensures ∙ sym (ap (λ ms. slice_get ms c.args.place) (shown_table _ c.args.tables.now.items c.args.over _ c.in-Some.table.now c.in-Index.is c.in-Some.ensures))

pub returns-in-None : goal.returns-in-None
returns-in-None g c = sym (ap (λ ms. slice_get ms c.args.place) (shown_none _ c.args.tables.now.items c.args.over _ c.in-Index.is c.in-None.ensures))
