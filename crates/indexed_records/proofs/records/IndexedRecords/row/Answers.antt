use Rattle.std.proofs.Common.{◌∙◌, ap}
use Rattle.std.specs.Prelude.{slice_get}
use Rattle.store_contents.specs.Reading.{members_in}
use Rattle.store_contents.proofs.Laws.{shown_is_members}
use Rattle.indexed_records.proofs.records.IndexedRecords.row.Goals as goal

pub returns : goal.returns
returns g c =
    c.shown_at.ensures ∙ ap (λ ms. slice_get ms c.args.place) (shown_is_members _ _ _ _ c.args.over c.self.invariant)
    ∙ ap (λ v. slice_get (members_in v.info.indexes v.records c.args.over) c.args.place) c.self.view_is
