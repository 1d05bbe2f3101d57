use Rattle.std.proofs.Common.{◌∙◌, ap, length}
use Rattle.store_contents.specs.Reading.{members_in}
use Rattle.store_contents.proofs.Laws.{shown_is_members}
use Rattle.indexed_records.proofs.records.IndexedRecords.row_count.Goals as goal

pub returns : goal.returns
returns g c =
    c.shown_count.ensures ∙ ap length (shown_is_members _ _ _ _ c.args.over c.self.invariant)
    ∙ ap (λ v. length (members_in v.info.indexes v.records c.args.over)) c.self.view_is
