use Rattle.std.proofs.Common.{◌∙◌, sym, ap}
use Rattle.indexed_records.specs.Reading.{members_in, selected, asked}
use Rattle.range_reads.proofs.Splitting.{all_selected}
use Rattle.range_reads.proofs.spans.span.Goals as goal

pub returns-in-None-clause-selected : goal.returns-in-None-clause-selected
returns-in-None-clause-selected g c =
    all_selected _ _ c.row_count.ensures
    ∙ ap (λ range. selected (asked range) (members_in c.args.records.now.info.indexes c.args.records.now.records c.args.over)) (sym c.in-None.is)
