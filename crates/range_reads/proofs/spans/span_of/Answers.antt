use Rattle.range_reads.proofs.Splitting.{span_selected, no_span}
use Rattle.range_reads.proofs.spans.span_of.Goals as goal

pub returns-then-past-start-clause-selected : goal.returns-then-past-start-clause-selected
returns-then-past-start-clause-selected g c = no_span c.args.range.now _ _ _ c.lower_end-start.ensures c.upper_end-past.ensures c.if-past-start.true

pub returns-else-past-start-clause-selected : goal.returns-else-past-start-clause-selected
returns-else-past-start-clause-selected g c = span_selected c.args.range.now _ _ _ c.lower_end-start.ensures c.upper_end-past.ensures
