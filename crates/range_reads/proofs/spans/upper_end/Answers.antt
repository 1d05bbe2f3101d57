use Rattle.std.proofs.Common.{subst}
use Rattle.indexed_records.specs.Reading.{members_in}
use Rattle.range_reads.specs.PastLast.{IsPastLast}
use Rattle.range_reads.proofs.Splitting.{turned}
use Rattle.range_reads.proofs.spans.upper_end.Goals as goal

pub returns-in-Some : goal.returns-in-Some
returns-in-Some g c = subst (λ upper. IsPastLast upper (members_in c.args.records.now.info.indexes c.args.records.now.records c.args.over) c.first_from.result) c.in-Some.ensures.bound
    (turned _ c.in-Some.is_open _ _ c.first_from.ensures)
