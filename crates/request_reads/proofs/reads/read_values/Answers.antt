use Rattle.std.proofs.Common.{sym}
use Rattle.query_ranges.specs.Queries.{range_of_query}
use Rattle.request_reads.proofs.Formed.{few_values}
use Rattle.request_reads.proofs.reads.read_values.Goals as goal

pub returns-in-true-clause-formed : goal.returns-in-true-clause-formed
returns-in-true-clause-formed g c = few_values c.args.store.now.store c.info-sound.ensures.sound c.args.over (range_of_query c.args.query.now) c.limit_said.result _ c.in_ok-value.ensures (sym c.in-true.ensures)
