use Rattle.std.proofs.Common.{◌∙◌}
use Rattle.range_reads.proofs.MemberLemmas.{stored_member}
use Rattle.range_reads.proofs.reads.value_at.Goals as goal

pub returns-in-Store : goal.returns-in-Store
returns-in-Store g c = c.stored_at.ensures ∙ stored_member c.args.records.now.info.indexes c.args.records.now.records c.args.over c.args.place c.in-Store.is
