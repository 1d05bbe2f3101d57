use Rattle.std.proofs.Common.{rules}
use Rattle.path_grammar.proofs.PathParts.{few_parts}
use Rattle.path_grammar.proofs.has_few_parts.Goals as goal

pub returns : goal.returns
returns c = few_parts c.args.s.now c.count.result (search rules)
