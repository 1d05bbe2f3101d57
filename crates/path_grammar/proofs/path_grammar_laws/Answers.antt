use Rattle.path_grammar.proofs.Laws.{some_part, few_parts, parts_are_names}
use Rattle.path_grammar.proofs.path_grammar_laws.Goals as goal

pub returns : goal.returns
returns c = record { some = some_part; few = few_parts; names = parts_are_names }
