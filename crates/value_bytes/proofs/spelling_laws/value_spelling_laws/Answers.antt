use Rattle.value_bytes.proofs.Grammars.{told_apart, no_prefix, one, one_spelling}
use Rattle.value_bytes.proofs.Values.{value_grammar}
use Rattle.value_bytes.proofs.spelling_laws.value_spelling_laws.Goals as goal

pub returns : goal.returns
returns c = record { no_prefix = no_prefix value_grammar; one_value = one value_grammar; one_spelling = one_spelling value_grammar; told_apart = told_apart value_grammar }
