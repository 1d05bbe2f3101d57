use Rattle.value_bytes.proofs.Grammars.{told_apart, no_prefix, one, one_spelling}
use Rattle.value_bytes.proofs.KeyValues.{key_grammar}
use Rattle.value_bytes.proofs.spelling_laws.key_spelling_laws.Goals as goal

pub returns : goal.returns
returns c = record { no_prefix = no_prefix key_grammar; one_key = one key_grammar; one_spelling = one_spelling key_grammar; told_apart = told_apart key_grammar }
