use Rattle.value_bytes.proofs.Laws.{told_apart, no_prefix, one, one_spelling}
use Rattle.record_bytes.proofs.Batches.{record_grammar}
use Rattle.record_bytes.proofs.record_laws.record_spelling_laws.Goals as goal

pub returns : goal.returns
returns c = record { no_prefix = no_prefix record_grammar; one_record = one record_grammar; one_spelling = one_spelling record_grammar; told_apart = told_apart record_grammar }
