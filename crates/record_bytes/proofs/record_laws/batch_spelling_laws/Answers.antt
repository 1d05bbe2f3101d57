use Rattle.value_bytes.proofs.Laws.{no_prefix, one, one_spelling}
use Rattle.record_bytes.proofs.Batches.{batch_grammar, read_if_spelled, spelled_if_read, bytes_by_test}
use Rattle.record_bytes.proofs.record_laws.batch_spelling_laws.Goals as goal

pub returns : goal.returns
returns c = record { no_prefix = no_prefix batch_grammar; one_batch = one batch_grammar; one_spelling = one_spelling batch_grammar; read = read_if_spelled; spelled = λ a rs h e. spelled_if_read a rs (bytes_by_test a h) e }
