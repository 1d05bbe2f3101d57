use Rattle.std.proofs.Common.{arith}
use Rattle.std.proofs.lemmas.Result.{err_from_is_err_and}
use Rattle.clone_values.specs.View.{key_tree_of}
use Rattle.value_bytes.proofs.Grammars.{stood, refused}
use Rattle.value_bytes.proofs.KeyValues.{key_grammar}
use Rattle.value_bytes.proofs.key_reading.read_key.Goals as goal

pub returns-in_err-key-clause-refused : goal.returns-in_err-key-clause-refused
returns-in_err-key-clause-refused c =
    let p = err_from_is_err_and c.from_residual.result c.from_residual.ensures.1 in
    rw (p.1, p.2) (λ same. refused key_grammar c.args.bytes.now c.split_at.result.1.now c.args.from c.in_err-key.field-0.0 c.split_at.ensures.back c.in_err-key.ensures (cc))

pub overflow_sub-result : goal.overflow_sub-result
overflow_sub-result c = (stood key_grammar c.args.bytes.now c.split_at.result.1.now c.args.from (key_tree_of c.in_ok-key.key) c.key_from.new.rest.now c.split_at.ensures.back c.if-from-bytes.false (λ i. omega (arith, c.type_inv.bytes i)) c.in_ok-key.ensures).shorter

pub returns-clause-found : goal.returns-clause-found
returns-clause-found c = (stood key_grammar c.args.bytes.now c.split_at.result.1.now c.args.from (key_tree_of c.in_ok-key.key) c.key_from.new.rest.now c.split_at.ensures.back c.if-from-bytes.false (λ i. omega (arith, c.type_inv.bytes i)) c.in_ok-key.ensures).there
