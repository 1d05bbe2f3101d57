use Rattle.std.proofs.Common.{arith}
use Rattle.std.proofs.lemmas.Result.{err_from_is_err_and}
use Rattle.clone_values.specs.View.{tree_of}
use Rattle.value_bytes.proofs.Grammars.{stood, refused}
use Rattle.value_bytes.proofs.Values.{value_grammar}
use Rattle.value_bytes.proofs.reading.read_value.Goals as goal

pub returns-in_err-value-clause-refused : goal.returns-in_err-value-clause-refused
returns-in_err-value-clause-refused c =
    let p = err_from_is_err_and c.from_residual.result c.from_residual.ensures.1 in
    rw (p.1, p.2) (λ same. refused value_grammar c.args.bytes.now c.split_at.result.1.now c.args.from c.in_err-value.field-0.0 c.split_at.ensures.back c.in_err-value.ensures (cc))

pub overflow_sub-result : goal.overflow_sub-result
overflow_sub-result c = (stood value_grammar c.args.bytes.now c.split_at.result.1.now c.args.from (tree_of c.in_ok-value.value) c.value_from.new.rest.now c.split_at.ensures.back c.if-from-bytes.false (λ i. omega (arith, c.type_inv.bytes i)) c.in_ok-value.ensures).shorter

pub returns-clause-found : goal.returns-clause-found
returns-clause-found c = (stood value_grammar c.args.bytes.now c.split_at.result.1.now c.args.from (tree_of c.in_ok-value.value) c.value_from.new.rest.now c.split_at.ensures.back c.if-from-bytes.false (λ i. omega (arith, c.type_inv.bytes i)) c.in_ok-value.ensures).there
