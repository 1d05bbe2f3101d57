use Rattle.std.proofs.Common.{refl, arith}
use Rattle.value_json.proofs.Documents.{all_bytes}
use Rattle.value_json.proofs.parts.is_byte_string.Goals as goal

pub returns-clause-bytes : goal.returns-clause-bytes
returns-clause-bytes c = rw (all_bytes c.args.bytes.now (λ i. omega (arith, c.type_inv.bytes i))) refl
