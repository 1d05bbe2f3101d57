use Rattle.std.proofs.Common.{refl, arith}
use Rattle.value_trees.proofs.Laws.{all_bytes}
use Rattle.clone_values.proofs.checking.is_byte_string.Goals as goal

pub returns : goal.returns
returns c = rw (all_bytes c.args.bytes.now (λ i. omega (arith, c.type_inv.bytes i))) refl
