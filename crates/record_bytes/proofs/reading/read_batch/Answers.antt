use Rattle.std.proofs.Common.{arith}
use Rattle.record_bytes.proofs.Batches.{found_if_given, refused_if_given}
use Rattle.record_bytes.proofs.reading.read_batch.Goals as goal

pub returns-clause-found : goal.returns-clause-found
returns-clause-found c = found_if_given c.batch_from.result c.args.bytes.now (λ i. omega (arith, c.type_inv.bytes i)) c.batch_from.ensures

pub returns-clause-refused : goal.returns-clause-refused
returns-clause-refused c = refused_if_given c.batch_from.result c.args.bytes.now c.batch_from.ensures
