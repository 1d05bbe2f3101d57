use Rattle.key_order.proofs.TotalOrder.{key_cmp_total, key_cmp_same}
use Rattle.key_order.proofs.TextOrder.{bytes_differ}
use Rattle.key_order.proofs.key_order_laws.Goals as goal

pub returns-clause-total : goal.returns-clause-total
returns-clause-total c = key_cmp_total

pub returns-clause-same : goal.returns-clause-same
returns-clause-same c = key_cmp_same

pub returns-clause-bytes_differ : goal.returns-clause-bytes_differ
returns-clause-bytes_differ c = bytes_differ
