-- The order of connections.
--     by_id_order           the client decides first, and then the number of the request
use Rattle.std.specs.Prelude.{ℕ}
use Rattle.std.specs.declared.cmp.Ordering.{Ordering}
use Rattle.std.specs.Ordering.{nat_cmp, ordering_then}
use Rattle.std.specs.Cmp.{IsTotalOrder, nat_cmp_total}
use Rattle.std.specs.FinMap.{IsAntisymmetric}
use Rattle.std.proofs.Common.{ap}
use Rattle.std.proofs.lemmas.Cmp.{on_total, then_total}
use Rattle.std.proofs.lemmas.Map.Lookups.{exact_pairs, exact_unsigned}
use Rattle.name_queues.specs.declared.ids.ConnId.{ConnId}

-- how one connection stands to another
abbrev pub by_id_order : ConnId → ConnId → Ordering
by_id_order a b = ordering_then (nat_cmp a.client b.client) (nat_cmp a.request b.request)

pub by_id_order_total : IsTotalOrder by_id_order
by_id_order_total = then_total (on_total (λ a. a.client) nat_cmp_total) (on_total (λ a. a.request) nat_cmp_total)

pub by_id_order_same : IsAntisymmetric by_id_order
by_id_order_same a b h = ap (λ (p : ℕ × ℕ). record { client = p.0; request = p.1 }) (exact_pairs nat_cmp nat_cmp exact_unsigned exact_unsigned (a.client, a.request) (b.client, b.request) h)
