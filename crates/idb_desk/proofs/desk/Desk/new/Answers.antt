use Rattle.std.proofs.Common.{◌∙◌, false, rules}
use Rattle.desk_steps.proofs.Laws.{none_relaxed, starts}
use Rattle.idb_desk.proofs.desk.Desk.new.Goals as goal

pub invariant_of-result : goal.invariant_of-result
invariant_of-result c =
    let s = starts c.args.schemas c.of-opening.result.value c.reserve.new.self.items _ c.of-opening.ensures (c.reserve.ensures.items ∙ c.new-order.ensures.items) (λ i. record { queues = c.in_ok-queues.ensures i; board = record { scopes = c.new-3.ensures i; places = c.in_ok-places.ensures i; drawn = c.new-4.ensures.items i; clients = c.new-5.ensures.items i; is_faulted = false } }) in
    (s.0, s.1, s.2, search (rules), none_relaxed _ _ c.new-2.ensures.empty (c.reserve.ensures.items ∙ c.new-order.ensures.items))
