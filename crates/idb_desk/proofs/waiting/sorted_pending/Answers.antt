use Rattle.std.proofs.Common.{rules}
use Rattle.std.proofs.lemmas.List.Sorted.{answers_always}
use Rattle.idb_desk.proofs.Pending.{sort_inserts}
use Rattle.idb_desk.proofs.waiting.sorted_pending.Goals as goal

pub returns : goal.returns
returns c =
    sort_inserts c.args.lines.items c.sort_by_key.new.self.items
    (c.in_ok-sort_by_key.ensures.sorted (λ p. (p.client, p.request)) (answers_always _ _ _ (λ f a r g h. search rules)))
    (c.sort_by_key.ensures.stable (λ p. (p.client, p.request)) (answers_always _ _ _ (λ f a r g h. search rules)))
