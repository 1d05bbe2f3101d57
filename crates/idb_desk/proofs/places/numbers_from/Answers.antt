use Rattle.std.proofs.Common.{ℕ, List, ◌++◌, ◌+◌, ◌-◌, ap, ◌∙◌}
use Rattle.desk_steps.specs.Numbers.{numbers_from}
use Rattle.idb_desk.proofs.Counting.{numbers_next}
use Rattle.idb_desk.proofs.places.numbers_from.Goals as goal

pub loop-k-preserved : goal.loop-k-preserved
loop-k-preserved c = ap (λ (ns : List ℕ). ns ++ numbers_from (c.args.count - (c.loop-k.k + 1)) (c.args.first + (c.loop-k.k + 1))) c.in_ok-push.ensures.items ∙ (numbers_next c.args.count c.loop-k.k c.args.first c.loop-k.items.items c.loop-k-test.true ∙ c.loop-k.invariant)
