use Rattle.std.proofs.Common.{arith, ◌-◌}
use Rattle.sorted_table.proofs.Laws.{one_more, split_from}
use Rattle.leaf_blocks.specs.Leaves.{joined}
use Rattle.leaf_table.proofs.TableLemmas.{got_passed}
use Rattle.leaf_table.proofs.Within.{near_split}
use Rattle.leaf_table.proofs.searching.first_before.Goals as goal

pub first_between-requires-clause-between : goal.first_between-requires-clause-between
first_between-requires-clause-between g c = (near_split (g.C.Cut.passes c.args.cut.now) g.K.Ordered.abbreviated _ (g.met.C.Cut.in_front c.args.cut.now) (g.met.C.Cut.behind c.args.cut.now) _ _ _ c.requires.stays c.requires.near)

pub returns-then-passed-clause-cost : goal.returns-then-passed-clause-cost
returns-then-passed-clause-cost g c =
    one_more _ _ _ _ c.passed.ensures.counted c.first_between-then-passed.ensures.counted (omega (arith, c.first_between-then-passed.ensures.cost, c.count-count.ensures)) (omega (arith, c.count-count.ensures, c.requires.near.ordered, c.requires.near.within, c.if-low-end.false, c.if-end-count.false))

pub returns-else-passed-clause-split : goal.returns-else-passed-clause-split
returns-else-passed-clause-split g c =
    let tested = got_passed (g.C.Cut.passes c.args.cut.now) (joined (joined c.args.pile.now.blocks)) _ _ c.passed.result c.pair_at.ensures c.passed.ensures.value in
    split_from _ _ (c.count-count.result - 1) _ c.requires.stays c.count-count.ensures (omega arith) c.passed.result tested c.if-passed.false
