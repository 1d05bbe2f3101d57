use Rattle.std.proofs.Common.{◌-◌, length, refl, arith}
use Rattle.sorted_table.proofs.Splits.{unsplit, split_below, split_from, read_passed}
use Rattle.sorted_table.proofs.Costs.{one_more}
use Rattle.sorted_table.proofs.halving.first_in.Goals as goal

pub first_before-requires-clause-high : goal.first_before-requires-clause-high
first_before-requires-clause-high g c =
    let tested = read_passed (g.C.Cut.passes c.args.cut.now) c.args.entries.now _ c.index-entries-last.result c.passed.result (omega (arith, c.if-count-eq0.false)) c.passed.ensures.value in
    split_below _ c.args.entries.now 0 _ (length c.args.entries.now) c.requires (unsplit _ _ _ refl) (omega arith) (omega (arith, c.if-count-eq0.false)) c.passed.result tested c.if-passed.true

pub returns-then-passed-clause-cost : goal.returns-then-passed-clause-cost
returns-then-passed-clause-cost g c = one_more _ _ _ _ c.passed.ensures.counted c.first_before.ensures.counted c.first_before.ensures.cost (omega (arith, c.if-count-eq0.false))

pub returns-else-passed-clause-split : goal.returns-else-passed-clause-split
returns-else-passed-clause-split g c =
    let tested = read_passed (g.C.Cut.passes c.args.cut.now) c.args.entries.now _ c.index-entries-last.result c.passed.result (omega (arith, c.if-count-eq0.false)) c.passed.ensures.value in
    split_from _ _ _ _ c.requires refl (omega (arith, c.if-count-eq0.false)) c.passed.result tested c.if-passed.false
