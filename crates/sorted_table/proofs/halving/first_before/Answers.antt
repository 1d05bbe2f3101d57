use Rattle.std.proofs.Common.{◌+◌, ◌-◌, ◌/◌, arith}
use Rattle.sorted_table.proofs.Splits.{split_below, split_above, read_passed}
use Rattle.sorted_table.proofs.Costs.{taken}
use Rattle.sorted_table.proofs.halving.first_before.Goals as goal

pub loop-low-preserved-then-passed : goal.loop-low-preserved-then-passed
loop-low-preserved-then-passed g c =
    let fewer = taken _ c.loop-low.steps _ _ _ (c.loop-low.low + (c.loop-low.end - c.loop-low.low) / 2 - c.loop-low.low) c.loop-low.invariant.counted c.passed.ensures.counted c.loop-low.invariant.parts (omega (arith, c.loop-low-test.true)) (omega arith) in
    let tested = read_passed (g.C.Cut.passes c.args.cut.now) c.args.entries.now _ c.index-entries-middle.result c.passed.result (omega (arith, c.loop-low.invariant.split.within, c.loop-low-test.true)) c.passed.ensures.value in
    record {
      split = split_below _ _ c.loop-low.low _ c.loop-low.end c.requires.rises c.loop-low.invariant.split (omega arith) (omega (arith, c.loop-low-test.true)) c.passed.result tested c.if-passed.true;
      within = omega (arith, c.loop-low.invariant.within, c.loop-low-test.true);
      counted = omega (arith, c.passed.ensures.counted, c.loop-low.invariant.counted);
      parts = fewer.0;
      cost = fewer.1;
    }

pub loop-low-preserved : goal.loop-low-preserved
loop-low-preserved g c =
    let fewer = taken _ c.loop-low.steps _ _ _ (c.loop-low.end - (c.loop-low.low + (c.loop-low.end - c.loop-low.low) / 2 + 1)) c.loop-low.invariant.counted c.passed.ensures.counted c.loop-low.invariant.parts (omega (arith, c.loop-low-test.true)) (omega arith) in
    let tested = read_passed (g.C.Cut.passes c.args.cut.now) c.args.entries.now _ c.index-entries-middle.result c.passed.result (omega (arith, c.loop-low.invariant.split.within, c.loop-low-test.true)) c.passed.ensures.value in
    record {
      split = split_above _ _ c.loop-low.low _ c.loop-low.end c.requires.rises c.loop-low.invariant.split (omega arith) (omega (arith, c.loop-low-test.true)) c.passed.result tested c.if-passed.false;
      within = omega (arith, c.loop-low.invariant.within, c.loop-low-test.true);
      counted = omega (arith, c.passed.ensures.counted, c.loop-low.invariant.counted);
      parts = fewer.0;
      cost = fewer.1;
    }
