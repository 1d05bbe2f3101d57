use Rattle.std.proofs.Common.{◌+◌, ◌-◌, ◌/◌, arith}
use Rattle.sorted_table.proofs.Laws.{split_below, split_above, taken}
use Rattle.leaf_blocks.specs.Leaves.{joined}
use Rattle.leaf_table.proofs.TableLemmas.{got_passed}
use Rattle.leaf_table.proofs.searching.first_between.Goals as goal

pub loop-from-preserved-then-passed : goal.loop-from-preserved-then-passed
loop-from-preserved-then-passed g c =
    let fewer = taken _ c.loop-from.steps _ _ _ (c.loop-from.from + (c.loop-from.to - c.loop-from.from) / 2 - c.loop-from.from) c.loop-from.invariant.counted c.passed.ensures.counted c.loop-from.invariant.parts (omega (arith, c.loop-from-test.true)) (omega arith) in
    let tested = got_passed (g.C.Cut.passes c.args.cut.now) (joined (joined c.args.pile.now.blocks)) _ _ c.passed.result c.pair_at.ensures c.passed.ensures.value in
    record {
      split = split_below _ _ c.loop-from.from _ c.loop-from.to c.requires.stays c.loop-from.invariant.split (omega arith) (omega (arith, c.loop-from-test.true)) c.passed.result tested c.if-passed.true;
      within = omega (arith, c.loop-from.invariant.within, c.loop-from-test.true);
      counted = omega (arith, c.passed.ensures.counted, c.loop-from.invariant.counted);
      parts = fewer.0;
      cost = fewer.1;
    }

pub loop-from-preserved : goal.loop-from-preserved
loop-from-preserved g c =
    let fewer = taken _ c.loop-from.steps _ _ _ (c.loop-from.to - (c.loop-from.from + (c.loop-from.to - c.loop-from.from) / 2 + 1)) c.loop-from.invariant.counted c.passed.ensures.counted c.loop-from.invariant.parts (omega (arith, c.loop-from-test.true)) (omega arith) in
    let tested = got_passed (g.C.Cut.passes c.args.cut.now) (joined (joined c.args.pile.now.blocks)) _ _ c.passed.result c.pair_at.ensures c.passed.ensures.value in
    record {
      split = split_above _ _ c.loop-from.from _ c.loop-from.to c.requires.stays c.loop-from.invariant.split (omega arith) (omega (arith, c.loop-from-test.true)) c.passed.result tested c.if-passed.false;
      within = omega (arith, c.loop-from.invariant.within, c.loop-from-test.true);
      counted = omega (arith, c.passed.ensures.counted, c.loop-from.invariant.counted);
      parts = fewer.0;
      cost = fewer.1;
    }
