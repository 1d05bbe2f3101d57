use Rattle.std.proofs.Common.{◌≡◌, ◌+◌, ◌<◌, length, arith, length-append, sym, ap, ◌∙◌}
use Rattle.std.proofs.lemmas.List.{take_all}
use Rattle.leaf_blocks.proofs.BlockLemmas.{moved, moved_items, moved_all}
use Rattle.std.proofs.lemmas.List.Edits.{length-remove}
use Rattle.leaf_blocks.proofs.block.halve.Goals as goal

pub loop-lower-smaller : goal.loop-lower-smaller
loop-lower-smaller g c =
    let w : 64 < length c.loop-lower.lower = omega (arith, c.loop-lower-test.true, c.len.ensures.value) in
    omega (arith, length-remove c.loop-lower.lower 64 w, ap length c.pull-leaf.ensures.left)

pub loop-lower-preserved : goal.loop-lower-preserved
loop-lower-preserved g c =
    let w : 64 < length c.loop-lower.lower = omega (arith, c.loop-lower-test.true, c.len.ensures.value) in
    let both = moved _ _ _ _ _ w c.pull-leaf.ensures.taken c.pull-leaf.ensures.left c.push.ensures in
    let less : length c.pull-leaf.new.self + 1 ≡ length c.loop-lower.lower = ap (λ ls. length ls + 1) c.pull-leaf.ensures.left ∙ length-remove c.loop-lower.lower 64 w in
    let more : length c.push.new.self ≡ length c.loop-lower.upper + 1 = ap length c.push.ensures ∙ length-append c.loop-lower.upper _ in
    record {
      front = both.0 ∙ c.loop-lower.invariant.front;
      all = both.1 ∙ c.loop-lower.invariant.all;
      both = omega (arith, less, more, c.loop-lower.invariant.both);
      least = omega (arith, less, w);
      small = omega (arith, moved_items _ _ _ _ _ w c.pull-leaf.ensures.taken c.pull-leaf.ensures.left c.push.ensures, c.loop-lower.invariant.small);
    }

pub returns-clause-lower : goal.returns-clause-lower
returns-clause-lower g c = sym (take_all 64 c.loop-lower.lower (omega (arith, c.loop-lower-test.false, c.len.ensures.value))) ∙ c.loop-lower.invariant.front

pub returns-clause-upper : goal.returns-clause-upper
returns-clause-upper g c = sym (moved_all c.loop-lower.lower c.loop-lower.upper (omega (arith, c.loop-lower-test.false, c.len.ensures.value))) ∙ c.loop-lower.invariant.all
