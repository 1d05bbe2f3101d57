use Rattle.std.proofs.Common.{arith, ◌∙◌, reverse}
use Rattle.leaf_blocks.proofs.LeavesLemmas.{halves}
use Rattle.leaf_blocks.proofs.leaf.move_half.Goals as goal

pub returns-clause-lower : goal.returns-clause-lower
returns-clause-lower g c = (halves _ _ _ c.loop-lower.invariant.all (omega arith)).0

pub returns-clause-upper : goal.returns-clause-upper
returns-clause-upper g c = c.reverse.ensures.items ∙ (halves c.loop-lower.lower.items (reverse c.loop-lower.upper.items) _ c.loop-lower.invariant.all (omega arith)).1
