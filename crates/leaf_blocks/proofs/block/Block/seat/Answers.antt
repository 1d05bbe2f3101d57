use Rattle.std.proofs.Common.{arith, ap, ◌∙◌, ◌+◌}
use Rattle.leaf_blocks.proofs.BlockLemmas.{block_sum, block_before, block_size}
use Rattle.leaf_blocks.proofs.block.Block.seat.Goals as goal

pub seat-requires-clause-within : goal.seat-requires-clause-within
seat-requires-clause-within g c =
    let w = rw (← c.self.view_is) at c.requires.within in
    omega (arith, w, block_sum _ _ _ c.self.invariant)

pub returns-clause-place : goal.returns-clause-place
returns-clause-place g c = rw (← c.self.view_is) (c.seat.ensures.place ∙ ap (λ n. n + c.seat.result.rest) (block_before _ _ _ c.self.invariant c.seat.result.at))

pub returns-clause-inner : goal.returns-clause-inner
returns-clause-inner g c = rw (← c.self.view_is) (λ h. omega (arith, h, c.seat.ensures.inner, block_sum _ _ _ c.self.invariant, block_size _ _ _ c.self.invariant c.seat.result.at))
