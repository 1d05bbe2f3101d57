use Rattle.std.proofs.Common.{suc, arith}
use Rattle.leaf_blocks.proofs.EndsLemmas.{raise_keeps, end_is, sum_part, all_ends}
use Rattle.leaf_blocks.proofs.ends.Ends.raise.Goals as goal

pub raise_from-requires : goal.raise_from-requires
raise_from-requires c =
    let small = rw (← c.self.view_is) at c.requires.small in
    λ i h. omega (arith, small, sum_part c.self.inside.sizes.items (suc i), end_is _ _ _ _ _ i c.self.invariant (omega (arith, h, all_ends _ _ _ _ _ c.self.invariant)))

pub invariant_of-self : goal.invariant_of-self
invariant_of-self c =
    let w = rw (← c.self.view_is) at c.requires.within in
    let small = rw (← c.self.view_is) at c.requires.small in
    raise_keeps _ _ _ _ _ _ _ _ _ _ c.self.invariant w c.index_mut.ensures.value c.raise_from.ensures.len c.raise_from.ensures.capacity c.raise_from.ensures.below small c.raise_from.ensures.raised
