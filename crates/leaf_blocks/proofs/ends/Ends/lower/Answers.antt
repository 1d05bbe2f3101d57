use Rattle.std.proofs.Common.{arith}
use Rattle.leaf_blocks.proofs.EndsLemmas.{lower_keeps, end_is, sum_at, all_ends}
use Rattle.leaf_blocks.proofs.ends.Ends.lower.Goals as goal

pub lower_from-requires : goal.lower_from-requires
lower_from-requires c =
    let w = rw (← c.self.view_is) at c.requires.within in
    let part = rw (← c.self.view_is) at c.requires.part in
    λ i f h. omega (arith, part, sum_at c.self.inside.sizes.items i c.args.at f, end_is _ _ _ _ _ i c.self.invariant (omega (arith, h, all_ends _ _ _ _ _ c.self.invariant)))

pub invariant_of-self : goal.invariant_of-self
invariant_of-self c =
    let w = rw (← c.self.view_is) at c.requires.within in
    let part = rw (← c.self.view_is) at c.requires.part in
    lower_keeps _ _ _ _ _ _ _ _ _ _ c.self.invariant w c.index_mut.ensures.value c.lower_from.ensures.len c.lower_from.ensures.capacity c.lower_from.ensures.below part c.lower_from.ensures.lowered
