use Rattle.std.proofs.Common.{arith}
use Rattle.leaf_blocks.proofs.EndsLemmas.{all_ends, start_is}
use Rattle.leaf_blocks.proofs.ends.Ends.start.Goals as goal

pub index-requires : goal.index-requires
index-requires c =
    let w = rw (← c.self.view_is) at c.requires in
    omega (arith, all_ends _ _ _ _ _ c.self.invariant, w)

pub returns-else-at-eq0-clause-value : goal.returns-else-at-eq0-clause-value
returns-else-at-eq0-clause-value c =
    let w = rw (← c.self.view_is) at c.requires in
    rw (← c.self.view_is) (start_is _ _ _ _ _ _ _ c.self.invariant w (omega arith) c.index.ensures)
