use Rattle.std.proofs.Common.{arith}
use Rattle.leaf_blocks.proofs.EndsLemmas.{all_ends, remove_keeps}
use Rattle.leaf_blocks.proofs.ends.Ends.remove.Goals as goal

pub remove-requires-2 : goal.remove-requires-2
remove-requires-2 c =
    let w = rw (← c.self.view_is) at c.requires.within in
    omega (arith, all_ends _ _ _ _ _ c.self.invariant, w)

pub invariant_of-self : goal.invariant_of-self
invariant_of-self c =
    let w = rw (← c.self.view_is) at c.requires.within in
    let none = rw (← c.self.view_is) at c.requires.none in
    remove_keeps _ _ _ _ _ _ _ _ _ _ c.self.invariant w none c.remove.ensures.items c.remove-2.ensures.items (omega arith) (omega arith)
