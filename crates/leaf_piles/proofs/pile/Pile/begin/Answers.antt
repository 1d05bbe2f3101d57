use Rattle.std.proofs.Common.{arith, ap, length}
use Rattle.leaf_piles.proofs.PileLemmas.{no_blocks, begin_keeps}
use Rattle.leaf_piles.proofs.pile.Pile.begin.Goals as goal

pub begin-requires-clause-empty : goal.begin-requires-clause-empty
begin-requires-clause-empty g c =
    let none = rw (← c.self.view_is) at c.requires.empty in
    no_blocks _ _ _ _ _ c.self.invariant none

pub begin-requires-clause-kept : goal.begin-requires-clause-kept
begin-requires-clause-kept g c =
    let none = rw (← c.self.view_is) at c.requires.empty in
    let free = rw (← c.self.view_is) at c.requires.free in
    omega (arith, free, ap length (no_blocks _ _ _ _ _ c.self.invariant none), c.self.invariant.rooms)

pub invariant_of-self : goal.invariant_of-self
invariant_of-self g c =
    let none = rw (← c.self.view_is) at c.requires.empty in
    begin_keeps _ _ _ _ _ _ c.self.invariant _ _ _ _ (no_blocks _ _ _ _ _ c.self.invariant none) c.begin.ensures.blocks (omega (arith, ap length c.insert.ensures, ap length c.take_free-leaf.ensures.empty)) c.begin.ensures.kept c.take_free-leaf.ensures.len (omega arith) (omega arith)
