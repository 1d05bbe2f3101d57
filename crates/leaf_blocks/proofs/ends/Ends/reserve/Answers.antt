use Rattle.std.proofs.Common.{arith}
use Rattle.leaf_blocks.proofs.EndsLemmas.{room_keeps}
use Rattle.leaf_blocks.proofs.ends.Ends.reserve.Goals as goal

pub invariant_of-self-then-self-wanted : goal.invariant_of-self-then-self-wanted
invariant_of-self-then-self-wanted c =
    let few = rw (← c.self.view_is) at c.requires.few in
    rw (c.grow.ensures.items, c.grow-2.ensures.items) (room_keeps c.self.inside.sizes.items c.self.inside.ends.items c.self.inside.room _ _ c.args.n _ _ _ c.self.invariant (omega arith) few c.grow.ensures.kept c.grow-2.ensures.kept (omega (arith, c.in_ok-grow.ensures.room)) (omega (arith, c.in_ok-grow-2.ensures.room)))
