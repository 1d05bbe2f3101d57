use Rattle.std.proofs.Common.{arith, ap, ◌+◌}
use Rattle.leaf_blocks.proofs.EndsLemmas.{all_ends, split_keeps}
use Rattle.leaf_blocks.proofs.ends.Ends.split.Goals as goal

pub put-requires-clause-within : goal.put-requires-clause-within
put-requires-clause-within c =
    let w = rw (← c.self.view_is) at c.requires.within in
    omega (arith, all_ends _ _ _ _ _ c.self.invariant, w)

pub put-requires-clause-room : goal.put-requires-clause-room
put-requires-clause-room c =
    let room = rw (← c.self.view_is) at c.requires.room in
    omega (arith, all_ends _ _ _ _ _ c.self.invariant, room, c.self.invariant.room_ends)

pub invariant_of-self : goal.invariant_of-self
invariant_of-self c =
    let w = rw (← c.self.view_is) at c.requires.within in
    let part = rw (← c.self.view_is) at c.requires.part in
    let room = rw (← c.self.view_is) at c.requires.room in
    let start = rw (← c.self.view_is) at c.start.ensures.value in
    split_keeps _ _ _ _ _ _ _ _ _ c.args.at c.args.left _ _ c.self.invariant w c.index.ensures part room (ap (λ k. k + c.args.left) start) c.put-2.ensures.items c.put.ensures.items c.put-2.ensures.capacity c.put.ensures.capacity
