use Rattle.std.proofs.Common.{arith, ap, ◌+◌}
use Rattle.leaf_blocks.proofs.EndsLemmas.{all_ends, push_keeps}
use Rattle.leaf_blocks.proofs.ends.Ends.push.Goals as goal

pub put-requires-clause-within : goal.put-requires-clause-within
put-requires-clause-within c = omega (arith, all_ends _ _ _ _ _ c.self.invariant)

pub put-requires-clause-room : goal.put-requires-clause-room
put-requires-clause-room c =
    let room = rw (← c.self.view_is) at c.requires.room in
    omega (arith, all_ends _ _ _ _ _ c.self.invariant, room, c.self.invariant.room_ends)

pub invariant_of-self : goal.invariant_of-self
invariant_of-self c =
    let room = rw (← c.self.view_is) at c.requires.room in
    let small = rw (← c.self.view_is) at c.requires.small in
    let all = rw (← c.self.view_is) at c.total.ensures in
    push_keeps _ _ _ _ _ _ _ _ _ c.args.size _ _ c.self.invariant room small (ap (λ k. k + c.args.size) all) (omega arith) c.put-2.ensures.items c.put.ensures.items c.put-2.ensures.capacity c.put.ensures.capacity
