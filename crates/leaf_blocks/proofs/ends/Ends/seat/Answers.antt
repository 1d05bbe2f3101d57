use Rattle.std.proofs.Common.{arith}
use Rattle.leaf_blocks.proofs.EndsLemmas.{all_ends, seat_at, seat_start, seat_rest, seat_inner}
use Rattle.leaf_blocks.proofs.ends.Ends.seat.Goals as goal

pub end_behind-at-requires : goal.end_behind-at-requires
end_behind-at-requires c =
    let some = rw (← c.self.view_is) at c.requires.some in
    omega (arith, some, all_ends _ _ _ _ _ c.self.invariant, c.as_slice.ensures)

pub start-requires : goal.start-requires
start-requires c =
    let within = rw (← c.self.view_is) at c.requires.within in
    rw (← c.self.view_is) (omega (arith, seat_at _ _ _ _ _ c.end_behind-at.result c.args.place c.self.invariant (rw c.as_slice.ensures.value at c.end_behind-at.ensures.within) (rw c.as_slice.ensures.value at c.end_behind-at.ensures.before) (rw c.as_slice.ensures.value at c.end_behind-at.ensures.behind) within))

pub overflow_sub-result : goal.overflow_sub-result
overflow_sub-result c =
    let within = rw (← c.self.view_is) at c.requires.within in
    let start = rw (← c.self.view_is) at c.start.ensures.value in
    omega (arith, start, seat_start _ _ _ _ _ c.end_behind-at.result c.args.place c.self.invariant (rw c.as_slice.ensures.value at c.end_behind-at.ensures.within) (rw c.as_slice.ensures.value at c.end_behind-at.ensures.before) (rw c.as_slice.ensures.value at c.end_behind-at.ensures.behind) within)

pub returns-clause-at : goal.returns-clause-at
returns-clause-at c =
    let within = rw (← c.self.view_is) at c.requires.within in
    rw (← c.self.view_is) (seat_at _ _ _ _ _ c.end_behind-at.result c.args.place c.self.invariant (rw c.as_slice.ensures.value at c.end_behind-at.ensures.within) (rw c.as_slice.ensures.value at c.end_behind-at.ensures.before) (rw c.as_slice.ensures.value at c.end_behind-at.ensures.behind) within)

pub returns-clause-place : goal.returns-clause-place
returns-clause-place c =
    let within = rw (← c.self.view_is) at c.requires.within in
    let start = rw (← c.self.view_is) at c.start.ensures.value in
    rw (← c.self.view_is) (omega (arith, start, seat_start _ _ _ _ _ c.end_behind-at.result c.args.place c.self.invariant (rw c.as_slice.ensures.value at c.end_behind-at.ensures.within) (rw c.as_slice.ensures.value at c.end_behind-at.ensures.before) (rw c.as_slice.ensures.value at c.end_behind-at.ensures.behind) within))

pub returns-clause-rest : goal.returns-clause-rest
returns-clause-rest c =
    let within = rw (← c.self.view_is) at c.requires.within in
    let start = rw (← c.self.view_is) at c.start.ensures.value in
    rw (← c.self.view_is) (omega (arith, start, seat_rest _ _ _ _ _ c.end_behind-at.result c.args.place c.self.invariant (rw c.as_slice.ensures.value at c.end_behind-at.ensures.within) (rw c.as_slice.ensures.value at c.end_behind-at.ensures.before) (rw c.as_slice.ensures.value at c.end_behind-at.ensures.behind) within))

pub returns-clause-inner : goal.returns-clause-inner
returns-clause-inner c =
    let within = rw (← c.self.view_is) at c.requires.within in
    let start = rw (← c.self.view_is) at c.start.ensures.value in
    rw (← c.self.view_is) (λ l. omega (arith, start, seat_inner _ _ _ _ _ c.end_behind-at.result c.args.place c.self.invariant (rw c.as_slice.ensures.value at c.end_behind-at.ensures.within) (rw c.as_slice.ensures.value at c.end_behind-at.ensures.before) (rw c.as_slice.ensures.value at c.end_behind-at.ensures.behind) within l))
