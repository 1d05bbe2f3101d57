use Rattle.std.proofs.Common.{arith, ◌∙◌, ap, length, slice_get, []}
use Rattle.leaf_blocks.specs.Leaves.{joined}
use Rattle.leaf_blocks.proofs.Laws.{joined_get, rank_below}
use Rattle.leaf_table.proofs.PutLemmas.{put_small}
use Rattle.leaf_table.proofs.TakeLemmas.{taken_fewer, left_out, with_next, with_former, alone}
use Rattle.leaf_table.proofs.editing.take_from.Goals as goal

pub leave_out-requires-clause-small : goal.leave_out-requires-clause-small
leave_out-requires-clause-small g c = omega (arith, ap (λ ls. length (joined ls)) c.take-item.ensures.leaves, taken_fewer (joined c.args.pile.now.blocks) _ _ (rank_below c.args.pile.now.blocks c.seat-seat.result.block c.seat-seat.result.leaf c.seat-seat.ensures.spot.block c.seat-seat.ensures.spot.leaf) (c.seat-seat.ensures.inner c.requires.within), put_small (joined c.args.pile.now.blocks) c.requires.filled c.seat-seat.ensures.few)

pub join-requires-clause-small : goal.join-requires-clause-small
join-requires-clause-small g c = omega (arith, ap (λ ls. length (joined ls)) c.take-item.ensures.leaves, taken_fewer (joined c.args.pile.now.blocks) _ _ (rank_below c.args.pile.now.blocks c.seat-seat.result.block c.seat-seat.result.leaf c.seat-seat.ensures.spot.block c.seat-seat.ensures.spot.leaf) (c.seat-seat.ensures.inner c.requires.within), put_small (joined c.args.pile.now.blocks) c.requires.filled c.seat-seat.ensures.few)

pub join-requires-in-Some-few_before-clause-small : goal.join-requires-in-Some-few_before-clause-small
join-requires-in-Some-few_before-clause-small g c = omega (arith, ap (λ ls. length (joined ls)) c.take-item.ensures.leaves, taken_fewer (joined c.args.pile.now.blocks) _ _ (rank_below c.args.pile.now.blocks c.seat-seat.result.block c.seat-seat.result.leaf c.seat-seat.ensures.spot.block c.seat-seat.ensures.spot.leaf) (c.seat-seat.ensures.inner c.requires.within), put_small (joined c.args.pile.now.blocks) c.requires.filled c.seat-seat.ensures.few)

pub returns-then-size-eq0-clause-taken : goal.returns-then-size-eq0-clause-taken
returns-then-size-eq0-clause-taken g c = ap (slice_get (joined (joined c.args.pile.now.blocks))) c.seat-seat.ensures.place
    ∙ joined_get _ _ _ (rank_below c.args.pile.now.blocks c.seat-seat.result.block c.seat-seat.result.leaf c.seat-seat.ensures.spot.block c.seat-seat.ensures.spot.leaf) (c.seat-seat.ensures.inner c.requires.within) ∙ c.take-item.ensures.taken

pub returns-then-size-eq0-clause-left : goal.returns-then-size-eq0-clause-left
returns-then-size-eq0-clause-left g c = (left_out _ _ _ _ _ _ _ _ _ c.requires.filled (rank_below c.args.pile.now.blocks c.seat-seat.result.block c.seat-seat.result.leaf c.seat-seat.ensures.spot.block c.seat-seat.ensures.spot.leaf) (c.seat-seat.ensures.inner c.requires.within) c.seat-seat.ensures.place c.take-item.ensures.leaves c.take-item.ensures.free (omega (arith, rw c.take-item.ensures.same at c.size.ensures.value, c.if-size-eq0.true)) (rw c.take-item.ensures.same at c.leave_out.ensures.leaves) c.leave_out.ensures.free).left

pub returns-then-size-eq0-clause-filled : goal.returns-then-size-eq0-clause-filled
returns-then-size-eq0-clause-filled g c = (left_out _ _ _ _ _ _ _ _ _ c.requires.filled (rank_below c.args.pile.now.blocks c.seat-seat.result.block c.seat-seat.result.leaf c.seat-seat.ensures.spot.block c.seat-seat.ensures.spot.leaf) (c.seat-seat.ensures.inner c.requires.within) c.seat-seat.ensures.place c.take-item.ensures.leaves c.take-item.ensures.free (omega (arith, rw c.take-item.ensures.same at c.size.ensures.value, c.if-size-eq0.true)) (rw c.take-item.ensures.same at c.leave_out.ensures.leaves) c.leave_out.ensures.free).filled

pub returns-then-size-eq0-clause-spare : goal.returns-then-size-eq0-clause-spare
returns-then-size-eq0-clause-spare g c = (left_out _ _ _ _ _ _ _ _ _ c.requires.filled (rank_below c.args.pile.now.blocks c.seat-seat.result.block c.seat-seat.result.leaf c.seat-seat.ensures.spot.block c.seat-seat.ensures.spot.leaf) (c.seat-seat.ensures.inner c.requires.within) c.seat-seat.ensures.place c.take-item.ensures.leaves c.take-item.ensures.free (omega (arith, rw c.take-item.ensures.same at c.size.ensures.value, c.if-size-eq0.true)) (rw c.take-item.ensures.same at c.leave_out.ensures.leaves) c.leave_out.ensures.free).spare

pub returns-in-Some-clause-taken : goal.returns-in-Some-clause-taken
returns-in-Some-clause-taken g c = ap (slice_get (joined (joined c.args.pile.now.blocks))) c.seat-seat.ensures.place
    ∙ joined_get _ _ _ (rank_below c.args.pile.now.blocks c.seat-seat.result.block c.seat-seat.result.leaf c.seat-seat.ensures.spot.block c.seat-seat.ensures.spot.leaf) (c.seat-seat.ensures.inner c.requires.within) ∙ c.take-item.ensures.taken

pub returns-in-Some-clause-left : goal.returns-in-Some-clause-left
returns-in-Some-clause-left g c = (with_next _ _ _ _ _ _ _ _ _ c.requires.filled (rank_below c.args.pile.now.blocks c.seat-seat.result.block c.seat-seat.result.leaf c.seat-seat.ensures.spot.block c.seat-seat.ensures.spot.leaf) (c.seat-seat.ensures.inner c.requires.within) c.seat-seat.ensures.place c.take-item.ensures.leaves c.take-item.ensures.free (omega (arith, rw c.take-item.ensures.same at c.in-Some.ensures.next, rank_below c.take-item.new.self.blocks c.in-Some.next.block c.in-Some.next.leaf c.in-Some.ensures.spot.block c.in-Some.ensures.spot.leaf)) (rw c.take-item.ensures.same at c.in-Some.ensures.few) (rw c.take-item.ensures.same at c.join.ensures.leaves) c.join.ensures.free).left

pub returns-in-Some-clause-filled : goal.returns-in-Some-clause-filled
returns-in-Some-clause-filled g c = (with_next _ _ _ _ _ _ _ _ _ c.requires.filled (rank_below c.args.pile.now.blocks c.seat-seat.result.block c.seat-seat.result.leaf c.seat-seat.ensures.spot.block c.seat-seat.ensures.spot.leaf) (c.seat-seat.ensures.inner c.requires.within) c.seat-seat.ensures.place c.take-item.ensures.leaves c.take-item.ensures.free (omega (arith, rw c.take-item.ensures.same at c.in-Some.ensures.next, rank_below c.take-item.new.self.blocks c.in-Some.next.block c.in-Some.next.leaf c.in-Some.ensures.spot.block c.in-Some.ensures.spot.leaf)) (rw c.take-item.ensures.same at c.in-Some.ensures.few) (rw c.take-item.ensures.same at c.join.ensures.leaves) c.join.ensures.free).filled

pub returns-in-Some-clause-spare : goal.returns-in-Some-clause-spare
returns-in-Some-clause-spare g c = (with_next _ _ _ _ _ _ _ _ _ c.requires.filled (rank_below c.args.pile.now.blocks c.seat-seat.result.block c.seat-seat.result.leaf c.seat-seat.ensures.spot.block c.seat-seat.ensures.spot.leaf) (c.seat-seat.ensures.inner c.requires.within) c.seat-seat.ensures.place c.take-item.ensures.leaves c.take-item.ensures.free (omega (arith, rw c.take-item.ensures.same at c.in-Some.ensures.next, rank_below c.take-item.new.self.blocks c.in-Some.next.block c.in-Some.next.leaf c.in-Some.ensures.spot.block c.in-Some.ensures.spot.leaf)) (rw c.take-item.ensures.same at c.in-Some.ensures.few) (rw c.take-item.ensures.same at c.join.ensures.leaves) c.join.ensures.free).spare

pub returns-in-Some-few_before-clause-taken : goal.returns-in-Some-few_before-clause-taken
returns-in-Some-few_before-clause-taken g c = ap (slice_get (joined (joined c.args.pile.now.blocks))) c.seat-seat.ensures.place
    ∙ joined_get _ _ _ (rank_below c.args.pile.now.blocks c.seat-seat.result.block c.seat-seat.result.leaf c.seat-seat.ensures.spot.block c.seat-seat.ensures.spot.leaf) (c.seat-seat.ensures.inner c.requires.within) ∙ c.take-item.ensures.taken

pub returns-in-Some-few_before-clause-left : goal.returns-in-Some-few_before-clause-left
returns-in-Some-few_before-clause-left g c = (with_former _ _ _ _ _ _ _ _ _ c.requires.filled (rank_below c.args.pile.now.blocks c.seat-seat.result.block c.seat-seat.result.leaf c.seat-seat.ensures.spot.block c.seat-seat.ensures.spot.leaf) (c.seat-seat.ensures.inner c.requires.within) c.seat-seat.ensures.place c.take-item.ensures.leaves c.take-item.ensures.free _ (rw c.take-item.ensures.same at c.in-Some-few_before.ensures.prior) (rw c.take-item.ensures.same at c.in-Some-few_before.ensures.few) c.join-in-Some-few_before.ensures.leaves c.join-in-Some-few_before.ensures.free).left

pub returns-in-Some-few_before-clause-filled : goal.returns-in-Some-few_before-clause-filled
returns-in-Some-few_before-clause-filled g c = (with_former _ _ _ _ _ _ _ _ _ c.requires.filled (rank_below c.args.pile.now.blocks c.seat-seat.result.block c.seat-seat.result.leaf c.seat-seat.ensures.spot.block c.seat-seat.ensures.spot.leaf) (c.seat-seat.ensures.inner c.requires.within) c.seat-seat.ensures.place c.take-item.ensures.leaves c.take-item.ensures.free _ (rw c.take-item.ensures.same at c.in-Some-few_before.ensures.prior) (rw c.take-item.ensures.same at c.in-Some-few_before.ensures.few) c.join-in-Some-few_before.ensures.leaves c.join-in-Some-few_before.ensures.free).filled

pub returns-in-Some-few_before-clause-spare : goal.returns-in-Some-few_before-clause-spare
returns-in-Some-few_before-clause-spare g c = (with_former _ _ _ _ _ _ _ _ _ c.requires.filled (rank_below c.args.pile.now.blocks c.seat-seat.result.block c.seat-seat.result.leaf c.seat-seat.ensures.spot.block c.seat-seat.ensures.spot.leaf) (c.seat-seat.ensures.inner c.requires.within) c.seat-seat.ensures.place c.take-item.ensures.leaves c.take-item.ensures.free _ (rw c.take-item.ensures.same at c.in-Some-few_before.ensures.prior) (rw c.take-item.ensures.same at c.in-Some-few_before.ensures.few) c.join-in-Some-few_before.ensures.leaves c.join-in-Some-few_before.ensures.free).spare

pub returns-clause-taken : goal.returns-clause-taken
returns-clause-taken g c = ap (slice_get (joined (joined c.args.pile.now.blocks))) c.seat-seat.ensures.place
    ∙ joined_get _ _ _ (rank_below c.args.pile.now.blocks c.seat-seat.result.block c.seat-seat.result.leaf c.seat-seat.ensures.spot.block c.seat-seat.ensures.spot.leaf) (c.seat-seat.ensures.inner c.requires.within) ∙ c.take-item.ensures.taken

pub returns-clause-left : goal.returns-clause-left
returns-clause-left g c = (alone _ _ [] _ _ 0 _ _ _ c.requires.filled (rank_below c.args.pile.now.blocks c.seat-seat.result.block c.seat-seat.result.leaf c.seat-seat.ensures.spot.block c.seat-seat.ensures.spot.leaf) (c.seat-seat.ensures.inner c.requires.within) c.seat-seat.ensures.place c.take-item.ensures.leaves c.take-item.ensures.free (omega (arith, rw c.take-item.ensures.same at c.size.ensures.value, c.if-size-eq0.false)) (rw c.take-item.ensures.same at c.in_default.ensures.many) (rw c.take-item.ensures.same at c.in_default-few_before.ensures.many)).left

pub returns-clause-filled : goal.returns-clause-filled
returns-clause-filled g c = (alone _ _ [] _ _ 0 _ _ _ c.requires.filled (rank_below c.args.pile.now.blocks c.seat-seat.result.block c.seat-seat.result.leaf c.seat-seat.ensures.spot.block c.seat-seat.ensures.spot.leaf) (c.seat-seat.ensures.inner c.requires.within) c.seat-seat.ensures.place c.take-item.ensures.leaves c.take-item.ensures.free (omega (arith, rw c.take-item.ensures.same at c.size.ensures.value, c.if-size-eq0.false)) (rw c.take-item.ensures.same at c.in_default.ensures.many) (rw c.take-item.ensures.same at c.in_default-few_before.ensures.many)).filled

pub returns-clause-spare : goal.returns-clause-spare
returns-clause-spare g c = (alone _ _ [] _ _ 0 _ _ _ c.requires.filled (rank_below c.args.pile.now.blocks c.seat-seat.result.block c.seat-seat.result.leaf c.seat-seat.ensures.spot.block c.seat-seat.ensures.spot.leaf) (c.seat-seat.ensures.inner c.requires.within) c.seat-seat.ensures.place c.take-item.ensures.leaves c.take-item.ensures.free (omega (arith, rw c.take-item.ensures.same at c.size.ensures.value, c.if-size-eq0.false)) (rw c.take-item.ensures.same at c.in_default.ensures.many) (rw c.take-item.ensures.same at c.in_default-few_before.ensures.many)).spare
