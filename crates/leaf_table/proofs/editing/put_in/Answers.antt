use Rattle.std.proofs.Common.{arith, ap, ◌∙◌, ◌≡◌, ◌+◌, length}
use Rattle.leaf_blocks.specs.Leaves.{joined, leaf_at, rank, split_run}
use Rattle.leaf_blocks.proofs.Laws.{joined_split, rank_below}
use Rattle.leaf_table.proofs.PutLemmas.{put_small, half_seat, half_rank, put_whole, put_halved}
use Rattle.leaf_table.proofs.editing.put_in.Goals as goal

pub put-requires-clause-small : goal.put-requires-clause-small
put-requires-clause-small g c = put_small (joined c.args.pile.now.blocks) c.requires.filled c.seat-seat.ensures.few

pub make_room-full-requires-clause-small : goal.make_room-full-requires-clause-small
make_room-full-requires-clause-small g c = put_small (joined c.args.pile.now.blocks) c.requires.filled c.seat-seat.ensures.few

pub put-requires-2-clause-offset : goal.put-requires-2-clause-offset
put-requires-2-clause-offset g c =
    let full : length (leaf_at (joined c.args.pile.now.blocks) (rank c.args.pile.now.blocks c.seat-seat.result.block c.seat-seat.result.leaf)) ≡ 64 = omega (arith, c.size.ensures, c.if-size-lt-MOST.false) in
    let now = c.split.ensures.leaves ∙ ap (λ ls. split_run 32 ls (rank c.make_room-full.new.self.blocks c.make_room-full.result.block c.make_room-full.result.leaf)) c.make_room-full.ensures.leaves
    ∙ ap (split_run 32 (joined c.args.pile.now.blocks)) c.make_room-full.ensures.same in
    let there = ap (λ b. rank c.split.new.self.blocks b c.make_room-full.result.leaf) c.seat_in_half.ensures.block ∙ ap (λ n. n + c.make_room-full.result.leaf) c.split.ensures.same ∙ c.make_room-full.ensures.same in
    let half = half_seat (joined c.args.pile.now.blocks) _ _ (rank c.split.new.self.blocks c.seat_in_half.result.block c.seat_in_half.result.leaf) _ (rank_below c.args.pile.now.blocks c.seat-seat.result.block c.seat-seat.result.leaf c.seat-seat.ensures.spot.block c.seat-seat.ensures.spot.leaf) full c.seat-seat.ensures.offset
    (half_rank _ _ _ _ _ _ (rw c.make_room-full.ensures.offset at c.seat_in_half.ensures.half) there) in
    rw now (half.offset)

pub put-requires-2-clause-room : goal.put-requires-2-clause-room
put-requires-2-clause-room g c =
    let full : length (leaf_at (joined c.args.pile.now.blocks) (rank c.args.pile.now.blocks c.seat-seat.result.block c.seat-seat.result.leaf)) ≡ 64 = omega (arith, c.size.ensures, c.if-size-lt-MOST.false) in
    let now = c.split.ensures.leaves ∙ ap (λ ls. split_run 32 ls (rank c.make_room-full.new.self.blocks c.make_room-full.result.block c.make_room-full.result.leaf)) c.make_room-full.ensures.leaves
    ∙ ap (split_run 32 (joined c.args.pile.now.blocks)) c.make_room-full.ensures.same in
    let there = ap (λ b. rank c.split.new.self.blocks b c.make_room-full.result.leaf) c.seat_in_half.ensures.block ∙ ap (λ n. n + c.make_room-full.result.leaf) c.split.ensures.same ∙ c.make_room-full.ensures.same in
    let half = half_seat (joined c.args.pile.now.blocks) _ _ (rank c.split.new.self.blocks c.seat_in_half.result.block c.seat_in_half.result.leaf) _ (rank_below c.args.pile.now.blocks c.seat-seat.result.block c.seat-seat.result.leaf c.seat-seat.ensures.spot.block c.seat-seat.ensures.spot.leaf) full c.seat-seat.ensures.offset
    (half_rank _ _ _ _ _ _ (rw c.make_room-full.ensures.offset at c.seat_in_half.ensures.half) there) in
    rw now (omega (arith, half.half))

pub put-requires-2-clause-small : goal.put-requires-2-clause-small
put-requires-2-clause-small g c = rw (c.split.ensures.leaves, joined_split 32 (joined c.make_room-full.new.self.blocks) (rank c.make_room-full.new.self.blocks c.make_room-full.result.block c.make_room-full.result.leaf), c.make_room-full.ensures.leaves) (put_small (joined c.args.pile.now.blocks) c.requires.filled c.seat-seat.ensures.few)

pub returns-then-size-lt-MOST-clause-items : goal.returns-then-size-lt-MOST-clause-items
returns-then-size-lt-MOST-clause-items g c =
    (put_whole _ _ _ _ _ _ _ _ c.requires.filled (rank_below c.args.pile.now.blocks c.seat-seat.result.block c.seat-seat.result.leaf c.seat-seat.ensures.spot.block c.seat-seat.ensures.spot.leaf) c.seat-seat.ensures.offset (omega (arith, c.size.ensures, c.if-size-lt-MOST.true)) c.seat-seat.ensures.place c.put.ensures.leaves c.put.ensures.free).items

pub returns-then-size-lt-MOST-clause-filled : goal.returns-then-size-lt-MOST-clause-filled
returns-then-size-lt-MOST-clause-filled g c =
    (put_whole _ _ _ _ _ _ _ _ c.requires.filled (rank_below c.args.pile.now.blocks c.seat-seat.result.block c.seat-seat.result.leaf c.seat-seat.ensures.spot.block c.seat-seat.ensures.spot.leaf) c.seat-seat.ensures.offset (omega (arith, c.size.ensures, c.if-size-lt-MOST.true)) c.seat-seat.ensures.place c.put.ensures.leaves c.put.ensures.free).filled

pub returns-then-size-lt-MOST-clause-spare : goal.returns-then-size-lt-MOST-clause-spare
returns-then-size-lt-MOST-clause-spare g c =
    (put_whole _ _ _ _ _ _ _ _ c.requires.filled (rank_below c.args.pile.now.blocks c.seat-seat.result.block c.seat-seat.result.leaf c.seat-seat.ensures.spot.block c.seat-seat.ensures.spot.leaf) c.seat-seat.ensures.offset (omega (arith, c.size.ensures, c.if-size-lt-MOST.true)) c.seat-seat.ensures.place c.put.ensures.leaves c.put.ensures.free).spare

pub returns-clause-items : goal.returns-clause-items
returns-clause-items g c =
    let full : length (leaf_at (joined c.args.pile.now.blocks) (rank c.args.pile.now.blocks c.seat-seat.result.block c.seat-seat.result.leaf)) ≡ 64 = omega (arith, c.size.ensures, c.if-size-lt-MOST.false) in
    let now = c.split.ensures.leaves ∙ ap (λ ls. split_run 32 ls (rank c.make_room-full.new.self.blocks c.make_room-full.result.block c.make_room-full.result.leaf)) c.make_room-full.ensures.leaves
    ∙ ap (split_run 32 (joined c.args.pile.now.blocks)) c.make_room-full.ensures.same in
    let there = ap (λ b. rank c.split.new.self.blocks b c.make_room-full.result.leaf) c.seat_in_half.ensures.block ∙ ap (λ n. n + c.make_room-full.result.leaf) c.split.ensures.same ∙ c.make_room-full.ensures.same in
    let half = half_seat (joined c.args.pile.now.blocks) _ _ (rank c.split.new.self.blocks c.seat_in_half.result.block c.seat_in_half.result.leaf) _ (rank_below c.args.pile.now.blocks c.seat-seat.result.block c.seat-seat.result.leaf c.seat-seat.ensures.spot.block c.seat-seat.ensures.spot.leaf) full c.seat-seat.ensures.offset
    (half_rank _ _ _ _ _ _ (rw c.make_room-full.ensures.offset at c.seat_in_half.ensures.half) there) in
    (put_halved _ _ _ _ _ _ _ c.args.pile.now.free c.split.new.self.free _ _ _ c.requires.filled (rank_below c.args.pile.now.blocks c.seat-seat.result.block c.seat-seat.result.leaf c.seat-seat.ensures.spot.block c.seat-seat.ensures.spot.leaf) full c.seat-seat.ensures.place half now c.put-2.ensures.leaves (omega (arith, c.split.ensures.free, c.make_room-full.ensures.free)) c.put-2.ensures.free).items

pub returns-clause-filled : goal.returns-clause-filled
returns-clause-filled g c =
    let full : length (leaf_at (joined c.args.pile.now.blocks) (rank c.args.pile.now.blocks c.seat-seat.result.block c.seat-seat.result.leaf)) ≡ 64 = omega (arith, c.size.ensures, c.if-size-lt-MOST.false) in
    let now = c.split.ensures.leaves ∙ ap (λ ls. split_run 32 ls (rank c.make_room-full.new.self.blocks c.make_room-full.result.block c.make_room-full.result.leaf)) c.make_room-full.ensures.leaves
    ∙ ap (split_run 32 (joined c.args.pile.now.blocks)) c.make_room-full.ensures.same in
    let there = ap (λ b. rank c.split.new.self.blocks b c.make_room-full.result.leaf) c.seat_in_half.ensures.block ∙ ap (λ n. n + c.make_room-full.result.leaf) c.split.ensures.same ∙ c.make_room-full.ensures.same in
    let half = half_seat (joined c.args.pile.now.blocks) _ _ (rank c.split.new.self.blocks c.seat_in_half.result.block c.seat_in_half.result.leaf) _ (rank_below c.args.pile.now.blocks c.seat-seat.result.block c.seat-seat.result.leaf c.seat-seat.ensures.spot.block c.seat-seat.ensures.spot.leaf) full c.seat-seat.ensures.offset
    (half_rank _ _ _ _ _ _ (rw c.make_room-full.ensures.offset at c.seat_in_half.ensures.half) there) in
    (put_halved _ _ _ _ _ _ _ c.args.pile.now.free c.split.new.self.free _ _ _ c.requires.filled (rank_below c.args.pile.now.blocks c.seat-seat.result.block c.seat-seat.result.leaf c.seat-seat.ensures.spot.block c.seat-seat.ensures.spot.leaf) full c.seat-seat.ensures.place half now c.put-2.ensures.leaves (omega (arith, c.split.ensures.free, c.make_room-full.ensures.free)) c.put-2.ensures.free).filled

pub returns-clause-spare : goal.returns-clause-spare
returns-clause-spare g c =
    let full : length (leaf_at (joined c.args.pile.now.blocks) (rank c.args.pile.now.blocks c.seat-seat.result.block c.seat-seat.result.leaf)) ≡ 64 = omega (arith, c.size.ensures, c.if-size-lt-MOST.false) in
    let now = c.split.ensures.leaves ∙ ap (λ ls. split_run 32 ls (rank c.make_room-full.new.self.blocks c.make_room-full.result.block c.make_room-full.result.leaf)) c.make_room-full.ensures.leaves
    ∙ ap (split_run 32 (joined c.args.pile.now.blocks)) c.make_room-full.ensures.same in
    let there = ap (λ b. rank c.split.new.self.blocks b c.make_room-full.result.leaf) c.seat_in_half.ensures.block ∙ ap (λ n. n + c.make_room-full.result.leaf) c.split.ensures.same ∙ c.make_room-full.ensures.same in
    let half = half_seat (joined c.args.pile.now.blocks) _ _ (rank c.split.new.self.blocks c.seat_in_half.result.block c.seat_in_half.result.leaf) _ (rank_below c.args.pile.now.blocks c.seat-seat.result.block c.seat-seat.result.leaf c.seat-seat.ensures.spot.block c.seat-seat.ensures.spot.leaf) full c.seat-seat.ensures.offset
    (half_rank _ _ _ _ _ _ (rw c.make_room-full.ensures.offset at c.seat_in_half.ensures.half) there) in
    (put_halved _ _ _ _ _ _ _ c.args.pile.now.free c.split.new.self.free _ _ _ c.requires.filled (rank_below c.args.pile.now.blocks c.seat-seat.result.block c.seat-seat.result.leaf c.seat-seat.ensures.spot.block c.seat-seat.ensures.spot.leaf) full c.seat-seat.ensures.place half now c.put-2.ensures.leaves (omega (arith, c.split.ensures.free, c.make_room-full.ensures.free)) c.put-2.ensures.free).spare
