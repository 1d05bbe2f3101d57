use Rattle.std.proofs.Common.{ap, sym, ◌∙◌}
use Rattle.sorted_table.specs.Tables.{value_there, with_value}
use Rattle.leaf_blocks.specs.Leaves.{joined}
use Rattle.leaf_blocks.proofs.Laws.{rank_below}
use Rattle.leaf_table.proofs.PutLemmas.{joined_value, joined_there, value_filled, value_spare}
use Rattle.leaf_table.proofs.editing.replace_in.Goals as goal

pub returns-clause-given : goal.returns-clause-given
returns-clause-given g c = ap (value_there (joined (joined c.args.pile.now.blocks))) c.seat-seat.ensures.place
    ∙ joined_there _ _ _ (rank_below c.args.pile.now.blocks c.seat-seat.result.block c.seat-seat.result.leaf c.seat-seat.ensures.spot.block c.seat-seat.ensures.spot.leaf) (c.seat-seat.ensures.inner c.requires.within) ∙ c.replace.ensures.given

pub returns-clause-items : goal.returns-clause-items
returns-clause-items g c = ap joined c.replace.ensures.leaves ∙ joined_value (joined c.args.pile.now.blocks) _ _ c.args.value (rank_below c.args.pile.now.blocks c.seat-seat.result.block c.seat-seat.result.leaf c.seat-seat.ensures.spot.block c.seat-seat.ensures.spot.leaf) (c.seat-seat.ensures.inner c.requires.within)
    ∙ ap (λ p. with_value (joined (joined c.args.pile.now.blocks)) p c.args.value) (sym c.seat-seat.ensures.place)

pub returns-clause-filled : goal.returns-clause-filled
returns-clause-filled g c = rw c.replace.ensures.leaves (value_filled 64 _ _ _ _ c.requires.filled (rank_below c.args.pile.now.blocks c.seat-seat.result.block c.seat-seat.result.leaf c.seat-seat.ensures.spot.block c.seat-seat.ensures.spot.leaf))

pub returns-clause-spare : goal.returns-clause-spare
returns-clause-spare g c = rw (c.replace.ensures.leaves, c.replace.ensures.free) (value_spare _ _ _ _ _ (rank_below c.args.pile.now.blocks c.seat-seat.result.block c.seat-seat.result.leaf c.seat-seat.ensures.spot.block c.seat-seat.ensures.spot.leaf))
