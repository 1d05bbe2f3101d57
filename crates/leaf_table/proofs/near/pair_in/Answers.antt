use Rattle.std.proofs.Common.{Some, ap, sym, ◌∙◌}
use Rattle.std.proofs.lemmas.Option.{slice_get-get_or}
use Rattle.leaf_blocks.proofs.Laws.{joined_get, rank_below}
use Rattle.leaf_table.proofs.near.pair_in.Goals as goal

pub returns : goal.returns
returns g c = joined_get _ _ _ (rank_below c.args.pile.now.blocks c.args.seat.block c.args.seat.leaf c.requires.spot.block c.requires.spot.leaf) c.requires.offset
    ∙ slice_get-get_or _ _ c.index-leaf-seat.result c.requires.offset ∙ ap Some (sym (rw c.leaf.ensures.items at c.index-leaf-seat.is))
