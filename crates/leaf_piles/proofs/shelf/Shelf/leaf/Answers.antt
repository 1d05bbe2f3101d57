use Rattle.std.proofs.Common.{sym, ap, ◌∙◌, []}
use Rattle.std.proofs.lemmas.List.{get_or_read}
use Rattle.leaf_blocks.specs.Leaves.{leaf_at}
use Rattle.leaf_blocks.proofs.Laws.{rank_leaf}
use Rattle.leaf_piles.proofs.shelf.Shelf.leaf.Goals as goal

pub returns : goal.returns
returns g c =
    let spot = rw (← c.self.view_is) at c.requires in
    rw (← c.self.view_is) (c.leaf.ensures ∙ ap (λ b. leaf_at b c.args.seat.leaf) (get_or_read _ _ _ spot.block c.index.ensures []) ∙ sym (rank_leaf _ _ _ [] spot.block spot.leaf))
