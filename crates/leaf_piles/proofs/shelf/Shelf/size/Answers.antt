use Rattle.std.proofs.Common.{sym, ap, ◌∙◌, [], length}
use Rattle.std.proofs.lemmas.List.{get_or_read}
use Rattle.leaf_blocks.specs.Leaves.{leaf_at}
use Rattle.leaf_blocks.proofs.Laws.{rank_leaf}
use Rattle.leaf_piles.proofs.shelf.Shelf.size.Goals as goal

pub returns-clause-value : goal.returns-clause-value
returns-clause-value g c =
    let spot = rw (← c.self.view_is) at c.requires in
    rw (← c.self.view_is) (c.size.ensures.value ∙ ap length (ap (λ b. leaf_at b c.args.seat.leaf) (get_or_read _ _ _ spot.block c.index.ensures []) ∙ sym (rank_leaf _ _ _ [] spot.block spot.leaf)))
