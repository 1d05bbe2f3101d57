use Rattle.std.proofs.Common.{◌∙◌}
use Rattle.leaf_piles.proofs.ShelfLemmas.{shelf_sum}
use Rattle.leaf_piles.proofs.shelf.Shelf.count.Goals as goal

pub returns : goal.returns
returns g c = rw (← c.self.view_is) (c.total.ensures ∙ shelf_sum _ _ _ _ _ c.self.invariant)
