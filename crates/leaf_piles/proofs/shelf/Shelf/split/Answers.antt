use Rattle.std.proofs.Common.{refl, []}
use Rattle.std.proofs.lemmas.List.{get_or_read}
use Rattle.leaf_piles.proofs.ShelfLemmas.{split_keeps}
use Rattle.leaf_piles.proofs.shelf.Shelf.split.Goals as goal

pub invariant_of-self : goal.invariant_of-self
invariant_of-self g c =
    let spot = rw (← c.self.view_is) at c.requires.spot in
    split_keeps _ _ _ _ _ _ c.self.invariant _ _ _ _ spot.block (get_or_read _ _ _ spot.block c.index_mut.ensures.value []) c.split.ensures refl
