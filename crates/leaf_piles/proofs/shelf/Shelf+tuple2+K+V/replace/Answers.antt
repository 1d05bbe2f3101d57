use Rattle.std.proofs.Common.{[]}
use Rattle.std.proofs.lemmas.List.{get_or_read}
use Rattle.leaf_piles.proofs.ShelfLemmas.{value_keeps}
use Rattle.leaf_piles.proofs.shelf.Shelf+tuple2+K+V.replace.Goals as goal

pub invariant_of-self : goal.invariant_of-self
invariant_of-self g c =
    let spot = rw (← c.self.view_is) at c.requires.spot in
    value_keeps _ _ _ _ _ c.self.invariant _ _ _ _ _ _ spot.block (get_or_read _ _ _ spot.block c.index_mut.ensures.value []) spot.leaf c.replace.ensures.left
