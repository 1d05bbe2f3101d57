use Rattle.leaf_blocks.proofs.Laws.{fit}
use Rattle.leaf_piles.proofs.pile.Pile.seat.Goals as goal

pub seat-seat-requires-clause-filled : goal.seat-seat-requires-clause-filled
seat-seat-requires-clause-filled g c = λ b w. (fit 64 128 c.self.inside.shelf.blocks b c.self.invariant.filled w).0
