use Rattle.store_contents.specs.Walks.{Removes}
use Rattle.store_contents.proofs.Laws.{Walked}
use Rattle.indexed_records.proofs.growing.remove_in.Given as goal

abbrev pub invariant-loop-place : goal.invariant-loop-place
invariant-loop-place g l = Walked Removes l.rows l.fn.tables l.tables l.place
