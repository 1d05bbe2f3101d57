use Rattle.store_contents.specs.Walks.{Keeps, HasRoomFor}
use Rattle.store_contents.proofs.Laws.{Walked}
use Rattle.indexed_records.proofs.growing.reserve_in.Given as goal

abbrev pub invariant-loop-table : goal.invariant-loop-table
invariant-loop-table g l = record {
  kept : Walked Keeps l.fn.tables l.fn.tables l.tables l.table-index;
  room : Walked (HasRoomFor l.rows) l.fn.tables l.fn.tables l.tables l.table-index;
}
