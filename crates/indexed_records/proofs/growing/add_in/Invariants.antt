use Rattle.std.proofs.Common.{◌≡◌, drop}
use Rattle.store_contents.specs.Walks.{Adds}
use Rattle.store_contents.proofs.Laws.{Walked}
use Rattle.indexed_records.proofs.growing.add_in.Given as goal

abbrev pub invariant-loop-table : goal.invariant-loop-table
invariant-loop-table g l = record {
  left : l.lists.rest.items ≡ drop l.table-index l.fn.rows.items;
  walked : Walked Adds l.fn.rows.items l.fn.tables l.tables l.table-index;
}
