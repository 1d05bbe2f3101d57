use Rattle.std.proofs.Common.{◌≡◌, drop}
use Rattle.store_contents.specs.Walks.{Replaces, paired}
use Rattle.store_contents.proofs.Laws.{Walked}
use Rattle.indexed_records.proofs.growing.replace_in.Given as goal

abbrev pub invariant-loop-place : goal.invariant-loop-place
invariant-loop-place g l = record {
  left : l.lists.rest.items ≡ drop l.place l.fn.new.items;
  walked : Walked Replaces (paired l.old l.fn.new.items) l.fn.tables l.tables l.place;
}
