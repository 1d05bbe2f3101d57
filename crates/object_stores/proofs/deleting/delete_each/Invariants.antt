use Rattle.std.proofs.Common.{◌≡◌}
use Rattle.std.specs.FinMap.{len}
use Rattle.store_contents.specs.Store.{KeepsPlaces}
use Rattle.object_stores.specs.Parts.{content_in, past_in, IsSound}
use Rattle.object_stores.proofs.Deleted.{SameOutside}
use Rattle.object_stores.proofs.deleting.delete_each.Given as goal

-- only records of the range went
abbrev pub invariant-loop-start : goal.invariant-loop-start
invariant-loop-start g l = record {
  sound : IsSound l.parts;
  info : l.parts.contents.info ≡ l.fn.parts.contents.info;
  outside : SameOutside l.range l.fn.parts.contents.records l.parts.contents.records;
  past : KeepsPlaces (past_in l.fn.parts) (content_in l.fn.parts) (past_in l.parts) (content_in l.parts);
}

abbrev pub decreases-loop-start : goal.decreases-loop-start
decreases-loop-start g l = len l.parts.contents.records
