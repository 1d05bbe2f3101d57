use Rattle.std.proofs.Common.{◌≡◌, ◌≤◌, length, take}
use Rattle.store_contents.specs.Store.{content_at}
use Rattle.object_stores.specs.Parts.{content_in, past_in, IsSound}
use Rattle.object_stores.proofs.undoing.undo_to.Given as goal

-- the place leads where it led
abbrev pub invariant-loop-parts : goal.invariant-loop-parts
invariant-loop-parts g l = record {
  sound : IsSound l.parts;
  within : l.place ≤ length (past_in l.parts);
  content : content_at (past_in l.parts) (content_in l.parts) l.place ≡ content_at (past_in l.fn.parts) (content_in l.fn.parts) l.place;
  past : take l.place (past_in l.parts) ≡ take l.place (past_in l.fn.parts);
}

abbrev pub decreases-loop-parts : goal.decreases-loop-parts
decreases-loop-parts g l = length l.parts.log.items
