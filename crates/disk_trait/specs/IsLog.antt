-- How the entries of a log and the bytes that were written stand for the changes.
use Rattle.std.specs.Prelude.{ℕ, ◌-◌, ◌≤◌, List, [], ◌∷◌, length, take, drop, reverse, vec_capacity}
use Rattle.disk_trait.specs.Memory.{Change}
use Rattle.disk_trait.specs.Memory.Change.{Wrote, Missed, WasCut, Synced, Restarted}
use Rattle.disk_trait.specs.Parts.{LogState}
use Rattle.disk_trait.specs.declared.change_log.Entry.{Entry}
use Rattle.disk_trait.specs.declared.change_log.Entry.TheVariants as entry
use Rattle.disk_trait.specs.declared.change_log.ChangeLog.TheInside.{Inside}

-- the changes of these entries, the newest first; a write has its bytes at the end of those that were written
abbrev pub changes_of : List Entry → List ℕ → List Change
changes_of [] written = []
changes_of (entry.Wrote area from n ∷ earlier) written = Wrote area from (drop (length written - n) written) ∷ changes_of earlier (take (length written - n) written)
changes_of (entry.Missed area from n ∷ earlier) written = Missed area from n ∷ changes_of earlier written
changes_of (entry.WasCut area len ∷ earlier) written = WasCut area len ∷ changes_of earlier written
changes_of (entry.Synced area ∷ earlier) written = Synced area ∷ changes_of earlier written
changes_of (entry.Restarted ∷ earlier) written = Restarted ∷ changes_of earlier written

abbrev pub log_of : Inside → LogState
log_of l = record {
  history = changes_of (reverse l.entries.items) l.written.items;
  spare = l.limit - length l.entries.items;
  room = l.total - length l.written.items;
}

-- the memory is there from the start
pub record HasMemory (l : Inside) : Type 0 where
  pub entries : length l.entries.items ≤ l.limit
  pub spare : l.limit ≤ vec_capacity l.entries
  pub written : length l.written.items ≤ l.total
  pub room : l.total ≤ vec_capacity l.written
