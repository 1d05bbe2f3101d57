-- A store in its parts.
--     content_in, log_in, past_in     the content of a store, its changes from the newest on, and the content before each
--     kept_in               what contracts see of the parts, with the generator's number now and at the last settle
--     IsSound               the parts fit together
--     IsVersion             and so do the generator's numbers
--     IsReady               memory for changes to come was taken
--     IsOff                 the newest change was taken off the log, and is still to be undone
use Rattle.std.specs.Prelude.{◌≡◌, ℕ, ◌+◌, ◌^◌, ◌<◌, ◌≤◌, List, ◌∷◌, length, reverse}
use Rattle.std.specs.Vec.{vec_capacity}
use Rattle.store_contents.specs.Store.{Content, Kept, content_at, numbered}
use Rattle.store_contents.specs.IsStore.{IsCurrent}
use Rattle.object_stores.specs.Undo.{past_of, CanUndo, needed_records, needed_rows, HasSpare, AreRoomy}
use Rattle.object_stores.specs.declared.changes.Change.{Change}
use Rattle.object_stores.specs.declared.changes.Parts.{Parts}

abbrev pub content_in : {T R W : Type 0} → Parts T R W → Content
content_in parts = record { info = parts.contents.info; records = parts.contents.records }

abbrev pub log_in : {T R W : Type 0} → Parts T R W → List (Change T R W)
log_in parts = reverse parts.log.items

abbrev pub past_in : {T R W : Type 0} → Parts T R W → List Content
past_in parts = past_of (log_in parts) (content_in parts)

abbrev pub kept_in : {T R W : Type 0} → Parts T R W → ℕ → ℕ → Kept
kept_in parts current settled = record {
  store = numbered (content_in parts) current;
  past = past_in parts;
  settled = numbered (content_at (past_in parts) (content_in parts) 0) settled;
}

-- the changes can be undone without memory
pub record IsSound {T R W : Type 0} (parts : Parts T R W) : Type 0 where
  pub undo : CanUndo (log_in parts) (content_in parts)
  pub spare : HasSpare (log_in parts) parts.contents.record_spare parts.contents.row_spare
  pub kept : AreRoomy (log_in parts)
  pub removed : parts.removed ≡ needed_records (log_in parts)
  pub rows : parts.rows ≡ needed_rows (log_in parts)

-- so many changes, records and rows can come without memory, and the undoing still has what it needs
pub record IsReady {T R W : Type 0} (parts : Parts T R W) (more more_records more_rows : ℕ) : Type 0 where
  pub changes : length parts.log.items + more ≤ vec_capacity parts.log
  pub records : needed_records (log_in parts) + more_records ≤ parts.contents.record_spare
  pub rows : needed_rows (log_in parts) + more_rows ≤ parts.contents.row_spare
  pub records_counted : needed_records (log_in parts) + more_records < 2 ^ 64
  pub rows_counted : needed_rows (log_in parts) + more_rows < 2 ^ 64

-- the newest change was taken off the log, and is still to be undone
pub record IsOff {T R W : Type 0} (c : Change T R W) (parts : Parts T R W) : Type 0 where
  pub undo : CanUndo (c ∷ log_in parts) (content_in parts)
  pub spare : HasSpare (c ∷ log_in parts) parts.contents.record_spare parts.contents.row_spare
  pub kept : AreRoomy (c ∷ log_in parts)
  pub removed : parts.removed ≡ needed_records (c ∷ log_in parts)
  pub rows : parts.rows ≡ needed_rows (c ∷ log_in parts)

-- the parts fit together, and so do the generator's number now and the one at the last settle
pub record IsVersion {T R W : Type 0} (parts : Parts T R W) (n m : ℕ) : Type 0 where
  pub sound : IsSound parts
  pub current : IsCurrent parts.contents.info.auto n
  pub settled : IsCurrent parts.contents.info.auto m
