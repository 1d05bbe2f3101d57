-- Object stores (Indexed Database API 3.0, "object store").
--     Store                 the definition, the records by key, and the current number of the key generator
--     Kept                  a store, its content before each change that can still be undone, and what it was at the last settle
--     Content, unnumbered, numbered         the definition and the records alone;  a store without its number, and a content with one
--     at_mark               the store at a mark
--     KeepsPast             a change that leaves every earlier mark, and the last settle, as they were
use Rattle.std.specs.Prelude.{◌≡◌, ℕ, ◌≤◌, List, length, slice_get, unwrap_or}
use Rattle.idb_schema.specs.declared.definitions.StoreInfo.{StoreInfo}
use Rattle.index_tables.specs.RecordRows.{Records}

-- what the indexes show is computed from the records
pub record Store : Type 0 where
  pub info : StoreInfo
  pub records : Records
  pub current : ℕ

-- what a change that is logged changes
pub record Content : Type 0 where
  pub info : StoreInfo
  pub records : Records

abbrev pub unnumbered : Store → Content
unnumbered store = record { info = store.info; records = store.records }

abbrev pub numbered : Content → ℕ → Store
numbered content current = record { info = content.info; records = content.records; current = current }

-- the store, its content before each change that can still be undone, the oldest first, and the store at the last settle
pub record Kept : Type 0 where
  pub store : Store
  pub past : List Content
  pub settled : Store

-- the content at a place of the past; that of now where there was no change since
unfoldable pub content_at : List Content → Content → ℕ → Content
content_at past content place = unwrap_or (slice_get past place) content

-- the store at a mark, which is a place of the past and the current number at that time
abbrev pub at_mark : Kept → ℕ → ℕ → Store
at_mark kept place current = numbered (content_at kept.past (unnumbered kept.store) place) current

-- every place that was given before leads to the same content
pub record KeepsPlaces (old_past : List Content) (old : Content) (new_past : List Content) (new : Content) : Type 0 where
  pub longer : length old_past ≤ length new_past
  pub places : (place : ℕ) → place ≤ length old_past → content_at new_past new place ≡ content_at old_past old place

-- a change that leaves every earlier mark as it was, and the last settle
pub record KeepsPast (old new : Kept) : Type 0 where
  pub longer : length old.past ≤ length new.past
  pub places : (place current : ℕ) → place ≤ length old.past → at_mark new place current ≡ at_mark old place current
  pub settled : new.settled ≡ old.settled
