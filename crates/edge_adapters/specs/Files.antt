-- The file of an area, as far as it is told, and how its bytes and its name come out of a call.
use Rattle.std.specs.Prelude.{◌≡◌, ℕ, Bool, List, Option, None, Some}

-- A file that is told.
pub record FileState : Type 0 where
  -- what reads give; nothing where there is no file
  pub held : List ℕ
  -- the last sync has made sure of the bytes
  pub is_synced : Bool
  -- the folder was synced since the file was opened, so its name is on the disk
  pub is_named : Bool

-- Over a call a told file stays told, and its bytes come by this step from those before. One that isn't told stays so.
abbrev pub BytesBecome : (List ℕ → List ℕ → Type 0) → Option FileState → Option FileState → Type 0
BytesBecome step None None = Unit {0}
BytesBecome step None (Some new) = ⊥
BytesBecome step (Some old) None = ⊥
BytesBecome step (Some old) (Some new) = step old.held new.held

-- the step that changes nothing
abbrev pub SameBytes : List ℕ → List ℕ → Type 0
SameBytes old new = new ≡ old

-- the name is as much on the disk as it was
abbrev pub KeepsName : Option FileState → Option FileState → Type 0
KeepsName None None = Unit {0}
KeepsName None (Some new) = ⊥
KeepsName (Some old) None = ⊥
KeepsName (Some old) (Some new) = new.is_named ≡ old.is_named
