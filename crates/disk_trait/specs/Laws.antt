-- What follows from the calls of a disk in memory, over all of them.
use Rattle.std.specs.Prelude.{◌≡◌, ℕ, ◌+◌, List, [], ◌∷◌, ◌++◌, length, take, drop}
use Rattle.disk_trait.specs.declared.area.Area.{Area}
use Rattle.disk_trait.specs.declared.plan.Image.{Image}
use Rattle.disk_trait.specs.declared.plan.Image.TheVariants.{Kept, Dropped}
use Rattle.disk_trait.specs.Areas.{Areas, area_of, other_area}
use Rattle.disk_trait.specs.Disk.{SameImages}
use Rattle.disk_trait.specs.Memory.{Change, standing, MayLeave}
use Rattle.disk_trait.specs.Memory.Change.{Wrote, Missed, WasCut, Synced, Restarted}

-- Two disks whose reads were the same when each area was last synced, and that made the same changes since, have the
-- same images.
abbrev pub SameSinceSync : Type 0
SameSinceSync = (image : Image) (area : Area) (since first second : List Change) → (standing image first).reads ≡ (standing image second).reads
    → SameImages (MayLeave image (since ++ Synced (other_area area) ∷ Synced area ∷ first)) (MayLeave image (since ++ Synced (other_area area) ∷ Synced area ∷ second))

-- none of the changes writes or cuts this area
abbrev pub LeavesAlone : Area → List Change → Type 0
LeavesAlone area [] = Unit {0}
LeavesAlone area (Wrote on from bytes ∷ earlier) = (on ≡ other_area area) × LeavesAlone area earlier
LeavesAlone area (Missed on from n ∷ earlier) = (on ≡ other_area area) × LeavesAlone area earlier
LeavesAlone area (WasCut on len ∷ earlier) = (on ≡ other_area area) × LeavesAlone area earlier
LeavesAlone area (Synced on ∷ earlier) = LeavesAlone area earlier
LeavesAlone area (Restarted ∷ earlier) = LeavesAlone area earlier

-- After a sync of an area, and as long as only the other one is changed, each image has it as reads give it.
abbrev pub PinnedBySync : Type 0
PinnedBySync = (image : Image) (area : Area) (since earlier : List Change) → LeavesAlone area since
    → (areas : Areas) → MayLeave image (since ++ Synced area ∷ earlier) areas
    → area_of area areas ≡ area_of area (standing image (since ++ Synced area ∷ earlier)).reads

-- none of the changes is a sync or a restart
abbrev pub AreUnsynced : List Change → Type 0
AreUnsynced [] = Unit {0}
AreUnsynced (Wrote on from bytes ∷ earlier) = AreUnsynced earlier
AreUnsynced (Missed on from n ∷ earlier) = AreUnsynced earlier
AreUnsynced (WasCut on len ∷ earlier) = AreUnsynced earlier
AreUnsynced (Synced on ∷ earlier) = ⊥
AreUnsynced (Restarted ∷ earlier) = ⊥

-- the image Kept is what reads give
abbrev pub KeptIsRead : Type 0
KeptIsRead = (history : List Change) → (standing Kept history).picked ≡ (standing Kept history).reads

-- the image Dropped is that of the last sync
abbrev pub DroppedIsSynced : Type 0
DroppedIsSynced = (since earlier : List Change) → AreUnsynced since → (standing Dropped (since ++ earlier)).picked ≡ (standing Dropped earlier).picked

-- outside a range of n bytes all is as before, and so is the length
pub record SameOutside (from n : ℕ) (old new : List ℕ) : Type 0 where
  pub before : take from new ≡ take from old
  pub after : drop (from + n) new ≡ drop (from + n) old
  pub length_stays : length new ≡ length old
