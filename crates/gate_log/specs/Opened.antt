-- A log as it was opened on what reads gave.
use Rattle.std.specs.Prelude.{◌≡◌, ◌⊎◌, [], None}
use Rattle.disk_trait.specs.declared.area.Area.TheVariants.{Zero}
use Rattle.disk_trait.specs.Areas.{Areas, area_of, other_area}
use Rattle.disk_trait.specs.Disk.{DiskView, WhereTold}
use Rattle.gate_areas.specs.Sealed.{BatchList}
use Rattle.gate_areas.specs.Found.{Found, Nothing, Live, Damaged, found_of}
use Rattle.gate_areas.specs.LiveBatches.{EndBy}
use Rattle.gate_areas.specs.declared.live.LiveArea.{LiveArea}
use Rattle.gate_log.specs.Content.{batches_told, HasBatches}
use Rattle.gate_log.specs.Kept.{IsKept}

-- The live area and its batches were found, or nothing was, and then a new log is in area 0, with generation 1.
abbrev pub FoundAs : LiveArea → BatchList → Found → Type 0
FoundAs live batches Nothing = (live.area ≡ Zero) × (live.generation ≡ 1) × (batches ≡ [])
FoundAs live batches (Live area generation found) = (live.area ≡ area) × (live.generation ≡ generation) × (batches ≡ found)
FoundAs live batches (Damaged area place) = ⊥

-- A log as it was opened: what it keeps of the disk now, its batches, and what was found before.
pub record IsOpened (old new : DiskView) (live : LiveArea) (batches : BatchList) : Type 0 where
  pub kept : IsKept new live None
  pub bounded : EndBy live.gate batches
  pub has : HasBatches (batches_told new live) batches
  pub found : WhereTold old (λ areas. FoundAs live batches (found_of areas))

-- The area that isn't live stays as it was; where nothing was found, area 1; where the areas are damaged, both.
abbrev pub OtherStays : Found → (before after : Areas) → Type 0
OtherStays Nothing before after = after.one ≡ before.one
OtherStays (Live area generation batches) before after = area_of (other_area area) after ≡ area_of (other_area area) before
OtherStays (Damaged area place) before after = after ≡ before

-- What a load leaves at any moment from its syncs on: the same is found as before; or nothing was, and now the empty log
-- of area 0. The area that isn't live stays as it was.
pub record SameFound (before after : Areas) : Type 0 where
  pub found : (found_of after ≡ found_of before) ⊎ ((found_of before ≡ Nothing) × (found_of after ≡ Live Zero 1 []))
  pub elsewhere : OtherStays (found_of before) before after

-- an image from before, or one that has P
abbrev pub IsOldOr : DiskView → (Areas → Type 0) → Areas → Type 0
IsOldOr old P image = old.may_leave image ⊎ P image
