-- What a log holds, as one partial value, and what is found of an image beside it.
use Rattle.std.specs.Prelude.{◌≡◌, ◌⊎◌, ℕ, ◌+◌, List, [], ◌∷◌, ◌++◌, Option, Some}
use Rattle.std.specs.Option.{option_map, ForSome}
use Rattle.disk_trait.specs.declared.area.Area.{Area}
use Rattle.disk_trait.specs.Areas.{Areas, area_of, other_area}
use Rattle.disk_trait.specs.Disk.{DiskView, EachImage}
use Rattle.gate_areas.specs.Sealed.{BatchList}
use Rattle.gate_areas.specs.Found.{Found, Live, found_of}
use Rattle.gate_areas.specs.LiveBatches.{live_batches, live_found}
use Rattle.gate_areas.specs.declared.live.LiveArea.{LiveArea}

-- the batches of a live area of a disk; None: the disk tells nothing of its content
abbrev pub batches_told : DiskView → LiveArea → Option BatchList
batches_told disk live = option_map (live_batches live) disk.reads

-- this content with one batch more
abbrev pub with_batch : ℕ × List ℕ → Option BatchList → Option BatchList
with_batch batch content = option_map (λ batches. batches ++ batch ∷ []) content

-- these are the batches, where the disk tells its content
abbrev pub HasBatches : Option BatchList → BatchList → Type 0
HasBatches content batches = ForSome content (λ told. told ≡ batches)

-- what is found where this area is live, with this content
abbrev pub found_told : LiveArea → Option BatchList → Option Found
found_told live content = option_map (live_found live) content

-- what is found after a switch: the other area is live, of the next generation, with one batch
abbrev pub switched_found : LiveArea → List ℕ → Found
switched_found live first = Live (other_area live.area) (live.generation + 1) ((17, first) ∷ [])

-- an image is found as this area with this content
abbrev pub IsFoundAs : LiveArea → Option BatchList → Areas → Type 0
IsFoundAs live content image = found_told live content ≡ Some (found_of image)

-- an image is found as this area with this content, or as something else
abbrev pub IsFoundAsOr : LiveArea → Option BatchList → Option Found → Areas → Type 0
IsFoundAsOr live content other image = IsFoundAs live content image ⊎ (other ≡ Some (found_of image))

-- an image is found as this area with this content, or with one batch more
abbrev pub IsBeforeOrAfter : LiveArea → Option BatchList → ℕ × List ℕ → Areas → Type 0
IsBeforeOrAfter live content batch image = IsFoundAsOr live content (found_told live (with_batch batch content)) image

-- Each image is found as this area with the content that its disk tells, or all those that aren't as one thing more.
abbrev pub IsInDoubt : DiskView → LiveArea → Type 0
IsInDoubt disk live = ∥ ((other : Option Found) × EachImage disk (IsFoundAsOr live (batches_told disk live) other)) ∥₁

-- the bytes of this area stay as they were
abbrev pub AreaStays : Area → (before after : Areas) → Type 0
AreaStays area before after = area_of area after ≡ area_of area before
