-- The live area of a disk, by its number, its generation and the gate behind its batches.
use Rattle.std.specs.Prelude.{◌≡◌, ℕ, ◌<◌, ◌≤◌, [], ◌∷◌, length, take, drop, true, false}
use Rattle.disk_trait.specs.declared.area.Area.{Area}
use Rattle.disk_trait.specs.Areas.{Areas, area_of, other_area}
use Rattle.gate_areas.specs.Sealed.{is_open, sealed_of, CLOSED}
use Rattle.gate_areas.specs.Fronts.{IsFront, batches_before}
use Rattle.gate_areas.specs.Found.{Live, found_of, counts_for_nothing}

-- Whole batches stand before the gate, whatever stands from it on.
pub record HasFront (area : Area) (generation gate : ℕ) (areas : Areas) : Type 0 where
  pub front : IsFront generation gate (take gate (area_of area areas)) (batches_before gate (area_of area areas))
  pub within : gate ≤ length (area_of area areas)

-- The area is the live one, and its batches end at a gate that isn't open. The other area counts for nothing.
pub record IsLive (area : Area) (generation gate : ℕ) (areas : Areas) : Type 0 where
  pub front : IsFront generation gate (take gate (area_of area areas)) (batches_before gate (area_of area areas))
  pub within : gate < length (area_of area areas)
  pub shut : is_open (drop gate (area_of area areas)) ≡ false
  pub alone : counts_for_nothing generation (sealed_of (area_of (other_area area) areas)) ≡ true
  pub found : found_of areas ≡ Live area generation (batches_before gate (area_of area areas))

-- The live area is at rest: its gate is closed, and is its last byte.
pub record AtRest (area : Area) (generation gate : ℕ) (areas : Areas) : Type 0 where
  pub front : IsFront generation gate (take gate (area_of area areas)) (batches_before gate (area_of area areas))
  pub within : gate ≤ length (area_of area areas)
  pub closed : drop gate (area_of area areas) ≡ CLOSED ∷ []
  pub alone : counts_for_nothing generation (sealed_of (area_of (other_area area) areas)) ≡ true
  pub found : found_of areas ≡ Live area generation (batches_before gate (area_of area areas))
