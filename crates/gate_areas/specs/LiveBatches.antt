-- The batches of a live area, and what the calls do to them.
use Rattle.std.specs.Prelude.{◌≡◌, ◌⊎◌, ℕ, ◌+◌, ◌*◌, ◌≤◌, List, [], ◌∷◌, ◌++◌, length, All}
use Rattle.disk_trait.specs.declared.area.Area.{Area}
use Rattle.disk_trait.specs.Areas.{Areas, area_of}
use Rattle.disk_trait.specs.Disk.{OnArea}
use Rattle.gate_areas.specs.Sealed.{BatchList}
use Rattle.gate_areas.specs.Found.{Found, Live, found_of}
use Rattle.gate_areas.specs.Fronts.{batches_before}
use Rattle.gate_areas.specs.Rest.{HasFront, IsLive, AtRest}
use Rattle.gate_areas.specs.Steps.{KeepsFront}
use Rattle.gate_areas.specs.declared.live.LiveArea.{LiveArea}

-- the batches before its gate
abbrev pub live_batches : LiveArea → Areas → BatchList
live_batches live areas = batches_before live.gate (area_of live.area areas)

-- what is found where it is live, with these batches
abbrev pub live_found : LiveArea → BatchList → Found
live_found live batches = Live live.area live.generation batches

-- Batches that end by a gate: each takes nine bytes and its payload, behind the 17 bytes of the head.
pub record EndBy (gate : ℕ) (batches : BatchList) : Type 0 where
  pub few : 17 + 9 * length batches ≤ gate
  pub each : All (λ batch. batch.0 + 9 + length batch.1 ≤ gate) batches

-- whole batches stand before its gate
abbrev pub Begins : LiveArea → Areas → Type 0
Begins live areas = HasFront live.area live.generation live.gate areas

-- it is the live area, and its gate isn't open
abbrev pub Lives : LiveArea → Areas → Type 0
Lives live areas = IsLive live.area live.generation live.gate areas

-- it is at rest: its gate is closed, and is its last byte
abbrev pub Rests : LiveArea → Areas → Type 0
Rests live areas = AtRest live.area live.generation live.gate areas

-- it was just made, here, of this generation and with this last gate
pub record IsMade (area : Area) (generation gate : ℕ) (live : LiveArea) : Type 0 where
  pub here : live.area ≡ area
  pub generation_is : live.generation ≡ generation
  pub gate_is : live.gate ≡ gate

-- it is at rest, with these batches
pub record Holds (live : LiveArea) (batches : BatchList) (areas : Areas) : Type 0 where
  pub rests : Rests live areas
  pub batches_are : live_batches live areas ≡ batches

-- its end was repaired: it is at rest, with the batches from before
pub record ComesToRest (live : LiveArea) (old new : Areas) : Type 0 where
  pub rests : Rests live new
  pub same : live_batches live new ≡ live_batches live old

-- While a batch is sealed: the area is live with the batches from before, or with these and the new one. The bytes
-- before the gate stay.
pub record SealsOne (live : LiveArea) (payload : List ℕ) (old new : Areas) : Type 0 where
  pub stands : (found_of new ≡ live_found live (live_batches live old))
      ⊎ (found_of new ≡ live_found live (live_batches live old ++ (live.gate, payload) ∷ []))
  pub stays : OnArea live.area (KeepsFront live.gate) old new

-- the same area with one batch more, behind which its gate is next
pub record IsNext (live : LiveArea) (payload : List ℕ) (next : LiveArea) : Type 0 where
  pub same_area : next.area ≡ live.area
  pub same_generation : next.generation ≡ live.generation
  pub gate : next.gate ≡ live.gate + 9 + length payload

-- one batch more stands in it, at rest
pub record AddsOne (live : LiveArea) (payload : List ℕ) (next : LiveArea) (old new : Areas) : Type 0 where
  pub rests : Rests next new
  pub more : live_batches next new ≡ live_batches live old ++ (live.gate, payload) ∷ []
