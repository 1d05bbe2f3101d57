-- What the bytes of both areas stand for: the batches of the live area.
use Rattle.std.specs.Prelude.{◌≡◌, ◌⊎◌, ℕ, ◌<◌, [], Bool, true, false, Result, Ok, Err, if◌then◌else◌, ◌==◌, nat_lt}
use Rattle.disk_trait.specs.declared.area.Area.{Area}
use Rattle.disk_trait.specs.declared.area.Area.TheVariants.{Zero, One}
use Rattle.disk_trait.specs.Areas.{Areas, area_of, other_area}
use Rattle.gate_areas.specs.Sealed.{BatchList, Sealed, Blank, Open, Fault, sealed_of}

-- what the areas of a disk stand for
pub data Found : Type 0 where
  -- both are blank
  Nothing : Found
  -- the live area, with its generation and its batches
  Live : Area → ℕ → BatchList → Found
  -- the first fault: an area and a place
  Damaged : Area → ℕ → Found

-- The live area is the open one with the greater generation. A fault of area 0 comes before one of area 1, and two
-- open areas of one generation are a fault of area 1.
abbrev pub found_in : (zero one : Sealed) → Found
found_in (Fault place) one = Damaged Zero place
found_in Blank (Fault place) = Damaged One place
found_in (Open generation batches) (Fault place) = Damaged One place
found_in Blank Blank = Nothing
found_in (Open generation batches) Blank = Live Zero generation batches
found_in Blank (Open generation batches) = Live One generation batches
found_in (Open g batches) (Open h others) = if g == h then Damaged One 9 else (if nat_lt h g then Live Zero g batches else Live One h others)

abbrev pub found_of : Areas → Found
found_of areas = found_in (sealed_of areas.zero) (sealed_of areas.one)

-- the batches that were found, or the place of the fault; two blank areas stand for none
abbrev pub meaning_of : Found → Result BatchList (Area × ℕ)
meaning_of Nothing = Ok []
meaning_of (Live area generation batches) = Ok batches
meaning_of (Damaged area place) = Err (area, place)

-- the batches that the areas of a disk stand for, or the place where they are damaged
abbrev pub batches_in : Areas → Result BatchList (Area × ℕ)
batches_in areas = meaning_of (found_of areas)

-- Whether an area counts for nothing beside an open one of this generation: it is blank, or its generation is less.
abbrev pub counts_for_nothing : ℕ → Sealed → Bool
counts_for_nothing generation Blank = true
counts_for_nothing generation (Open lesser batches) = nat_lt lesser generation
counts_for_nothing generation (Fault place) = false

-- Whether a new area of this generation may take over here: nothing is found, or the other area is live, with a lesser
-- generation.
abbrev pub HasRoom : Area → ℕ → Found → Type 0
HasRoom area generation Nothing = Unit {0}
HasRoom area generation (Live live lesser batches) = (live ≡ other_area area) × (lesser < generation)
HasRoom area generation (Damaged damaged place) = ⊥

-- The same is found as before, or now this.
abbrev pub SameFoundOr : Found → (before after : Areas) → Type 0
SameFoundOr new before after = (found_of after ≡ found_of before) ⊎ (found_of after ≡ new)

-- While a new area takes over: the same is found as before, or now this. The other area stays as it was.
pub record TakesOver (area : Area) (new : Found) (before after : Areas) : Type 0 where
  pub found : SameFoundOr new before after
  pub elsewhere : area_of (other_area area) after ≡ area_of (other_area area) before

-- While the end of an area is repaired: the same is found as before, and the other area stays as it was.
pub record KeepsFound (area : Area) (before after : Areas) : Type 0 where
  pub found : found_of after ≡ found_of before
  pub elsewhere : area_of (other_area area) after ≡ area_of (other_area area) before
