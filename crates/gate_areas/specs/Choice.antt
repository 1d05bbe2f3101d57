-- What two areas make together.
use Rattle.std.specs.Prelude.{◌≡◌, ℕ, true}
use Rattle.disk_trait.specs.declared.area.Area.{Area}
use Rattle.disk_trait.specs.Areas.{Areas, area_of, other_area}
use Rattle.gate_areas.specs.Found.{Nothing, Damaged, found_of, counts_for_nothing}
use Rattle.gate_areas.specs.Sealed.{sealed_of}
use Rattle.gate_areas.specs.LiveBatches.{Lives}
use Rattle.gate_areas.specs.Scan.{EndsAt, IsGatePlace}
use Rattle.gate_areas.specs.declared.choose.Choice.{Choice}
use Rattle.gate_areas.specs.declared.choose.Choice.TheVariants as choice

-- what was chosen of these areas
abbrev pub ChoiceIs : Choice → Areas → Type 0
ChoiceIs choice.New areas = found_of areas ≡ Nothing
ChoiceIs (choice.Live live) areas = Lives live areas
ChoiceIs (choice.Damaged area place) areas = found_of areas ≡ Damaged area place

-- the same, by the bytes of the live area and what the other counts for
abbrev pub ChoiceEnds : Choice → Areas → Type 0
ChoiceEnds choice.New areas = found_of areas ≡ Nothing
ChoiceEnds (choice.Live live) areas =
    EndsAt live.generation live.gate (area_of live.area areas) × (counts_for_nothing live.generation (sealed_of (area_of (other_area live.area) areas)) ≡ true)
ChoiceEnds (choice.Damaged area place) areas = found_of areas ≡ Damaged area place

-- the gate of the live area is within it
abbrev pub ChoiceFits : Choice → (Area → ℕ) → Type 0
ChoiceFits choice.New length_of = Unit {0}
ChoiceFits (choice.Live live) length_of = IsGatePlace live.gate (length_of live.area)
ChoiceFits (choice.Damaged area place) length_of = Unit {0}
