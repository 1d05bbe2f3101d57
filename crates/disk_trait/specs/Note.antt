-- A note behind a gate: the least thing that is either there or not, whenever the disk stops.
use Rattle.std.specs.Prelude.{◌≡◌, ◌⊎◌, ℕ, List, [], ◌∷◌, Option, Some, None, if◌then◌else◌, ◌==◌}
use Rattle.disk_trait.specs.declared.area.Area.{Area}
use Rattle.disk_trait.specs.Areas.{Areas, area_of}

-- the bytes behind an open gate, which is the byte a5; no note behind any other
abbrev pub note_in : List ℕ → Option (List ℕ)
note_in [] = None
note_in (gate ∷ rest) = if gate == 165 then Some rest else None

-- the note of an area
abbrev pub note_of : Area → Areas → Option (List ℕ)
note_of area areas = note_in (area_of area areas)

-- there is no note in the area, or it is this one, whole
abbrev pub IsNoneOr : Area → List ℕ → Areas → Type 0
IsNoneOr area note areas = (note_of area areas ≡ None) ⊎ (note_of area areas ≡ Some note)
