-- The front of an area, up to a gate.
use Rattle.std.specs.Prelude.{◌≡◌, ℕ, List, [], ◌∷◌, ◌++◌, take}
use Rattle.gate_areas.specs.Sealed.{BatchList, Sealed, Blank, Open, Fault, with_front, batches_at, opened, sealed_of, CLOSED}

-- Whatever gate stands at this place behind the front, and whatever bytes follow: the front is read as these batches of
-- this generation, and then come those from the gate on.
abbrev pub IsFront : (generation place : ℕ) → List ℕ → BatchList → Type 0
IsFront generation place front batches =
    (gate : ℕ) (rest : List ℕ) → sealed_of (front ++ gate ∷ rest) ≡ opened generation (with_front batches (batches_at place 0 (gate ∷ rest)))

-- the batches of an area that stands for some
abbrev pub batches_of : Sealed → BatchList
batches_of Blank = []
batches_of (Open generation batches) = batches
batches_of (Fault place) = []

-- the batches before a gate, whatever stands from the gate on
abbrev pub batches_before : ℕ → List ℕ → BatchList
batches_before place bytes = batches_of (sealed_of (take place bytes ++ CLOSED ∷ []))
