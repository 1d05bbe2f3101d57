-- What the steps of a log do to the bytes of its area.
use Rattle.std.specs.Prelude.{◌≡◌, ◌⊎◌, ℕ, ◌≤◌, List, [], ◌∷◌, ◌++◌, length, take}
use Rattle.gate_areas.specs.Sealed.{Blank, sealed_of, CLOSED, OPEN}

-- While a batch is sealed: anything may stand behind the closed gate, or the whole frame behind any gate. The bytes
-- before the gate stay.
abbrev pub Sealing : (place : ℕ) → (frame old new : List ℕ) → Type 0
Sealing place frame old new =
    ((rest : List ℕ) × (new ≡ take place old ++ CLOSED ∷ rest)) ⊎ ((gate : ℕ) × (new ≡ take place old ++ gate ∷ frame))

-- The batch is sealed: its frame stands behind an open gate.
abbrev pub Seals : (place : ℕ) → (frame old new : List ℕ) → Type 0
Seals place frame old new = new ≡ take place old ++ OPEN ∷ frame

-- The bytes before a place stay as they were.
abbrev pub KeepsFront : (place : ℕ) → (old new : List ℕ) → Type 0
KeepsFront place old new = take place new ≡ take place old

-- While an area is made blank: it is as before, or at most a byte of it is left.
abbrev pub Blanking : (old new : List ℕ) → Type 0
Blanking old new = (new ≡ old) ⊎ (length new ≤ 1)

-- An area is one closed gate.
abbrev pub Blanks : (old new : List ℕ) → Type 0
Blanks old new = new ≡ CLOSED ∷ []

-- An area begins as before, and anything may stand behind that.
abbrev pub Grows : (old new : List ℕ) → Type 0
Grows old new = (rest : List ℕ) × (new ≡ old ++ rest)

-- These bytes stand behind what was there.
abbrev pub GrowsBy : List ℕ → (old new : List ℕ) → Type 0
GrowsBy bytes old new = new ≡ old ++ bytes

-- While an area is made: it is as before, or blank, or whole.
abbrev pub Making : List ℕ → (old new : List ℕ) → Type 0
Making text old new = (new ≡ old) ⊎ ((sealed_of new ≡ Blank) ⊎ (new ≡ OPEN ∷ text))

-- It is made: this text stands behind an open gate.
abbrev pub Makes : List ℕ → (old new : List ℕ) → Type 0
Makes text old new = new ≡ OPEN ∷ text

-- While the end behind the gate at a place is repaired: it is as before, or one byte is left behind the front.
abbrev pub Repairing : (place : ℕ) → (old new : List ℕ) → Type 0
Repairing place old new = (new ≡ old) ⊎ ((gate : ℕ) × (new ≡ take place old ++ gate ∷ []))

-- It is repaired: a closed gate stands behind the front, and nothing behind that.
abbrev pub Repairs : (place : ℕ) → (old new : List ℕ) → Type 0
Repairs place old new = new ≡ take place old ++ CLOSED ∷ []
