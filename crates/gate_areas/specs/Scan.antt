-- What is read of a gate, of a head and of an area, without the payloads.
use Rattle.std.specs.Prelude.{◌≡◌, ℕ, ◌+◌, ◌-◌, ◌^◌, ◌<◌, ◌≤◌, List, [], length, take, drop, true, false}
use Rattle.gate_areas.specs.Sealed.{BatchList, Blank, Open, Fault, is_open, is_whole, spelled_number, sealed_of}
use Rattle.gate_areas.specs.Fronts.{IsFront, batches_before}
use Rattle.gate_areas.specs.declared.scan.Gate.{Gate}
use Rattle.gate_areas.specs.declared.scan.Gate.TheVariants as gate
use Rattle.gate_areas.specs.declared.scan.Head.{Head}
use Rattle.gate_areas.specs.declared.scan.Head.TheVariants as head
use Rattle.gate_areas.specs.declared.scan.Scan.{Scan}
use Rattle.gate_areas.specs.declared.scan.Scan.TheVariants as scan

-- the gate at the head of these bytes
abbrev pub GateIs : Gate → List ℕ → Type 0
GateIs gate.Shut bytes = is_open bytes ≡ false
GateIs gate.Broken bytes = (is_open bytes ≡ true) × (is_whole (drop 1 bytes) ≡ false)
GateIs (gate.Open n) bytes = (is_open bytes ≡ true) × (spelled_number (drop 1 bytes) ≡ n) × (8 + n < length (drop 1 bytes))

-- a payload behind an open gate at this place ends before the end
abbrev pub GateFits : Gate → (place end : ℕ) → Type 0
GateFits gate.Shut place end = Unit {0}
GateFits gate.Broken place end = Unit {0}
GateFits (gate.Open n) place end = place + 9 + n ≤ end

-- the head of an area
abbrev pub HeadIs : Head → List ℕ → Type 0
HeadIs head.Blank bytes = sealed_of bytes ≡ Blank
HeadIs (head.Broken place) bytes = sealed_of bytes ≡ Fault place
HeadIs (head.Open generation) bytes = IsFront generation 17 (take 17 bytes) []

-- An area whose batches end at a gate that isn't open.
pub record EndsAt (generation place : ℕ) (bytes : List ℕ) : Type 0 where
  pub batches : BatchList
  pub front : IsFront generation place (take place bytes) batches
  pub headed : 17 ≤ place
  pub within : place < length bytes
  pub shut : is_open (drop place bytes) ≡ false

-- the framing of an area
abbrev pub ScanIs : Scan → List ℕ → Type 0
ScanIs scan.Blank bytes = sealed_of bytes ≡ Blank
ScanIs (scan.Broken place) bytes = sealed_of bytes ≡ Fault place
ScanIs (scan.Open generation place) bytes = EndsAt generation place bytes

-- a whole head has a first gate behind it
abbrev pub HeadFits : Head → ℕ → Type 0
HeadFits head.Blank len = Unit {0}
HeadFits (head.Broken place) len = Unit {0}
HeadFits (head.Open generation) len = 18 ≤ len

-- the place of a last gate is behind a head and within an area of this length
pub record IsGatePlace (place len : ℕ) : Type 0 where
  pub headed : 17 ≤ place
  pub within : place + 1 ≤ len
  pub limit : place + 1 ≤ 2 ^ 63 - 1

-- the first gate that isn't open is within the area
abbrev pub ScanFits : Scan → ℕ → Type 0
ScanFits scan.Blank len = Unit {0}
ScanFits (scan.Broken place) len = Unit {0}
ScanFits (scan.Open generation place) len = IsGatePlace place len

-- what an area was read as, by what its bytes stand for
abbrev pub StandsAs : Scan → List ℕ → Type 0
StandsAs scan.Blank bytes = sealed_of bytes ≡ Blank
StandsAs (scan.Broken place) bytes = sealed_of bytes ≡ Fault place
StandsAs (scan.Open generation gate) bytes = sealed_of bytes ≡ Open generation (batches_before gate bytes)
