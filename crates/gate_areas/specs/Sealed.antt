-- What the bytes of an area stand for: a head, and batches behind gates, up to the first gate that isn't open.
use Rattle.std.specs.Prelude.{ℕ, zero, suc, ◌+◌, List, [], ◌∷◌, ◌++◌, length, take, drop, Bool, false, ◌||◌, if◌then◌else◌, ◌==◌, nat_lt, Result, Ok, Err}
use Rattle.std.specs.Int.{w64, from_be_bytes, to_be_bytes}
use Rattle.std.specs.Str.{bytes_eq}

-- batches in their order, each with the place of its gate
abbrev pub BatchList : Type 0
BatchList = List (ℕ × List ℕ)

-- a closed gate, as it is written, and an open one
abbrev pub CLOSED : ℕ
CLOSED = 0x00

abbrev pub OPEN : ℕ
OPEN = 0xa5

-- Whether the gate at the head of these bytes is open: it is the byte a5, and not the last byte of its area.
abbrev pub is_open : List ℕ → Bool
is_open [] = false
is_open (gate ∷ []) = false
is_open (gate ∷ next ∷ rest) = gate == 0xa5

-- the number that the first eight bytes spell, the highest first
unfoldable pub spelled_number : List ℕ → ℕ
spelled_number bytes = from_be_bytes w64 (take 8 bytes)

-- Whether the bytes behind a gate are a whole length, a payload so long, and one byte more at least.
abbrev pub is_whole : List ℕ → Bool
is_whole bytes = nat_lt (8 + spelled_number bytes) (length bytes)

-- the payload behind a gate
abbrev pub payload_at : List ℕ → List ℕ
payload_at bytes = take (spelled_number bytes) (drop 8 bytes)

-- batches, and then what is read behind them
abbrev pub with_front : BatchList → Result BatchList ℕ → Result BatchList ℕ
with_front front (Ok batches) = Ok (front ++ batches)
with_front front (Err place) = Err place

-- The batches from a place on, up to the first gate that isn't open; or the place where the first fault lies. The next
-- `skip` bytes belong to the batch before, so the gate stands behind them.
abbrev pub batches_at : (place skip : ℕ) → List ℕ → Result BatchList ℕ
batches_at place skip [] = Err place
batches_at place (suc skip) (byte ∷ bytes) = batches_at (place + 1) skip bytes
batches_at place zero (gate ∷ bytes) =
    if is_open (gate ∷ bytes) then (if is_whole bytes then with_front ((place, payload_at bytes) ∷ []) (batches_at (place + 1) (8 + spelled_number bytes) bytes) else Err (place + 1)) else Ok []

-- what an area stands for
pub data Sealed : Type 0 where
  -- it is empty, or its head gate isn't open
  Blank : Sealed
  -- a generation, and its batches
  Open : ℕ → BatchList → Sealed
  -- a fault, at the first place that has one
  Fault : ℕ → Sealed

abbrev pub opened : ℕ → Result BatchList ℕ → Sealed
opened generation (Ok batches) = Open generation batches
opened generation (Err place) = Fault place

-- the magic, `IDBLOG01`
abbrev pub MAGIC : List ℕ
MAGIC = 0x49 ∷ 0x44 ∷ 0x42 ∷ 0x4c ∷ 0x4f ∷ 0x47 ∷ 0x30 ∷ 0x31 ∷ []

-- what stands behind an open head gate: the magic, the generation, and the batches
abbrev pub behind_head : List ℕ → Sealed
behind_head bytes =
    let rest = drop 8 bytes in
    if bytes_eq (take 8 bytes) MAGIC then (if nat_lt (length rest) 8 || (spelled_number rest == 0) then Fault 9 else opened (spelled_number rest) (batches_at 17 0 (drop 8 rest))) else Fault 1

-- what the bytes of an area stand for
abbrev pub sealed_of : List ℕ → Sealed
sealed_of bytes = if is_open bytes then behind_head (drop 1 bytes) else Blank

-- what stands behind the head gate of an area: the magic, the generation, the first gate, and the bytes behind that
unfoldable pub area_text : (generation gate : ℕ) → List ℕ → List ℕ
area_text generation gate rest = MAGIC ++ to_be_bytes w64 generation ++ gate ∷ rest
