-- A batch as it is written behind its gate.
use Rattle.std.specs.Prelude.{◌≡◌, ℕ, ◌-◌, ◌<◌, ◌^◌, List, [], ◌∷◌, ◌++◌, length, take, drop}
use Rattle.std.specs.Int.{w64, to_be_bytes}
use Rattle.gate_areas.specs.Sealed.{CLOSED}

-- the frame of a payload: its length in eight bytes, the highest first, the payload, and a closed gate
abbrev pub frame_of : List ℕ → List ℕ
frame_of payload = to_be_bytes w64 (length payload) ++ payload ++ CLOSED ∷ []

-- the payload in the bytes of a frame
abbrev pub payload_of : List ℕ → List ℕ
payload_of bytes = take (length bytes - 9) (drop 8 bytes)

-- the bytes are a frame, of a payload whose length fits in eight bytes
pub record IsFramed (bytes : List ℕ) : Type 0 where
  pub whole : bytes ≡ frame_of (payload_of bytes)
  pub fits : length (payload_of bytes) < 2 ^ 64
