-- The bytes of a frame.
use Rattle.std.proofs.Common.{◌≡◌, ℕ, ◌+◌, ◌-◌, ◌≤◌, ◌<◌, ◌^◌, List, [], ◌∷◌, ◌++◌, length, take, drop, sym, ◌∙◌, ap, arith, length-append, length-drop}
use Rattle.std.specs.Int.{w64, to_be_bytes}
use Rattle.std.proofs.lemmas.List.{take_at, drop-append-le}
use Rattle.gate_areas.specs.Sealed.{CLOSED}
use Rattle.gate_areas.specs.Frames.{frame_of, payload_of, IsFramed}

pub frame_length : (payload : List ℕ) → length (frame_of payload) ≡ length payload + 9
frame_length payload = omega (arith, length-append (to_be_bytes w64 (length payload) ++ payload) (CLOSED ∷ []), length-append (to_be_bytes w64 (length payload)) payload)

pub payload_back : (payload : List ℕ) → payload_of (frame_of payload) ≡ payload
payload_back payload =
    let size : length (frame_of payload) - 9 ≡ length payload = omega (arith, frame_length payload) in
    ap (λ (n : ℕ). take n (payload ++ CLOSED ∷ [])) size ∙ take_at payload (CLOSED ∷ []) (length payload) (omega arith)

pub is_framed : (bytes payload : List ℕ) → bytes ≡ frame_of payload → length payload < 2 ^ 64 → IsFramed bytes
is_framed bytes payload is fits =
    let back : payload_of bytes ≡ payload = ap payload_of is ∙ payload_back payload in
    record { whole = is ∙ ap frame_of (sym back); fits = omega (arith, ap length back, fits) }

-- the length written over the room in front, and a closed gate behind
pub in_place : (old pushed front new : List ℕ) (len : ℕ) → 8 ≤ length old → len ≡ length old - 8 → pushed ≡ old ++ CLOSED ∷ [] → front ≡ to_be_bytes w64 len
    → new ≡ front ++ drop (length front) pushed → new ≡ frame_of (drop 8 old)
in_place old pushed front new len room is_len pushes spelled is =
    let size : len ≡ length (drop 8 old) = omega (arith, length-drop 8 old) in
    is ∙ ap (λ (l : List ℕ). l ++ drop (length l) pushed) (spelled ∙ ap (λ (k : ℕ). to_be_bytes w64 k) size)
    ∙ ap (λ (l : List ℕ). to_be_bytes w64 (length (drop 8 old)) ++ l) (ap (λ (l : List ℕ). drop 8 l) pushes ∙ drop-append-le 8 old (CLOSED ∷ []) room)
