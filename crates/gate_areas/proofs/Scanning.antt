-- What the bytes that were read say of an area that ends, as far as it is read, with one byte more.
use Rattle.std.proofs.Common.{◌≡◌, ℕ, ◌+◌, ◌-◌, ◌≤◌, ◌<◌, min, List, [], ◌∷◌, ◌++◌, length, get_or, take, drop, true, false, eqb, refl, sym, ◌∙◌, ap, arith, length-append}
use Rattle.std.specs.Int.{w64, from_be_bytes}
use Rattle.std.proofs.lemmas.Bool.{le-ltb, eq-eqb, ne_eqb}
use Rattle.std.proofs.lemmas.List.{drop_at, take-take, take-append-le, drop-append-le, drop-take, drop-drop, length-take-le, length-drop}
use Rattle.gate_areas.specs.Sealed.{is_open, is_whole, spelled_number, OPEN}

-- the number behind some bytes
pub number_is : (bytes eight : List ℕ) → eight ≡ take 8 bytes → spelled_number bytes ≡ from_be_bytes w64 eight
unfolding spelled_number
number_is bytes eight is = ap (λ (l : List ℕ). from_be_bytes w64 l) (sym is)

pub open_by : (ys buf : List ℕ) → 2 ≤ length ys → buf ≡ take 1 ys → is_open ys ≡ eqb (get_or buf 0 0) OPEN
open_by [] buf long is = absurd (omega arith)
open_by (y ∷ []) buf long is = absurd (omega arith)
open_by (y ∷ z ∷ ys) buf long is = ap (λ (l : List ℕ). eqb (get_or l 0 0) OPEN) (sym is)

module _ (bytes : List ℕ) (place end last : ℕ) (le : place ≤ end) (within : end ≤ length bytes) where
  size : length (take end bytes) ≡ end
  size = length-take-le end bytes within

  seen : drop place (take end bytes ++ last ∷ []) ≡ take (end - place) (drop place bytes) ++ last ∷ []
  seen =
      let split : place + (end - place) ≡ end = omega arith in
      drop-append-le place (take end bytes) (last ∷ []) (omega (arith, size))
      ∙ ap (λ (l : List ℕ). drop place l ++ last ∷ []) (ap (λ (k : ℕ). take k bytes) (sym split))
      ∙ ap (λ (l : List ℕ). l ++ last ∷ []) (drop-take place (end - place) bytes)

  pub rest_length : length (drop place (take end bytes ++ last ∷ [])) ≡ end - place + 1
  rest_length = omega (arith, length-drop place (take end bytes ++ last ∷ []), length-append (take end bytes) (last ∷ []), size)

  -- what is read before the end is there
  pub peek : (k : ℕ) → place + k ≤ end → take k (drop place (take end bytes ++ last ∷ [])) ≡ take k (drop place bytes)
  peek k fits =
      let enough : length (take (end - place) (drop place bytes)) ≡ end - place = length-take-le (end - place) (drop place bytes) (omega (arith, length-drop place bytes)) in
      ap (λ (l : List ℕ). take k l) seen
      ∙ take-append-le k (take (end - place) (drop place bytes)) (last ∷ []) (omega (arith, enough))
      ∙ take-take k (end - place) (drop place bytes) (omega arith)

  pub at_end : place ≡ end → is_open (drop place (take end bytes ++ last ∷ [])) ≡ false
  at_end is = ap (λ (k : ℕ). is_open (drop k (take end bytes ++ last ∷ []))) is ∙ ap is_open (drop_at (take end bytes) (last ∷ []) end size)

  module _ (before : place < end) (buf : List ℕ) (read : buf ≡ take 1 (drop place bytes)) where
    gate_is : is_open (drop place (take end bytes ++ last ∷ [])) ≡ eqb (get_or buf 0 0) OPEN
    gate_is = open_by (drop place (take end bytes ++ last ∷ [])) buf (omega (arith, rest_length)) (read ∙ sym (peek 1 (omega arith)))

    pub gate_shut : (get_or buf 0 0 ≡ OPEN → ⊥) → is_open (drop place (take end bytes ++ last ∷ [])) ≡ false
    gate_shut other = gate_is ∙ ne_eqb (get_or buf 0 0) OPEN other

    pub gate_open : get_or buf 0 0 ≡ OPEN → is_open (drop place (take end bytes ++ last ∷ [])) ≡ true
    gate_open is = gate_is ∙ eq-eqb (get_or buf 0 0) OPEN is

  behind_length : length (drop 1 (drop place (take end bytes ++ last ∷ []))) ≡ end - place
  behind_length = omega (arith, length-drop 1 (drop place (take end bytes ++ last ∷ [])), rest_length)

  -- too few bytes are left for a length and one byte more
  pub too_short : end - place < 9 → is_whole (drop 1 (drop place (take end bytes ++ last ∷ []))) ≡ false
  too_short short = le-ltb (8 + spelled_number (drop 1 (drop place (take end bytes ++ last ∷ [])))) (length (drop 1 (drop place (take end bytes ++ last ∷ [])))) (omega (arith, behind_length))

  module _ (room : place + 9 ≤ end) (eight : List ℕ) (read : eight ≡ take 8 (drop (place + 1) bytes)) where
    pub number_behind : spelled_number (drop 1 (drop place (take end bytes ++ last ∷ []))) ≡ from_be_bytes w64 eight
    number_behind = number_is (drop 1 (drop place (take end bytes ++ last ∷ []))) eight
        (read ∙ ap (λ (l : List ℕ). take 8 l) (sym (drop-drop 1 place bytes)) ∙ sym (drop-take 1 8 (drop place bytes))
        ∙ ap (λ (l : List ℕ). drop 1 l) (sym (peek 9 room)) ∙ drop-take 1 8 (drop place (take end bytes ++ last ∷ [])))

    pub too_long : end - place - 9 < from_be_bytes w64 eight → is_whole (drop 1 (drop place (take end bytes ++ last ∷ []))) ≡ false
    too_long long = le-ltb (8 + spelled_number (drop 1 (drop place (take end bytes ++ last ∷ [])))) (length (drop 1 (drop place (take end bytes ++ last ∷ [])))) (omega (arith, behind_length, number_behind))

    pub long_enough : from_be_bytes w64 eight ≤ end - place - 9 → 8 + from_be_bytes w64 eight < length (drop 1 (drop place (take end bytes ++ last ∷ [])))
    long_enough fits = omega (arith, behind_length, number_behind)

-- the front of what is read at a gate
pub first_byte : (l : List ℕ) → get_or (take 1 l) 0 0 ≡ get_or l 0 0
first_byte [] = refl
first_byte (x ∷ l) = refl

pub front_one : (n : ℕ) (rest front : List ℕ) → 1 ≤ n → front ≡ take n rest → take 1 front ≡ take 1 rest
front_one n rest front some is = ap (λ (l : List ℕ). take 1 l) is ∙ take-take 1 n rest some

pub front_eight : (place : ℕ) (bytes front : List ℕ) → front ≡ take 9 (drop place bytes) → take 8 (drop 1 front) ≡ take 8 (drop (place + 1) bytes)
front_eight place bytes front is =
    ap (λ (l : List ℕ). take 8 (drop 1 l)) is ∙ ap (λ (l : List ℕ). take 8 l) (drop-take 1 8 (drop place bytes))
    ∙ take-take 8 8 (drop 1 (drop place bytes)) (omega arith) ∙ ap (λ (l : List ℕ). take 8 l) (drop-drop 1 place bytes)

module _ (bytes front : List ℕ) (place end last : ℕ) (le : place ≤ end) (within : end ≤ length bytes) (read : front ≡ take (min (end - place) 9) (drop place bytes)) where
  pub open_here : place < end → get_or front 0 0 ≡ OPEN → is_open (drop place (take end bytes ++ last ∷ [])) ≡ true
  open_here before is = gate_open bytes place end last le within before (take 1 front)
      (front_one (min (end - place) 9) (drop place bytes) front (omega arith) read) (first_byte front ∙ is)

  eight_here : place + 9 ≤ end → (eight : List ℕ) → eight ≡ take 8 (drop 1 front) → eight ≡ take 8 (drop (place + 1) bytes)
  eight_here room eight is =
      let nine : min (end - place) 9 ≡ 9 = omega arith in
      is ∙ front_eight place bytes front (read ∙ ap (λ (n : ℕ). take n (drop place bytes)) nine)

  pub broken_here : place + 9 ≤ end → (eight : List ℕ) → eight ≡ take 8 (drop 1 front) → end - place - 9 < from_be_bytes w64 eight
      → is_whole (drop 1 (drop place (take end bytes ++ last ∷ []))) ≡ false
  broken_here room eight is long = too_long bytes place end last le within room eight (eight_here room eight is) long

  pub whole_here : place + 9 ≤ end → (eight : List ℕ) → eight ≡ take 8 (drop 1 front) → from_be_bytes w64 eight ≤ end - place - 9
      → (spelled_number (drop 1 (drop place (take end bytes ++ last ∷ []))) ≡ from_be_bytes w64 eight)
      × (8 + from_be_bytes w64 eight < length (drop 1 (drop place (take end bytes ++ last ∷ []))))
  whole_here room eight is fits = (
    number_behind bytes place end last le within room eight (eight_here room eight is),
    long_enough bytes place end last le within room eight (eight_here room eight is) fits,
  )
