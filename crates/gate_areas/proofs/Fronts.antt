-- How the front of an area is read, whatever stands behind it.
use Rattle.std.proofs.Common.{◌≡◌, ℕ, zero, suc, ◌+◌, ◌≤◌, ◌<◌, List, [], ◌∷◌, ◌++◌, length, take, drop, true, false, Result, Ok, Err, refl, sym, ◌∙◌, ap, arith, append_assoc, length-append}
use Rattle.std.proofs.lemmas.Bool.{cond-true, cond-false, lt-ltb}
use Rattle.std.proofs.lemmas.List.{append-nil, take_at, drop_at, take-append-le, drop-append-le, length-drop}
use Rattle.gate_areas.specs.Sealed.{BatchList, is_open, is_whole, spelled_number, payload_at, with_front, batches_at, opened, sealed_of, Open, OPEN}
use Rattle.std.specs.Int.{w64, from_be_bytes}
use Rattle.gate_areas.specs.Fronts.{IsFront}

-- the bytes of the batch before are passed over
pub skips : (skip place : ℕ) (bytes : List ℕ) → skip ≤ length bytes → batches_at place skip bytes ≡ batches_at (place + skip) 0 (drop skip bytes)
skips zero place bytes le = let same : place ≡ place + 0 = omega arith in ap (λ (p : ℕ). batches_at p 0 bytes) same
skips (suc skip) place [] le = absurd (omega arith)
skips (suc skip) place (byte ∷ bytes) le =
    let same : place + 1 + skip ≡ place + suc skip = omega arith in
    skips skip (place + 1) bytes (omega arith) ∙ ap (λ (p : ℕ). batches_at p 0 (drop skip bytes)) same

module _ (place gate : ℕ) (bytes : List ℕ) where
  pub at_shut : is_open (gate ∷ bytes) ≡ false → batches_at place 0 (gate ∷ bytes) ≡ Ok []
  at_shut shut = cond-false (is_open (gate ∷ bytes)) _ _ shut

  pub at_broken : is_open (gate ∷ bytes) ≡ true → is_whole bytes ≡ false → batches_at place 0 (gate ∷ bytes) ≡ Err (place + 1)
  at_broken open_gate broken = cond-true (is_open (gate ∷ bytes)) _ _ open_gate ∙ cond-false (is_whole bytes) _ _ broken

  pub at_open : is_open (gate ∷ bytes) ≡ true → 8 + spelled_number bytes < length bytes
      → batches_at place 0 (gate ∷ bytes) ≡ with_front ((place, payload_at bytes) ∷ []) (batches_at (place + 9 + spelled_number bytes) 0 (drop (8 + spelled_number bytes) bytes))
  at_open open_gate whole =
      let same : place + 1 + (8 + spelled_number bytes) ≡ place + 9 + spelled_number bytes = omega arith in
      cond-true (is_open (gate ∷ bytes)) _ _ open_gate
      ∙ cond-true (is_whole bytes) _ _ (lt-ltb (8 + spelled_number bytes) (length bytes) whole)
      ∙ ap (λ r. with_front ((place, payload_at bytes) ∷ []) r)
      (skips (8 + spelled_number bytes) (place + 1) bytes (omega arith) ∙ ap (λ (p : ℕ). batches_at p 0 (drop (8 + spelled_number bytes) bytes)) same)

pub with_front_twice : (front : BatchList) (batch : ℕ × List ℕ) (rest : Result BatchList ℕ) → with_front front (with_front (batch ∷ []) rest) ≡ with_front (front ++ batch ∷ []) rest
with_front_twice front batch (Ok batches) = ap (λ bs. Ok bs) (sym (append_assoc front (batch ∷ []) batches))
with_front_twice front batch (Err place) = refl

is_open_more : (bytes tail : List ℕ) → 0 < length tail → is_open (OPEN ∷ bytes ++ tail) ≡ true
is_open_more [] [] some = absurd (omega arith)
is_open_more [] (t ∷ tail) some = refl
is_open_more (b ∷ bytes) tail some = refl

pub number_front : (bytes tail : List ℕ) → 8 ≤ length bytes → spelled_number (bytes ++ tail) ≡ spelled_number bytes
unfolding spelled_number
number_front bytes tail le = ap (λ (l : List ℕ). from_be_bytes w64 l) (take-append-le 8 bytes tail le)

-- a front with one batch more
pub grown : (generation place : ℕ) (front : List ℕ) (batches : BatchList) (bytes : List ℕ) → IsFront generation place front batches
    → length bytes ≡ 8 + spelled_number bytes → IsFront generation (place + 9 + spelled_number bytes) (front ++ OPEN ∷ bytes) (batches ++ (place, drop 8 bytes) ∷ [])
grown generation place front batches bytes is_front long = λ gate rest.
    let n = spelled_number bytes in
    let all = bytes ++ gate ∷ rest in
    let number : spelled_number all ≡ n = number_front bytes (gate ∷ rest) (omega (arith, long)) in
    let size : length all ≡ 8 + n + suc (length rest) = omega (arith, long, length-append bytes (gate ∷ rest)) in
    let back : drop (8 + spelled_number all) all ≡ gate ∷ rest = ap (λ (k : ℕ). drop (8 + k) all) number ∙ drop_at bytes (gate ∷ rest) (8 + n) long in
    let payload : payload_at all ≡ drop 8 bytes =
    ap (λ (k : ℕ). take k (drop 8 all)) number ∙ ap (λ (l : List ℕ). take n l) (drop-append-le 8 bytes (gate ∷ rest) (omega (arith, long)))
    ∙ take_at (drop 8 bytes) (gate ∷ rest) n (omega (arith, long, length-drop 8 bytes)) in
    ap sealed_of (append_assoc front (OPEN ∷ bytes) (gate ∷ rest))
    ∙ is_front OPEN all
    ∙ ap (λ r. opened generation (with_front batches r))
    (at_open place OPEN all (is_open_more bytes (gate ∷ rest) (omega arith)) (omega (arith, number, size))
    ∙ ap (λ (p : List ℕ). with_front ((place, p) ∷ []) (batches_at (place + 9 + spelled_number all) 0 (drop (8 + spelled_number all) all))) payload
    ∙ ap (λ (l : List ℕ). with_front ((place, drop 8 bytes) ∷ []) (batches_at (place + 9 + spelled_number all) 0 l)) back
    ∙ ap (λ (k : ℕ). with_front ((place, drop 8 bytes) ∷ []) (batches_at (place + 9 + k) 0 (gate ∷ rest))) number)
    ∙ ap (λ r. opened generation r) (with_front_twice batches (place, drop 8 bytes) (batches_at (place + 9 + n) 0 (gate ∷ rest)))

-- a front, and a gate that isn't open
pub shut_front : (generation place gate : ℕ) (front rest : List ℕ) (batches : BatchList) → IsFront generation place front batches
    → is_open (gate ∷ rest) ≡ false → sealed_of (front ++ gate ∷ rest) ≡ Open generation batches
shut_front generation place gate front rest batches is_front shut =
    is_front gate rest ∙ ap (λ r. opened generation (with_front batches r)) (at_shut place gate rest shut) ∙ ap (λ (bs : BatchList). Open generation bs) (append-nil batches)
