-- From gate to gate.
use Rattle.std.proofs.Common.{◌≡◌, ℕ, suc, ◌+◌, ◌-◌, ◌≤◌, ◌<◌, List, [], ◌∷◌, ◌++◌, length, get_or, take, drop, true, false, Bool, cond, Result, Ok, Err, refl, sym, ◌∙◌, ap, subst, arith, take-append-drop, length-append}
use Rattle.std.proofs.lemmas.List.{take-take, drop-drop, drop-take, drop_more, drop_all, length-take-le, append-nil}
use Rattle.std.proofs.lemmas.List.Elements.{All-weaker, All-push}
use Rattle.std.proofs.Math.Seq.{take-add}
use Rattle.gate_areas.specs.Sealed.{BatchList, Blank, Open, Fault, is_open, is_whole, spelled_number, payload_at, with_front, batches_at, opened, sealed_of, CLOSED, OPEN}
use Rattle.gate_areas.specs.Fronts.{IsFront}
use Rattle.gate_areas.specs.LiveBatches.{EndBy}
use Rattle.gate_areas.specs.Scan.{GateIs}
use Rattle.gate_areas.specs.declared.scan.Gate.{Gate}
use Rattle.gate_areas.specs.declared.scan.Gate.TheVariants as gate
use Rattle.gate_areas.proofs.Fronts.{at_shut, at_broken, at_open, grown, shut_front}
use Rattle.gate_areas.proofs.Rest.{open_is}
use Rattle.gate_areas.proofs.Scanning.{number_is}

-- all but the last byte, and the last
pub to_last : (end : ℕ) (bytes : List ℕ) → length bytes ≡ end + 1 → take end bytes ++ get_or bytes end 0 ∷ [] ≡ bytes
to_last end bytes long =
    ap (λ (l : List ℕ). take end bytes ++ get_or bytes end 0 ∷ l) (sym (drop_all (end + 1) bytes (omega (arith, long))))
    ∙ ap (λ (l : List ℕ). take end bytes ++ l) (sym (drop_more bytes end 0 (omega (arith, long))))
    ∙ take-append-drop end bytes

-- at a gate within some bytes
module _ (place : ℕ) (bytes : List ℕ) (within : place < length bytes) where
  here : drop place bytes ≡ get_or bytes place 0 ∷ drop (place + 1) bytes
  here = drop_more bytes place 0 within

  next : drop 1 (drop place bytes) ≡ drop (place + 1) bytes
  next = drop-drop 1 place bytes

  pub walk_shut : is_open (drop place bytes) ≡ false → batches_at place 0 (drop place bytes) ≡ Ok []
  walk_shut shut = ap (λ (l : List ℕ). batches_at place 0 l) here ∙ at_shut place (get_or bytes place 0) (drop (place + 1) bytes) (ap is_open (sym here) ∙ shut)

  pub walk_broken : is_open (drop place bytes) ≡ true → is_whole (drop 1 (drop place bytes)) ≡ false → batches_at place 0 (drop place bytes) ≡ Err (place + 1)
  walk_broken opens broken =
      ap (λ (l : List ℕ). batches_at place 0 l) here
      ∙ at_broken place (get_or bytes place 0) (drop (place + 1) bytes) (ap is_open (sym here) ∙ opens) (ap is_whole (sym next) ∙ broken)

  module _ (n : ℕ) (opens : is_open (drop place bytes) ≡ true) (number : spelled_number (drop 1 (drop place bytes)) ≡ n) (whole : 8 + n < length (drop 1 (drop place bytes))) where
    number_next : spelled_number (drop (place + 1) bytes) ≡ n
    number_next = ap spelled_number (sym next) ∙ number

    pub walk_open : batches_at place 0 (drop place bytes) ≡ with_front ((place, take n (drop (place + 9) bytes)) ∷ []) (batches_at (place + (9 + n)) 0 (drop (place + (9 + n)) bytes))
    walk_open =
        let rest = drop (place + 1) bytes in
        let payload : payload_at rest ≡ take n (drop (place + 9) bytes) =
        ap (λ (k : ℕ). take k (drop 8 rest)) number_next ∙ ap (λ (l : List ℕ). take n l) (drop-drop 8 (place + 1) bytes ∙ ap (λ (k : ℕ). drop k bytes) (omega arith)) in
        let after : drop (8 + spelled_number rest) rest ≡ drop (place + (9 + n)) bytes =
        drop-drop (8 + spelled_number rest) (place + 1) bytes ∙ ap (λ (k : ℕ). drop k bytes) (omega (arith, number_next)) in
        let at : place + 9 + spelled_number rest ≡ place + (9 + n) = omega (arith, number_next) in
        ap (λ (l : List ℕ). batches_at place 0 l) here
        ∙ at_open place (get_or bytes place 0) rest (ap is_open (sym here) ∙ opens) (omega (arith, number_next, ap length next, whole))
        ∙ ap (λ (p : List ℕ). with_front ((place, p) ∷ []) (batches_at (place + 9 + spelled_number rest) 0 (drop (8 + spelled_number rest) rest))) payload
        ∙ ap (λ (l : List ℕ). with_front ((place, take n (drop (place + 9) bytes)) ∷ []) (batches_at (place + 9 + spelled_number rest) 0 l)) after
        ∙ ap (λ (k : ℕ). with_front ((place, take n (drop (place + 9) bytes)) ∷ []) (batches_at k 0 (drop (place + (9 + n)) bytes))) at

    pub front_on : (generation : ℕ) (batches : BatchList) → IsFront generation place (take place bytes) batches
        → IsFront generation (place + (9 + n)) (take (place + (9 + n)) bytes) (batches ++ (place, drop 8 (take (8 + n) (drop (place + 1) bytes))) ∷ [])
    front_on generation batches front =
        let rest = drop (place + 1) bytes in
        let body = take (8 + n) rest in
        let room : 8 + n ≤ length rest = omega (arith, ap length next, whole) in
        let body_number : spelled_number body ≡ n =
        number_is body (take 8 rest) (sym (take-take 8 (8 + n) rest (omega arith))) ∙ sym (number_is rest (take 8 rest) refl) ∙ number_next in
        let at : place + 9 + spelled_number body ≡ place + (9 + n) = omega (arith, body_number) in
        let is : take (place + (9 + n)) bytes ≡ take place bytes ++ OPEN ∷ body =
        take-add place (9 + n) bytes ∙ ap (λ (l : List ℕ). take place bytes ++ take (9 + n) l) here
        ∙ ap (λ (k : ℕ). take place bytes ++ take k (get_or bytes place 0 ∷ rest)) (nine_more n)
        ∙ ap (λ (k : ℕ). take place bytes ++ k ∷ body) (open_is (get_or bytes place 0) rest (ap is_open (sym here) ∙ opens)) in
        subst (λ (l : List ℕ). IsFront generation (place + (9 + n)) l (batches ++ (place, drop 8 body) ∷ [])) (sym is)
        (subst (λ (k : ℕ). IsFront generation k (take place bytes ++ OPEN ∷ body) (batches ++ (place, drop 8 body) ∷ [])) at
        (grown generation place (take place bytes) batches body front (length-take-le (8 + n) rest room ∙ ap (λ (k : ℕ). 8 + k) (sym body_number))))
      where
        nine_more : (n : ℕ) → 9 + n ≡ suc (8 + n)
        nine_more n = omega arith

  pub broken_fault : (generation : ℕ) (batches : BatchList) → IsFront generation place (take place bytes) batches
      → is_open (drop place bytes) ≡ true → is_whole (drop 1 (drop place bytes)) ≡ false → sealed_of bytes ≡ Fault (place + 1)
  broken_fault generation batches front opens broken =
      let rest = drop (place + 1) bytes in
      ap sealed_of (sym (take-append-drop place bytes) ∙ ap (λ (l : List ℕ). take place bytes ++ l) here)
      ∙ front (get_or bytes place 0) rest
      ∙ ap (λ r. opened generation (with_front batches r)) (at_broken place (get_or bytes place 0) rest (ap is_open (sym here) ∙ opens) (ap is_whole (sym next) ∙ broken))

-- the batches of a front are read before its gate
pub batches_here : (generation gate : ℕ) (bytes : List ℕ) (batches : BatchList) → IsFront generation gate (take gate bytes) batches
    → batches_at 17 0 (drop 17 (take gate bytes ++ CLOSED ∷ [])) ≡ Ok batches
batches_here generation gate bytes batches front =
    opened_batches (take gate bytes ++ CLOSED ∷ []) generation batches (shut_front generation gate CLOSED (take gate bytes) [] batches front refl)
  where
    opened_ok : (n generation : ℕ) (batches : BatchList) (read : Result BatchList ℕ) → opened n read ≡ Open generation batches → read ≡ Ok batches
    opened_ok n generation batches (Ok found) is = cc
    opened_ok n generation batches (Err place) is = cc

    numbered : (fault : Bool) (n generation : ℕ) (batches : BatchList) (read : Result BatchList ℕ) → cond fault (Fault 9) (opened n read) ≡ Open generation batches → read ≡ Ok batches
    numbered true n generation batches read is = cc
    numbered false n generation batches read is = opened_ok n generation batches read is

    with_magic : (magic fault : Bool) (n generation : ℕ) (batches : BatchList) (read : Result BatchList ℕ) → cond magic (cond fault (Fault 9) (opened n read)) (Fault 1) ≡ Open generation batches → read ≡ Ok batches
    with_magic true fault n generation batches read is = numbered fault n generation batches read is
    with_magic false fault n generation batches read is = cc

    with_gate : (gate magic fault : Bool) (n generation : ℕ) (batches : BatchList) (read : Result BatchList ℕ) → cond gate (cond magic (cond fault (Fault 9) (opened n read)) (Fault 1)) Blank ≡ Open generation batches → read ≡ Ok batches
    with_gate true magic fault n generation batches read is = with_magic magic fault n generation batches read is
    with_gate false magic fault n generation batches read is = cc

    opened_batches : (bytes : List ℕ) (generation : ℕ) (batches : BatchList) → sealed_of bytes ≡ Open generation batches → batches_at 17 0 (drop 17 bytes) ≡ Ok batches
    opened_batches bytes generation batches is =
        ap (λ (l : List ℕ). batches_at 17 0 l) (sym (drop-drop 8 8 (drop 1 bytes) ∙ drop-drop 16 1 bytes))
        ∙ with_gate (is_open bytes) _ _ _ generation batches (batches_at 17 0 (drop 8 (drop 8 (drop 1 bytes)))) is

-- what was read so far, where no batch follows
pub read_all : (found batches : BatchList) (rest whole : Result BatchList ℕ) → with_front found rest ≡ whole → whole ≡ Ok batches → rest ≡ Ok [] → found ≡ batches
read_all found batches rest whole so_far all none =
    let is : ◌≡◌ {A = Result BatchList ℕ} (Ok (found ++ [])) (Ok batches) = sym (ap (λ r. with_front found r) none) ∙ so_far ∙ all in
    sym (append-nil found) ∙ ok_same (found ++ []) batches is
  where
    ok_same : (a b : BatchList) → ◌≡◌ {A = Result BatchList ℕ} (Ok a) (Ok b) → a ≡ b
    ok_same a b is = cc

-- a broken gate can't follow
pub never_broken : (found batches : BatchList) (rest whole : Result BatchList ℕ) (place : ℕ) → with_front found rest ≡ whole → whole ≡ Ok batches → rest ≡ Err place → ⊥
never_broken found batches rest whole place so_far all broken =
    let is : ◌≡◌ {A = Result BatchList ℕ} (Err place) (Ok batches) = sym (ap (λ r. with_front found r) broken) ∙ so_far ∙ all in
    differ place batches is
  where
    differ : (place : ℕ) (b : BatchList) → ◌≡◌ {A = Result BatchList ℕ} (Err place) (Ok b) → ⊥
    differ place b is = cc

-- no open gate: the batches end here
pub ends_here : (read : Gate) → ((n : ℕ) → read ≡ gate.Open n → ⊥) → (place : ℕ) (bytes : List ℕ) → place < length bytes → GateIs read (drop place bytes)
    → (found batches : BatchList) (whole : Result BatchList ℕ) → with_front found (batches_at place 0 (drop place bytes)) ≡ whole → whole ≡ Ok batches → found ≡ batches
ends_here gate.Shut not_open place bytes within is found batches whole so_far all = read_all found batches _ whole so_far all (walk_shut place bytes within is)
ends_here gate.Broken not_open place bytes within is found batches whole so_far all = absurd (never_broken found batches _ whole (place + 1) so_far all (walk_broken place bytes within is.0 is.1))
ends_here (gate.Open n) not_open place bytes within is found batches whole so_far all = absurd (not_open n refl)

-- batches that end by a gate, and one more
pub ends_later : (gate later : ℕ) (batches : BatchList) → gate ≤ later → EndBy gate batches → EndBy later batches
ends_later gate later batches le ends = record {
  few = omega (arith, ends.few);
  each = All-weaker (λ batch. batch.0 + 9 + length batch.1 ≤ gate) (λ batch. batch.0 + 9 + length batch.1 ≤ later) (λ batch fits. omega (arith, fits)) batches ends.each;
}

pub one_more : (gate place : ℕ) (payload : List ℕ) (batches more : BatchList) → more ≡ batches ++ (place, payload) ∷ [] → place + 9 + length payload ≤ gate
    → EndBy place batches → EndBy gate more
one_more gate place payload batches more is fits ends = subst (EndBy gate) (sym is) (record {
  few = omega (arith, ends.few, length-append batches ((place, payload) ∷ []));
  each = All-push (λ batch. batch.0 + 9 + length batch.1 ≤ gate) batches (place, payload) (ends_later place gate batches (omega arith) ends).each fits;
})

-- what was read behind a payload
pub read_behind : (read all : List ℕ) (from len n : ℕ) → read ≡ take (len + n) (drop from all) → length read ≡ len + n
    → take (length read - len) (drop len read) ≡ take n (drop (from + len) all)
read_behind read all from len n is long =
    let rest : length read - len ≡ n = omega (arith, long) in
    ap (λ (k : ℕ). take k (drop len read)) rest ∙ ap (λ (l : List ℕ). take n (drop len l)) is
    ∙ ap (λ (l : List ℕ). take n l) (drop-take len n (drop from all)) ∙ take-take n n (drop len (drop from all)) (omega arith)
    ∙ ap (λ (l : List ℕ). take n l) (drop-drop len from all)
