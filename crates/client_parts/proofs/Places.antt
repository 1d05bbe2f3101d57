-- Where a number stands among the transactions of a client, which stand by number.
use Rattle.std.proofs.Common.{◌≡◌, ◌≢◌, ℕ, zero, suc, ◌+◌, ◌<◌, ◌≤◌, not, Bool, true, false, List, [], ◌∷◌, length, get_or, map, filter, position, remove, Option, Some, None, cond, arith, refl, ap, sym, ◌∙◌, slice_get, slice_set, inl, inr, is_some, unwrap_or, option_map}
use Rattle.std.specs.List.{find, position_or_len}
use Rattle.std.proofs.lemmas.Bool.{ne_eqb, lt-ltb}
use Rattle.std.proofs.Math.Dec.{eqb, ltb}
use Rattle.std.proofs.lemmas.Bool.Decides.{nat_tests, eqb_tells}
use Rattle.std.proofs.lemmas.Option.{cond_some}
use borrow.Author.Tests.{ltb-true, ltb-false}
use borrow.Author.Tests.{eq-eqb}
use Rattle.std.proofs.lemmas.Option.{slice_get-get_or}
use Rattle.std.proofs.lemmas.List.Folds.{find_at}
use Rattle.client_seats.specs.ClientStates.{ClientTx, OfUpgrade, is_tx, started_if}
use Rattle.client_seats.specs.FinishEntries.{Deletion}
use Rattle.scope_desk.specs.Rising.{IsRisingFrom}
use Rattle.client_parts.proofs.Rising.{at_least}

abbrev pub numbers : List ClientTx → List ℕ
numbers ts = map (λ t. t.number) ts

pub length_numbers : (ts : List ClientTx) → length (numbers ts) ≡ length ts
length_numbers [] = refl
length_numbers (t ∷ ts) = ap suc (length_numbers ts)

pub number_at : (ts : List ClientTx) (i : ℕ) (t : ClientTx) → i < length ts → t ≡ get_or ts i t → get_or (numbers ts) i 0 ≡ t.number
number_at [] i t l e = absurd (omega arith)
number_at (u ∷ ts) zero t l e = ap (λ (x : ClientTx). x.number) (sym e)
number_at (u ∷ ts) (suc i) t l e = number_at ts i t (omega arith) e

stands_at : (n : ℕ) (ts : List ClientTx) (i low : ℕ) → IsRisingFrom low (numbers ts) → i < length ts → get_or (numbers ts) i 0 ≡ n → position_or_len (is_tx n) ts ≡ i
stands_at n [] i low r l e = absurd (omega arith)
stands_at n (t ∷ ts) zero low r l e = let same : eqb t.number n ≡ true = eq-eqb t.number n e in rw same refl
stands_at n (t ∷ ts) (suc i) low r l e =
    let within : i < length (numbers ts) = omega (arith, length_numbers ts) in
    let above : t.number + 1 ≤ get_or (numbers ts) i 0 = at_least (t.number + 1) (numbers ts) i r.1 within in
    let other : eqb t.number n ≡ false = ne_eqb t.number n (λ d. omega (arith, d, above, e)) in
    rw other (omega (arith, stands_at n ts i (t.number + 1) r.1 (omega arith) e))

pub found_at : (n : ℕ) (ts : List ClientTx) (i low : ℕ) → IsRisingFrom low (numbers ts) → i < length ts → get_or (numbers ts) i 0 ≡ n → position (is_tx n) ts ≡ Some i
found_at n ts i low r l e =
    let at : position_or_len (is_tx n) ts ≡ i = stands_at n ts i low r l e in
    rw at (let within : ltb i (length ts) ≡ true = lt-ltb i (length ts) l in rw within refl)

nowhere : (n : ℕ) (ts : List ClientTx) → ((k : ℕ) → k < length ts → get_or (numbers ts) k 0 ≢ n) → position_or_len (is_tx n) ts ≡ length ts
nowhere n [] h = refl
nowhere n (t ∷ ts) h =
    let other : eqb t.number n ≡ false = ne_eqb t.number n (h 0 (omega arith)) in
    rw other (omega (arith, nowhere n ts (λ k l. h (suc k) (omega arith))))

not_below_itself : (n : ℕ) → ltb n n ≡ false
not_below_itself n = grind (arith, nat_tests)

pub found_nowhere : (n : ℕ) (ts : List ClientTx) → ((k : ℕ) → k < length ts → get_or (numbers ts) k 0 ≢ n) → position (is_tx n) ts ≡ None
found_nowhere n ts h = rw (nowhere n ts h) (rw (not_below_itself (length ts)) refl)

-- ---- the one that stands there, and the list without it
pub place_some : (n : ℕ) (ts : List ClientTx) (i : ℕ) → position (is_tx n) ts ≡ Some i → (position_or_len (is_tx n) ts < length ts) × (position_or_len (is_tx n) ts ≡ i)
place_some n ts i e =
    let p = cond_some (ltb (position_or_len (is_tx n) ts) (length ts)) (position_or_len (is_tx n) ts) i e in
    (ltb-true _ _ p.0, p.1)

none_of : {A : Type 0} (b : Bool) (x : A) → cond b (Some x) None ≡ None → b ≡ false
none_of true x e = cc
none_of false x e = refl

at_end : (n : ℕ) (ts : List ClientTx) → position_or_len (is_tx n) ts ≤ length ts
at_end n [] = omega arith
at_end n (t ∷ ts) = elim (eqb_tells t.number n) [ inl p ↦ rw p.0 (omega arith) | inr p ↦ rw p.0 (omega (arith, at_end n ts)) ]

pub place_none : (n : ℕ) (ts : List ClientTx) → position (is_tx n) ts ≡ None → position_or_len (is_tx n) ts ≡ length ts
place_none n ts e =
    let l : length ts ≤ position_or_len (is_tx n) ts = ltb-false _ _ (none_of (ltb (position_or_len (is_tx n) ts) (length ts)) _ e) in
    omega (arith, at_end n ts, l)

pub all_after : (n low : ℕ) (ts : List ClientTx) → IsRisingFrom low (numbers ts) → n < low → filter (λ t. not (is_tx n t)) ts ≡ ts
all_after n low [] r h = refl
all_after n low (t ∷ ts) r h =
    let other : eqb t.number n ≡ false = ne_eqb t.number n (λ e. omega (arith, e, r.0)) in
    rw other (ap (λ us. t ∷ us) (all_after n (t.number + 1) ts r.1 (omega (arith, r.0))))

pub without_it : (n low : ℕ) (ts : List ClientTx) → IsRisingFrom low (numbers ts) → position_or_len (is_tx n) ts < length ts → remove ts (position_or_len (is_tx n) ts) ≡ filter (λ t. not (is_tx n t)) ts
without_it n low [] r l = absurd (omega arith)
without_it n low (t ∷ ts) r l = elim (eqb_tells t.number n) [
  | inl p ↦ rw p.0 (sym (all_after n (t.number + 1) ts r.1 (omega (arith, p.1))))
  | inr p ↦
      let more : 1 + position_or_len (is_tx n) ts ≡ suc (position_or_len (is_tx n) ts) = omega arith in
      let within : 1 + position_or_len (is_tx n) ts < suc (length ts) = rw p.0 at l in
      rw (p.0, more) (ap (λ us. t ∷ us) (without_it n (t.number + 1) ts r.1 (omega (arith, within))))
]

pub none_there : (n : ℕ) (ts : List ClientTx) → position_or_len (is_tx n) ts ≡ length ts → (find (is_tx n) ts ≡ None) × (filter (λ t. not (is_tx n t)) ts ≡ ts)
none_there n [] e = (refl, refl)
none_there n (t ∷ ts) e = elim (eqb_tells t.number n) [
  | inl p ↦ let bad : 0 ≡ suc (length ts) = rw p.0 at e in absurd (omega (arith, bad))
  | inr p ↦
      let rest : 1 + position_or_len (is_tx n) ts ≡ suc (length ts) = rw p.0 at e in
      let ih = none_there n ts (omega (arith, rest)) in
      rw p.0 (ih.0, ap (λ us. t ∷ us) ih.1)
]

-- what a place found gives
pub nobody : ClientTx
nobody = record { number = 0; kind = OfUpgrade; body = Deletion []; started = false }

pub found : (n i : ℕ) (ts : List ClientTx) → Some i ≡ position (is_tx n) ts → (i < length ts) × (find (is_tx n) ts ≡ slice_get ts i)
found n i ts e =
    let p = place_some n ts i (sym e) in
    (omega (arith, p.0, p.1), rw (← p.1) (find_at (is_tx n) ts))

pub given : (n i : ℕ) (ts : List ClientTx) (r : Option ClientTx) → Some i ≡ position (is_tx n) ts → ((d : ClientTx) → i < length ts → r ≡ Some (get_or ts i d)) → r ≡ find (is_tx n) ts
given n i ts r e s = let f = found n i ts e in s nobody f.0 ∙ sym (slice_get-get_or ts i nobody f.0) ∙ sym f.1

pub taken_out : (n i : ℕ) (ts : List ClientTx) → IsRisingFrom 0 (numbers ts) → Some i ≡ position (is_tx n) ts → remove ts i ≡ filter (λ t. not (is_tx n t)) ts
taken_out n i ts r e = let p = place_some n ts i (sym e) in rw (← p.1) (without_it n 0 ts r p.0)

pub not_found : (n : ℕ) (ts : List ClientTx) → None ≡ position (is_tx n) ts → (find (is_tx n) ts ≡ None) × (filter (λ t. not (is_tx n t)) ts ≡ ts)
not_found n ts e = none_there n ts (place_none n ts (sym e))

pub read : {B : Type 0} (see : B → ClientTx) (r : Option B) (ts : List ClientTx) (i : ℕ) → i < length ts → is_some r ≡ ltb i (length ts) → ((d : ClientTx) → unwrap_or (option_map see r) d ≡ get_or ts i d) → option_map see r ≡ slice_get ts i
read see None ts i l e f = let t = lt-ltb i (length ts) l in cc
read see (Some b) ts i l e f = let at : see b ≡ get_or ts i nobody = f nobody in rw at (sym (slice_get-get_or ts i nobody l))

-- ---- the one of a number starts
all_wait : (n low : ℕ) (ts : List ClientTx) → IsRisingFrom low (numbers ts) → n < low → map (started_if n) ts ≡ ts
all_wait n low [] r h = refl
all_wait n low (t ∷ ts) r h =
    let other : eqb t.number n ≡ false = ne_eqb t.number n (λ e. omega (arith, e, r.0)) in
    rw other (ap (λ us. t ∷ us) (all_wait n (t.number + 1) ts r.1 (omega (arith, r.0))))

abbrev pub begun_tx : ClientTx → ClientTx
begun_tx t = record t { started = true }

starts_there : (n low : ℕ) (ts : List ClientTx) (d : ClientTx) → IsRisingFrom low (numbers ts) → position_or_len (is_tx n) ts < length ts → map (started_if n) ts ≡ slice_set ts (position_or_len (is_tx n) ts) (begun_tx (get_or ts (position_or_len (is_tx n) ts) d))
starts_there n low [] d r l = absurd (omega arith)
starts_there n low (t ∷ ts) d r l = elim (eqb_tells t.number n) [
  | inl p ↦ rw p.0 (ap (λ us. begun_tx t ∷ us) (all_wait n (t.number + 1) ts r.1 (omega (arith, p.1))))
  | inr p ↦
      let more : 1 + position_or_len (is_tx n) ts ≡ suc (position_or_len (is_tx n) ts) = omega arith in
      let within : 1 + position_or_len (is_tx n) ts < suc (length ts) = rw p.0 at l in
      rw (p.0, more) (ap (λ us. t ∷ us) (starts_there n (t.number + 1) ts d r.1 (omega (arith, within))))
]

pub started_at : (n i : ℕ) (ts : List ClientTx) (d : ClientTx) → IsRisingFrom 0 (numbers ts) → Some i ≡ position (is_tx n) ts → map (started_if n) ts ≡ slice_set ts i (begun_tx (get_or ts i d))
started_at n i ts d r e = let p = place_some n ts i (sym e) in rw (← p.1) (starts_there n 0 ts d r p.0)

pub started_none : (n : ℕ) (ts : List ClientTx) → None ≡ position (is_tx n) ts → map (started_if n) ts ≡ ts
started_none n ts e = nobody_starts n ts (place_none n ts (sym e))
  where
    nobody_starts : (n : ℕ) (ts : List ClientTx) → position_or_len (is_tx n) ts ≡ length ts → map (started_if n) ts ≡ ts
    nobody_starts n [] e = refl
    nobody_starts n (t ∷ ts) e = elim (eqb_tells t.number n) [
      | inl p ↦ let bad : 0 ≡ suc (length ts) = rw p.0 at e in absurd (omega (arith, bad))
      | inr p ↦
          let rest : 1 + position_or_len (is_tx n) ts ≡ suc (length ts) = rw p.0 at e in
          rw p.0 (ap (λ us. t ∷ us) (nobody_starts n ts (omega (arith, rest))))
    ]
