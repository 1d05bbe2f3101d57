-- Numbers that rise: one more at the end, one less, and where one stands.
use Rattle.std.proofs.Common.{◌≡◌, ◌≢◌, ℕ, zero, suc, ◌+◌, ◌<◌, ◌≤◌, Bool, true, false, List, [], ◌∷◌, ◌++◌, length, get_or, filter, remove, arith, refl, ap, sym, cond}
use Rattle.std.proofs.lemmas.Bool.{ne_eqb}
use Rattle.std.proofs.Math.Dec.{eqb}
use borrow.Author.Tests.{eq-eqb}
use Rattle.scope_desk.specs.Rising.{IsRisingFrom, AreAllBelow, without_number}

pub lower : (low less : ℕ) (ns : List ℕ) → less ≤ low → IsRisingFrom low ns → IsRisingFrom less ns
lower low less [] l r = tt
lower low less (n ∷ ns) l r = (omega (arith, r.0), r.1)

pub pushed : (low : ℕ) (ns : List ℕ) (n : ℕ) → low ≤ n → IsRisingFrom low ns → AreAllBelow n ns → IsRisingFrom low (ns ++ n ∷ [])
pushed low [] n l r b = (l, tt)
pushed low (m ∷ ms) n l r b = (r.0, pushed (m + 1) ms n (omega (arith, b.0)) r.1 b.1)

pub filtered : (p : ℕ → Bool) (low : ℕ) (ns : List ℕ) → IsRisingFrom low ns → IsRisingFrom low (filter p ns)
filtered p low [] r = tt
filtered p low (n ∷ ns) r =
    let rest : IsRisingFrom (n + 1) (filter p ns) = filtered p (n + 1) ns r.1 in
    elim (p n) as (λ b. IsRisingFrom low (cond b (n ∷ filter p ns) (filter p ns))) [ true ↦ (r.0, rest) | false ↦ lower (n + 1) low _ (omega (arith, r.0)) rest ]

-- ---- without a number
pub absent : (low n : ℕ) (ns : List ℕ) → IsRisingFrom low ns → n < low → without_number n ns ≡ ns
absent low n [] r h = refl
absent low n (m ∷ ms) r h =
    let other : eqb m n ≡ false = ne_eqb m n (λ e. omega (arith, e, r.0)) in
    rw other (ap (λ xs. m ∷ xs) (absent (m + 1) n ms r.1 (omega (arith, r.0))))

pub never : (n : ℕ) (ns : List ℕ) → ((k : ℕ) → k < length ns → get_or ns k 0 ≢ n) → without_number n ns ≡ ns
never n [] h = refl
never n (m ∷ ms) h =
    let other : eqb m n ≡ false = ne_eqb m n (h 0 (omega arith)) in
    rw other (ap (λ xs. m ∷ xs) (never n ms (λ k l. h (suc k) (omega arith))))

pub at_least : (low : ℕ) (ns : List ℕ) (i : ℕ) → IsRisingFrom low ns → i < length ns → low ≤ get_or ns i 0
at_least low [] i r l = absurd (omega arith)
at_least low (n ∷ ns) zero r l = r.0
at_least low (n ∷ ns) (suc i) r l = omega (arith, at_least (n + 1) ns i r.1 (omega arith), r.0)

pub in_order : (low : ℕ) (ns : List ℕ) → IsRisingFrom low ns → (i j : ℕ) → i ≤ j → j < length ns → get_or ns i 0 ≤ get_or ns j 0
in_order low [] r i j l k = absurd (omega arith)
in_order low (n ∷ ns) r zero zero l k = omega arith
in_order low (n ∷ ns) r zero (suc j) l k = omega (arith, at_least (n + 1) ns j r.1 (omega arith))
in_order low (n ∷ ns) r (suc i) zero l k = absurd (omega arith)
in_order low (n ∷ ns) r (suc i) (suc j) l k = in_order (n + 1) ns r.1 i j (omega arith) (omega arith)

pub taken_out : (low n : ℕ) (ns : List ℕ) (i : ℕ) → IsRisingFrom low ns → i < length ns → get_or ns i 0 ≡ n → remove ns i ≡ without_number n ns
taken_out low n [] i r l e = absurd (omega arith)
taken_out low n (m ∷ ms) zero r l e =
    let same : eqb m n ≡ true = eq-eqb m n e in
    rw same (sym (absent (m + 1) n ms r.1 (omega (arith, e))))
taken_out low n (m ∷ ms) (suc i) r l e =
    let above : m + 1 ≤ get_or ms i 0 = at_least (m + 1) ms i r.1 (omega arith) in
    let other : eqb m n ≡ false = ne_eqb m n (λ d. omega (arith, d, above, e)) in
    rw other (ap (λ xs. m ∷ xs) (taken_out (m + 1) n ms i r.1 (omega arith) e))

-- ---- what is below an end
pub below_more : (end more : ℕ) (ns : List ℕ) → end ≤ more → AreAllBelow end ns → AreAllBelow more ns
below_more end more [] l b = tt
below_more end more (n ∷ ns) l b = (omega (arith, b.0), below_more end more ns l b.1)

pub left_alone : (n : ℕ) (ns : List ℕ) → AreAllBelow n ns → without_number n ns ≡ ns
left_alone n [] b = refl
left_alone n (m ∷ ms) b =
    let other : eqb m n ≡ false = ne_eqb m n (λ e. omega (arith, e, b.0)) in
    rw other (ap (λ xs. m ∷ xs) (left_alone n ms b.1))

pub taken_back : (n : ℕ) (ns : List ℕ) → AreAllBelow n ns → without_number n (ns ++ n ∷ []) ≡ ns
taken_back n [] b = let same : eqb n n ≡ true = eq-eqb n n refl in rw same refl
taken_back n (m ∷ ms) b =
    let other : eqb m n ≡ false = ne_eqb m n (λ e. omega (arith, e, b.0)) in
    rw other (ap (λ xs. m ∷ xs) (taken_back n ms b.1))
