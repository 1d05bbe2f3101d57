-- Bytes put at the end: what stands there then, and what a call that failed left.
use Rattle.std.proofs.Common.{◌≡◌, ℕ, List, [], ◌∷◌, ◌++◌, length, take, refl, ap, ◌∙◌, append_assoc}
use Rattle.std.proofs.Math.Seq.{take-append_seam}
use Rattle.value_bytes.specs.Spelling.{count_bytes}
use Rattle.value_bytes.specs.Writing.{BeginsWith}

then : (old mid new : List ℕ) → take (length old) mid ≡ old → take (length mid) new ≡ mid → take (length old) new ≡ old
then [] mid new p q = refl
then (x ∷ old) [] new p q = absurd cc
then (x ∷ old) (m ∷ mid) [] p q = absurd cc
then (x ∷ old) (m ∷ mid) (n ∷ new) p q =
    let head : n ≡ x = cc in
    let first : take (length old) mid ≡ old = cc in
    let second : take (length mid) new ≡ mid = cc in
    λ i. head i ∷ then old mid new first second i

pub begins_append : (old more new : List ℕ) → new ≡ old ++ more → BeginsWith old new
begins_append old more new e = record { front = ap (λ w. take (length old) w) e ∙ take-append_seam old more }

pub begins_then : (old mid new : List ℕ) → BeginsWith old mid → BeginsWith mid new → BeginsWith old new
begins_then old mid new p q = record { front = then old mid new p.front q.front }

-- it failed after one that put more at the end, or after two
pub begins_more : (old more mid new : List ℕ) → mid ≡ old ++ more → BeginsWith mid new → BeginsWith old new
begins_more old more mid new e = begins_then old mid new (begins_append old more mid e)

pub begins_two_more : (old a mid b late new : List ℕ) → mid ≡ old ++ a → late ≡ mid ++ b → BeginsWith late new → BeginsWith old new
begins_two_more old a mid b late new e f = begins_more old (a ++ b) late new (f ∙ ap (λ o. o ++ b) e ∙ append_assoc old a b)

-- a list's count is put, and its members are still to be put
pub begun : {A : Type 0} (old new rest : List ℕ) (n : ℕ) (xs ys : List A) → new ≡ old ++ count_bytes n → n ≡ length xs → ys ≡ xs → new ++ rest ≡ old ++ (count_bytes (length ys) ++ rest)
begun old new rest n xs ys put count same = rw (put, count, same) (append_assoc old (count_bytes (length xs)) rest)
