-- The lanes of a scope's items, item by item.
use Rattle.std.proofs.Common.{◌≡◌, ℕ, zero, suc, ◌+◌, ◌<◌, ◌==◌, ◌||◌, Bool, true, false, List, [], ◌∷◌, length, get_or, take, arith, refl, ap, sym, ◌∙◌, inl, inr, if◌then◌else◌, add-one}
use Rattle.std.proofs.lemmas.Bool.Decides.{eqb_tells}
use Rattle.scope_desk.specs.Rising.{without_number, AreAllBelow}
use Rattle.scope_desk.proofs.RisingLemmas.{left_alone, taken_back}
use Rattle.scope_desk.specs.Starts.{has_item}
use Rattle.scope_desk.specs.Lanes.{left, entered, IsEnteredOrNot}

or_false : (b : Bool) → (b || false) ≡ b
or_false true = refl
or_false false = refl

or_assoc : (a b c : Bool) → (a || (b || c)) ≡ ((a || b) || c)
or_assoc true b c = refl
or_assoc false b c = refl

has_suc : (k : ℕ) (s : List ℕ) (i d : ℕ) → i < length s → has_item k (take (suc i) s) ≡ (has_item k (take i s) || (get_or s i d == k))
has_suc k [] i d l = absurd (omega arith)
has_suc k (x ∷ xs) zero d l = or_false (x == k)
has_suc k (x ∷ xs) (suc i) d l = ap (λ b. (x == k) || b) (has_suc k xs i d (omega arith)) ∙ or_assoc (x == k) (has_item k (take i xs)) (get_or xs i d == k)

-- one more item
pub has_more : (k : ℕ) (s : List ℕ) (i d : ℕ) → i < length s → has_item k (take (i + 1) s) ≡ (has_item k (take i s) || (get_or s i d == k))
has_more k s i d l = rw add-one (has_suc k s i d l)

pub has_of_take : (k : ℕ) (s : List ℕ) (i : ℕ) → has_item k (take i s) ≡ true → has_item k s ≡ true
has_of_take k s zero e = cc
has_of_take k [] (suc i) e = e
has_of_take k (x ∷ xs) (suc i) e = one_or_other (x == k) (has_item k (take i xs)) (has_item k xs) e (has_of_take k xs i) where
  one_or_other : (a b c : Bool) → (a || b) ≡ true → (b ≡ true → c ≡ true) → (a || c) ≡ true
  one_or_other true b c e f = refl
  one_or_other false b c e f = f e

twice : (n : ℕ) (ns : List ℕ) → without_number n (without_number n ns) ≡ without_number n ns
twice n [] = refl
twice n (m ∷ ms) = elim (eqb_tells m n) [ inl p ↦ rw p.0 (twice n ms) | inr p ↦ rw p.0 (rw p.0 (ap (λ xs. m ∷ xs) (twice n ms))) ]

left_by : (n : ℕ) (b c : Bool) (ns : List ℕ) → (if c then without_number n (left n b ns) else left n b ns) ≡ left n (b || c) ns
left_by n true true ns = twice n ns
left_by n true false ns = refl
left_by n false true ns = refl
left_by n false false ns = refl

-- the number leaves one more item
pub left_more : (n k i d : ℕ) (s now old new : List ℕ) → i < length s → now ≡ left n (has_item k (take i s)) old → new ≡ (if get_or s i d == k then without_number n now else now) → new ≡ left n (has_item k (take (i + 1) s)) old
left_more n k i d s now old new l e f = f ∙ ap (λ xs. if get_or s i d == k then without_number n xs else xs) e ∙ left_by n _ _ old ∙ ap (λ b. left n b old) (sym (has_more k s i d l))

pub not_yet : (n : ℕ) (b has : Bool) (old new : List ℕ) → new ≡ entered n b old → (b ≡ true → has ≡ true) → IsEnteredOrNot n has old new
not_yet n true has old new e f = inr (f refl, e)
not_yet n false has old new e f = inl e

-- ---- a number that came and goes again
pub put_back : (n : ℕ) (has : Bool) (old mid : List ℕ) → AreAllBelow n old → IsEnteredOrNot n has old mid → left n has mid ≡ old
put_back n true old mid b (inl e) = rw e (left_alone n old b)
put_back n false old mid b (inl e) = e
put_back n true old mid b (inr p) = rw (p.1) (taken_back n old b)
put_back n false old mid b (inr p) = let no : false ≡ true = p.0 in cc

pub undone : (n : ℕ) (has : Bool) (old : List ℕ) → AreAllBelow n old → left n has (entered n has old) ≡ old
undone n true old b = taken_back n old b
undone n false old b = refl
