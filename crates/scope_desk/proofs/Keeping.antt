-- What the items keep, when a transaction comes or goes.
use Rattle.std.proofs.Common.{◌≡◌, ℕ, ◌+◌, ◌&&◌, not, Bool, true, false, List, [], ◌∷◌, ◌++◌, filter, Option, Some, None, cond, arith, refl, ap, sym, ◌∙◌, inl, inr}
use Rattle.std.specs.List.{find}
use Rattle.std.proofs.lemmas.Bool.Decides.{eqb_tells}
use Rattle.std.proofs.Math.Dec.{eqb}
use Rattle.scope_desk.specs.declared.tickets.Ticket.{Ticket}
use Rattle.scope_desk.specs.Rising.{IsRisingFrom, AreAllBelow, without_number}
use Rattle.scope_desk.specs.Starts.{writes, has_item, is_numbered}
use Rattle.scope_desk.specs.Lanes.{lane_at, entered, left, numbers_at, HasNumbers, AreKept}
use Rattle.scope_desk.proofs.RisingLemmas.{lower, pushed, absent}
use Rattle.scope_desk.proofs.Places.{numbers}

pub below_at : (q : Ticket → Bool) (n : ℕ) (ts : List Ticket) → AreAllBelow n (numbers ts) → AreAllBelow n (numbers (filter q ts))
below_at q n [] b = tt
below_at q n (t ∷ ts) b =
    let rest : AreAllBelow n (numbers (filter q ts)) = below_at q n ts b.1 in
    elim (q t) as (λ v. AreAllBelow n (numbers (cond v (t ∷ filter q ts) (filter q ts)))) [ true ↦ (b.0, rest) | false ↦ rest ]

pub rising_at : (q : Ticket → Bool) (low : ℕ) (ts : List Ticket) → IsRisingFrom low (numbers ts) → IsRisingFrom low (numbers (filter q ts))
rising_at q low [] r = tt
rising_at q low (t ∷ ts) r =
    let rest : IsRisingFrom (t.number + 1) (numbers (filter q ts)) = rising_at q (t.number + 1) ts r.1 in
    elim (q t) as (λ v. IsRisingFrom low (numbers (cond v (t ∷ filter q ts) (filter q ts)))) [ true ↦ (r.0, rest) | false ↦ lower (t.number + 1) low _ (omega (arith, r.0)) rest ]

-- ---- one more
pub numbers_more : (ts : List Ticket) (t : Ticket) → numbers (ts ++ t ∷ []) ≡ numbers ts ++ t.number ∷ []
numbers_more [] t = refl
numbers_more (u ∷ ts) t = ap (λ ns. u.number ∷ ns) (numbers_more ts t)

one_more : (b : Bool) (t : Ticket) → numbers (cond b (t ∷ []) []) ≡ cond b (t.number ∷ []) []
one_more true t = refl
one_more false t = refl

kept_first : (b v : Bool) (u : Ticket) (t : Ticket) (us vs : List Ticket) → numbers us ≡ entered t.number v (numbers vs) → numbers (cond b (u ∷ us) us) ≡ entered t.number v (numbers (cond b (u ∷ vs) vs))
kept_first true true u t us vs e = ap (λ ns. u.number ∷ ns) e
kept_first true false u t us vs e = ap (λ ns. u.number ∷ ns) e
kept_first false v u t us vs e = e

by_itself : (v : Bool) (t : Ticket) → numbers (cond v (t ∷ []) []) ≡ entered t.number v []
by_itself true t = refl
by_itself false t = refl

more_where : (q : Ticket → Bool) (ts : List Ticket) (t : Ticket) → numbers (filter q (ts ++ t ∷ [])) ≡ entered t.number (q t) (numbers (filter q ts))
more_where q [] t = by_itself (q t) t
more_where q (u ∷ ts) t = kept_first (q u) (q t) u t (filter q (ts ++ t ∷ [])) (filter q ts) (more_where q ts t)

below_push : (n : ℕ) (ns : List ℕ) → AreAllBelow n ns → AreAllBelow (n + 1) (ns ++ n ∷ [])
below_push n [] b = (omega arith, tt)
below_push n (m ∷ ms) b = (omega (arith, b.0), below_push n ms b.1)

and_true : (b : Bool) → (b && true) ≡ b
and_true true = refl
and_true false = refl

pub kept_more : (ts : List Ticket) (t : Ticket) (n : ℕ) (all writers all' writers' : List (List ℕ)) → t.number ≡ n → AreKept ts n all writers
    → ((k : ℕ) → lane_at all' k ≡ entered n (has_item k t.scope) (lane_at all k))
    → ((k : ℕ) → lane_at writers' k ≡ entered n (has_item k t.scope && writes t.mode) (lane_at writers k))
    → AreKept (ts ++ t ∷ []) (n + 1) all' writers'
kept_more ts t n all writers all' writers' e k f g = record {
  numbers = record {
    some = omega arith;
    rising = rw (numbers_more ts t, e) (pushed 1 (numbers ts) n k.numbers.some k.numbers.rising k.numbers.drawn);
    drawn = rw (numbers_more ts t, e) (below_push n (numbers ts) k.numbers.drawn);
  };
  each = λ i. rw (f i, k.each i) (rw (← e) (sym (more_where (λ u. has_item i u.scope && true) ts t ∙ ap (λ b. entered t.number b (numbers_at (λ u. true) i ts)) (and_true (has_item i t.scope)))));
  writing = λ i. rw (g i, k.writing i) (rw (← e) (sym (more_where (λ u. has_item i u.scope && writes u.mode) ts t)));
}

-- ---- one less
less_first : (n : ℕ) (b : Bool) (t : Ticket) (us vs : List Ticket) → eqb t.number n ≡ false → numbers us ≡ without_number n (numbers vs) → numbers (cond b (t ∷ us) us) ≡ without_number n (numbers (cond b (t ∷ vs) vs))
less_first n true t us vs o e = rw o (ap (λ ns. t.number ∷ ns) e)
less_first n false t us vs o e = e

gone_first : (n : ℕ) (b : Bool) (t : Ticket) (us vs : List Ticket) → eqb t.number n ≡ true → numbers us ≡ without_number n (numbers vs) → numbers us ≡ without_number n (numbers (cond b (t ∷ vs) vs))
gone_first n true t us vs o e = rw o e
gone_first n false t us vs o e = e

less_where : (q : Ticket → Bool) (n : ℕ) (ts : List Ticket) → numbers (filter q (filter (λ t. not (is_numbered n t)) ts)) ≡ without_number n (numbers (filter q ts))
less_where q n [] = refl
less_where q n (t ∷ ts) = elim (eqb_tells t.number n) [
  | inl p ↦ rw p.0 (gone_first n (q t) t (filter q (filter (λ u. not (is_numbered n u)) ts)) (filter q ts) p.0 (less_where q n ts))
  | inr p ↦ rw p.0 (less_first n (q t) t (filter q (filter (λ u. not (is_numbered n u)) ts)) (filter q ts) p.0 (less_where q n ts))
]

-- where the transaction of the number fails the test, the list has no such number
untouched_first : (n : ℕ) (b : Bool) (t : Ticket) (vs : List Ticket) → eqb t.number n ≡ false → without_number n (numbers vs) ≡ numbers vs → without_number n (numbers (cond b (t ∷ vs) vs)) ≡ numbers (cond b (t ∷ vs) vs)
untouched_first n true t vs o e = rw o (ap (λ ns. t.number ∷ ns) e)
untouched_first n false t vs o e = e

untouched : (q : Ticket → Bool) (n low : ℕ) (ts : List Ticket) (t : Ticket) → IsRisingFrom low (numbers ts) → find (is_numbered n) ts ≡ Some t → q t ≡ false → without_number n (numbers (filter q ts)) ≡ numbers (filter q ts)
untouched q n low [] t r f e = cc
untouched q n low (u ∷ ts) t r f e = elim (eqb_tells u.number n) [
  | inl p ↦
      let here : ◌≡◌ {A = Option Ticket} (Some u) (Some t) = rw p.0 at f in
      let same : u ≡ t = cc in
      let fails : q u ≡ false = rw same e in
      rw fails (absent (u.number + 1) n (numbers (filter q ts)) (rising_at q (u.number + 1) ts r.1) (omega (arith, p.1)))
  | inr p ↦
      let on : find (is_numbered n) ts ≡ Some t = rw p.0 at f in
      untouched_first n (q u) u (filter q ts) p.0 (untouched q n (u.number + 1) ts t r.1 on e)
]

left_where : (b : Bool) (test : Ticket → Bool) (k n : ℕ) (ts : List Ticket) (t : Ticket) → has_item k t.scope ≡ b → IsRisingFrom 1 (numbers ts) → find (is_numbered n) ts ≡ Some t
    → left n b (numbers_at test k ts) ≡ without_number n (numbers_at test k ts)
left_where true test k n ts t h r f = refl
left_where false test k n ts t h r f = let fails : (has_item k t.scope && test t) ≡ false = rw h refl in sym (untouched (λ u. has_item k u.scope && test u) n 1 ts t r f fails)

pub kept_less : (ts : List Ticket) (t : Ticket) (next n : ℕ) (all writers all' writers' : List (List ℕ)) → AreKept ts next all writers → find (is_numbered n) ts ≡ Some t
    → ((k : ℕ) → lane_at all' k ≡ left n (has_item k t.scope) (lane_at all k))
    → ((k : ℕ) → lane_at writers' k ≡ left n (has_item k t.scope) (lane_at writers k))
    → AreKept (filter (λ u. not (is_numbered n u)) ts) next all' writers'
kept_less ts t next n all writers all' writers' k e f g = record {
  numbers = record {
    some = k.numbers.some;
    rising = rising_at _ 1 ts k.numbers.rising;
    drawn = below_at _ next ts k.numbers.drawn;
  };
  each = λ i. rw (f i, k.each i) (left_where (has_item i t.scope) (λ u. true) i n ts t refl k.numbers.rising e ∙ sym (less_where (λ u. has_item i u.scope && true) n ts));
  writing = λ i. rw (g i, k.writing i) (left_where (has_item i t.scope) (λ u. writes u.mode) i n ts t refl k.numbers.rising e ∙ sym (less_where (λ u. has_item i u.scope && writes u.mode) n ts));
}

pub same_where_none : (n : ℕ) (ts : List Ticket) → find (is_numbered n) ts ≡ None → filter (λ t. not (is_numbered n t)) ts ≡ ts
same_where_none n [] e = refl
same_where_none n (t ∷ ts) e = elim (eqb_tells t.number n) [
  | inl p ↦ let bad : ◌≡◌ {A = Option Ticket} (Some t) None = rw p.0 at e in cc
  | inr p ↦ let on : find (is_numbered n) ts ≡ None = rw p.0 at e in rw p.0 (ap (λ us. t ∷ us) (same_where_none n ts on))
]

pub lanes_below : (test : Ticket → Bool) (lanes : List (List ℕ)) (ts : List Ticket) (n : ℕ) → HasNumbers test lanes ts → AreAllBelow n (numbers ts) → (k : ℕ) → AreAllBelow n (lane_at lanes k)
lanes_below test lanes ts n h b k = rw (h k) (below_at _ n ts b)
