-- The least number ahead at the items of a scope is the first that blocks.
use Rattle.std.proofs.Common.{◌≡◌, ℕ, ◌+◌, ◌<◌, ◌≤◌, ◌&&◌, ◌||◌, nat_lt, Bool, true, false, List, [], ◌∷◌, slice_get, Option, Some, None, option_map, arith, refl, ap, ◌∙◌, subst, if◌then◌else◌, cond, IfSome}
use Rattle.std.specs.List.{find}
use Rattle.std.proofs.lemmas.Bool.Decides.{nat_tests}
use Rattle.std.proofs.lemmas.Bool.{lt-ltb}
use Rattle.std.proofs.Math.Dec.{ltb, eqb}
use borrow.Author.Tests.{ltb-true, ltb-false, eq-eqb}
use Rattle.scope_desk.specs.declared.tickets.Ticket.{Ticket}
use Rattle.scope_desk.specs.declared.unfinished.MayStart.TheVariants.{Go}
use Rattle.scope_desk.specs.Rising.{IsRisingFrom}
use Rattle.scope_desk.specs.Starts.{Scopes, AreByNumber, writes, has_item, share_item, is_blocker, blocker_of, may_start, blocker_below}
use Rattle.scope_desk.specs.Lanes.{lesser, least_ahead, numbers_at, HasNumbers, AreKept}
use Rattle.scope_desk.proofs.Places.{numbers}
use Rattle.scope_desk.proofs.Keeping.{rising_at}

-- the least of the first numbers of these transactions at the items of a scope
ahead : (Ticket → Bool) → List Ticket → List ℕ → ℕ → ℕ
ahead test ts [] n = n
ahead test ts (k ∷ ks) n = ahead test ts ks (lesser (slice_get (numbers_at test k ts) 0) n)

same_ahead : (test : Ticket → Bool) (lanes : List (List ℕ)) (ts : List Ticket) (scope : List ℕ) (n : ℕ) → HasNumbers test lanes ts → least_ahead lanes scope n ≡ ahead test ts scope n
unfolding ahead
same_ahead test lanes ts [] n h = refl
same_ahead test lanes ts (k ∷ ks) n h = rw (h k) (same_ahead test lanes ts ks _ h)

-- ---- no number ahead is below this one
lesser_floor : (o : Option ℕ) (n : ℕ) → ((m : ℕ) → o ≡ Some m → n ≤ m) → lesser o n ≡ n
lesser_floor None n h = refl
lesser_floor (Some m) n h = let l : n ≤ m = h m refl in let f : ltb m n ≡ false = grind (arith, nat_tests) in rw f refl

first_low : (low : ℕ) (ns : List ℕ) (m : ℕ) → IsRisingFrom low ns → slice_get ns 0 ≡ Some m → low ≤ m
first_low low [] m r e = cc
first_low low (n ∷ ns) m r e = let same : n ≡ m = cc in omega (arith, same, r.0)

floor : (test : Ticket → Bool) (ts : List Ticket) (low n : ℕ) (scope : List ℕ) → IsRisingFrom low (numbers ts) → n ≤ low → ahead test ts scope n ≡ n
unfolding ahead
floor test ts low n [] r l = refl
floor test ts low n (k ∷ ks) r l =
    let same : lesser (slice_get (numbers_at test k ts) 0) n ≡ n = lesser_floor _ n (λ m e. let f = first_low low (numbers_at test k ts) m (rising_at _ low ts r) e in omega (arith, f)) in
    rw same (floor test ts low n ks r l)

-- ---- a transaction without any of the items doesn't count
or_parts : (a b : Bool) → (a || b) ≡ false → (a ≡ false) × (b ≡ false)
or_parts true b e = cc
or_parts false b e = (refl, e)

miss : (test : Ticket → Bool) (t : Ticket) (ts : List Ticket) (n : ℕ) (scope : List ℕ) → test t ≡ true → share_item scope t.scope ≡ false → ahead test (t ∷ ts) scope n ≡ ahead test ts scope n
unfolding ahead
miss test t ts n [] p e = refl
miss test t ts n (k ∷ ks) p e =
    let parts = or_parts (has_item k t.scope) (share_item ks t.scope) e in
    rw parts.0 (miss test t ts (lesser (slice_get (numbers_at test k ts) 0) n) ks p parts.1)

and_false : (a : Bool) → (a && false) ≡ false
and_false true = refl
and_false false = refl

miss_test : (test : Ticket → Bool) (t : Ticket) (ts : List Ticket) (n : ℕ) (scope : List ℕ) → test t ≡ false → ahead test (t ∷ ts) scope n ≡ ahead test ts scope n
unfolding ahead
miss_test test t ts n [] p = refl
miss_test test t ts n (k ∷ ks) p =
    let no : (has_item k t.scope && test t) ≡ false = rw p (and_false (has_item k t.scope)) in
    rw no (miss_test test t ts (lesser (slice_get (numbers_at test k ts) 0) n) ks p)

-- ---- one with an item of the scope is the least
lesser_above : (o : Option ℕ) (a n : ℕ) → a < n → ((m : ℕ) → o ≡ Some m → a < m) → a < lesser o n
lesser_above None a n l h = l
lesser_above (Some m) a n l h = elim (ltb m n) as (λ b. a < (if b then m else n)) [ true ↦ h m refl | false ↦ l ]

hit : (test : Ticket → Bool) (t : Ticket) (ts : List Ticket) (low n : ℕ) (scope : List ℕ) → IsRisingFrom low (numbers (t ∷ ts)) → t.number < n → test t ≡ true → share_item scope t.scope ≡ true → ahead test (t ∷ ts) scope n ≡ t.number
unfolding ahead
hit test t ts low n [] r l p e = cc
hit test t ts low n (k ∷ ks) r l p e = by_item (λ m a h. hit test t ts low m ks r a p h) (has_item k t.scope) refl where
  by_item : ((m : ℕ) → t.number < m → share_item ks t.scope ≡ true → ahead test (t ∷ ts) ks m ≡ t.number) → (b : Bool) → has_item k t.scope ≡ b → ahead test (t ∷ ts) (k ∷ ks) n ≡ t.number
  by_item ih true h =
      let here : ltb t.number n ≡ true = lt-ltb t.number n l in
      rw (h, p) (rw here (floor test (t ∷ ts) t.number t.number ks (omega arith, r.1) (omega arith)))
  by_item ih false h =
      let rest : share_item ks t.scope ≡ true = rw h at e in
      let more : t.number < lesser (slice_get (numbers_at test k ts) 0) n = lesser_above _ t.number n l (λ m s. let f = first_low (t.number + 1) (numbers_at test k ts) m (rising_at _ (t.number + 1) ts r.1) s in omega (arith, f)) in
      rw h (ih (lesser (slice_get (numbers_at test k ts) 0) n) more rest)

-- ---- the first that blocks
abbrev blocks : (Ticket → Bool) → List ℕ → ℕ → Ticket → Bool
blocks test scope n u = nat_lt u.number n && (share_item scope u.scope && test u)

first_of : Option Ticket → ℕ → ℕ
first_of None n = n
first_of (Some u) n = u.number

none_below : (test : Ticket → Bool) (scope : List ℕ) (n low : ℕ) (ts : List Ticket) → IsRisingFrom low (numbers ts) → n ≤ low → find (blocks test scope n) ts ≡ None
none_below test scope n low [] r l = refl
none_below test scope n low (t ∷ ts) r l =
    let above : n ≤ t.number = omega (arith, r.0) in
    let f : ltb t.number n ≡ false = grind (arith, nat_tests) in
    rw f (none_below test scope n (t.number + 1) ts r.1 (omega (arith, above)))

ahead_none : (test : Ticket → Bool) (n : ℕ) (scope : List ℕ) → ahead test [] scope n ≡ n
unfolding ahead
ahead_none test n [] = refl
ahead_none test n (k ∷ ks) = ahead_none test n ks

first_ahead : (test : Ticket → Bool) (scope : List ℕ) (n low : ℕ) (ts : List Ticket) → IsRisingFrom low (numbers ts) → ahead test ts scope n ≡ first_of (find (blocks test scope n) ts) n
unfolding first_of
first_ahead test scope n low [] r = ahead_none test n scope
first_ahead test scope n low (t ∷ ts) r = by_below (first_ahead test scope n (t.number + 1) ts r.1) (ltb t.number n) refl where
  by_test : ahead test ts scope n ≡ first_of (find (blocks test scope n) ts) n → (b : Bool) → test t ≡ b → (s : Bool) → share_item scope t.scope ≡ s → ltb t.number n ≡ true → ahead test (t ∷ ts) scope n ≡ first_of (find (blocks test scope n) (t ∷ ts)) n
  by_test ih true p true e h = rw (h, e, p) (hit test t ts low n scope r (ltb-true t.number n h) p e)
  by_test ih true p false e h = rw (h, e) (miss test t ts n scope p e ∙ ih)
  by_test ih false p s e h =
      let no : (share_item scope t.scope && test t) ≡ false = rw p (and_false (share_item scope t.scope)) in
      rw (h, no) (miss_test test t ts n scope p ∙ ih)

  by_below : ahead test ts scope n ≡ first_of (find (blocks test scope n) ts) n → (b : Bool) → ltb t.number n ≡ b → ahead test (t ∷ ts) scope n ≡ first_of (find (blocks test scope n) (t ∷ ts)) n
  by_below ih true h = by_test ih (test t) refl (share_item scope t.scope) refl h
  by_below ih false h =
      let above : n ≤ t.number = ltb-false t.number n h in
      rw (floor test (t ∷ ts) t.number n scope (omega arith, r.1) above, none_below test scope n t.number (t ∷ ts) (omega arith, r.1) above) refl

-- ---- the answer
below_of : (o : Option Ticket) (n : ℕ) → ((u : Ticket) → o ≡ Some u → ltb u.number n ≡ true) → blocker_below (first_of o n) n ≡ option_map (λ u. u.number) o
unfolding first_of
below_of None n h = let no : ltb n n ≡ false = grind (arith, nat_tests) in rw no refl
below_of (Some u) n h = rw (h u refl) refl

and_left : (a b : Bool) → (a && b) ≡ true → a ≡ true
and_left true b e = refl
and_left false b e = e

passes : {A : Type 0} (p : A → Bool) (xs : List A) (x : A) → find p xs ≡ Some x → p x ≡ true
passes p [] x e = cc
passes p (y ∷ ys) x e = by_test (passes p ys x) (p y) refl e where
  by_test : (find p ys ≡ Some x → p x ≡ true) → (b : Bool) → p y ≡ b → cond b (Some y) (find p ys) ≡ Some x → p x ≡ true
  by_test ih true h f = let same : y ≡ x = cc in rw (← same) h
  by_test ih false h f = ih f

find_same : {A : Type 0} (p q : A → Bool) → ((x : A) → p x ≡ q x) → (xs : List A) → find p xs ≡ find q xs
find_same p q h [] = refl
find_same p q h (x ∷ xs) = rw (h x, find_same p q h xs) refl

found_ahead : (test : Ticket → Bool) (lanes : List (List ℕ)) (ts : List Ticket) (t : Ticket) → HasNumbers test lanes ts → IsRisingFrom 1 (numbers ts) → ((u : Ticket) → test u ≡ (writes t.mode || writes u.mode))
    → blocker_below (least_ahead lanes t.scope t.number) t.number ≡ blocker_of ts t
found_ahead test lanes ts t h r e =
    let ahead_is : least_ahead lanes t.scope t.number ≡ first_of (find (blocks test t.scope t.number) ts) t.number = same_ahead test lanes ts t.scope t.number h ∙ first_ahead test t.scope t.number 1 ts r in
    rw ahead_is (below_of (find (blocks test t.scope t.number) ts) t.number (λ u f. and_left (ltb u.number t.number) _ (passes (blocks test t.scope t.number) ts u f))
    ∙ ap (option_map (λ u. u.number)) (find_same (blocks test t.scope t.number) (is_blocker t) (λ u. ap (λ b. ltb u.number t.number && (share_item t.scope u.scope && b)) (e u)) ts))

pub starts : (ts : List Ticket) (t : Ticket) (next : ℕ) (all writers : List (List ℕ)) → AreKept ts next all writers
    → blocker_below (if writes t.mode then least_ahead all t.scope t.number else least_ahead writers t.scope t.number) t.number ≡ blocker_of ts t
starts ts t next all writers k = by_mode (writes t.mode) refl where
  by_mode : (b : Bool) → writes t.mode ≡ b → blocker_below (if b then least_ahead all t.scope t.number else least_ahead writers t.scope t.number) t.number ≡ blocker_of ts t
  by_mode true h = found_ahead (λ u. true) all ts t k.each k.numbers.rising (λ u. rw h refl)
  by_mode false h = found_ahead (λ u. writes u.mode) writers ts t k.writing k.numbers.rising (λ u. rw h refl)

-- ---- the least always has Go
none_earlier : (t : Ticket) (low : ℕ) (ts : List Ticket) → IsRisingFrom low (numbers ts) → t.number ≤ low → find (is_blocker t) ts ≡ None
none_earlier t low [] r l = refl
none_earlier t low (u ∷ us) r l =
    let above : t.number ≤ u.number = omega (arith, r.0) in
    let no : ltb u.number t.number ≡ false = grind (arith, nat_tests) in
    rw no (none_earlier t (u.number + 1) us r.1 (omega (arith, above)))

pub least_goes : (s : Scopes) (t : Ticket) (ts : List Ticket) → AreByNumber s → s.unfinished ≡ t ∷ ts → may_start s t.number ≡ Go
least_goes s t ts b e =
    let here : eqb t.number t.number ≡ true = eq-eqb t.number t.number refl in
    let r : IsRisingFrom 1 (numbers (t ∷ ts)) = subst (λ us. IsRisingFrom 1 (numbers us)) e b.rising in
    let none : find (is_blocker t) (t ∷ ts) ≡ None = none_earlier t t.number (t ∷ ts) (omega arith, r.1) (omega arith) in
    rw e (rw here (rw none refl))

pub first_goes : (s : Scopes) (o : Option ℕ) → AreByNumber s → o ≡ option_map (λ t. t.number) (slice_get s.unfinished 0) → IfSome o (λ n. may_start s n ≡ Go)
first_goes s o b e = by_list s.unfinished refl where
  by_list : (ts : List Ticket) → s.unfinished ≡ ts → IfSome o (λ n. may_start s n ≡ Go)
  by_list [] h = let none : o ≡ None = rw h at e in rw none tt
  by_list (t ∷ ts) h = let here : o ≡ Some t.number = rw h at e in rw here (least_goes s t ts b h)
