-- A walk over the tables: those before a place are changed, and those from it on are as they were.
--     Walked                        as far as a place
--     walked_get, walked_more       the next table is as it was, and once it is changed the walk is one place on
--     walked_all, walked_kept       at the end;  on the way, where the change may be none
--     one_changed                   where there is but one
--     FilledOn, filled_more tables without rows come at the end
--     paired_get                    two lists side by side
use Rattle.std.proofs.Common.{◌≡◌, ℕ, zero, suc, ◌+◌, ◌-◌, ◌<◌, ◌≤◌, List, [], ◌∷◌, ◌++◌, append_assoc, length-append, refl, sym, ap, subst, ◌∙◌, Some, length, drop, get_or, add-one, arith}
use Rattle.std.proofs.lemmas.List.{length-drop}
use Rattle.std.proofs.lemmas.Option.{slice_get-get_or}
use Rattle.std.specs.Prelude.{slice_get, slice_set}
use Rattle.std.specs.List.{AllByRecursion}
use Rattle.index_tables.specs.Rows.{IndexRows, no_rows}
use Rattle.store_contents.specs.Walks.{AllChanged, IsFilled, paired}

module _ {A : Type 0} (R : A → IndexRows → IndexRows → Type 0) where
  abbrev pub Walked : List A → List IndexRows → List IndexRows → ℕ → Type 0
  Walked xs os ns zero = ns ≡ os
  Walked (a ∷ xs) (o ∷ os) (n ∷ ns) (suc i) = R a o n × Walked xs os ns i
  Walked [] os ns (suc i) = ⊥
  Walked (a ∷ xs) [] ns (suc i) = ⊥
  Walked (a ∷ xs) (o ∷ os) [] (suc i) = ⊥

  pub walked_get : (xs : List A) (os ns : List IndexRows) (i : ℕ) → Walked xs os ns i → slice_get ns i ≡ slice_get os i
  walked_get xs os ns zero h = ap (λ ts. slice_get ts 0) h
  walked_get (a ∷ xs) (o ∷ os) (n ∷ ns) (suc i) h = walked_get xs os ns i h.1
  walked_get [] os ns (suc i) h = absurd h
  walked_get (a ∷ xs) [] ns (suc i) h = absurd h
  walked_get (a ∷ xs) (o ∷ os) [] (suc i) h = absurd h

  one_more : (xs : List A) (os : List IndexRows) (a : A) (o n : IndexRows) → slice_get xs 0 ≡ Some a → slice_get os 0 ≡ Some o → R a o n → Walked xs os (slice_set os 0 n) 1
  one_more [] os a o n at before r = cc
  one_more (b ∷ xs) [] a o n at before r = cc
  one_more (b ∷ xs) (p ∷ os) a o n at before r = let same : b ≡ a = cc in let old : p ≡ o = cc in (rw (same, old) r, refl)

  pub walked_more : (xs : List A) (os ns : List IndexRows) (i : ℕ) (a : A) (o n : IndexRows) → Walked xs os ns i → slice_get xs i ≡ Some a → slice_get os i ≡ Some o → R a o n → Walked xs os (slice_set ns i n) (suc i)
  walked_more xs os ns zero a o n h at before r = rw h (one_more xs os a o n at before r)
  walked_more (b ∷ xs) (p ∷ os) (m ∷ ns) (suc i) a o n h at before r = (h.0, walked_more xs os ns i a o n h.1 at before r)
  walked_more [] os ns (suc i) a o n h at before r = absurd h
  walked_more (b ∷ xs) [] ns (suc i) a o n h at before r = absurd h
  walked_more (b ∷ xs) (p ∷ os) [] (suc i) a o n h at before r = absurd h

  -- the same of the table that a loop comes to
  pub walked_on : (xs : List A) (os ns : List IndexRows) (i : ℕ) (a : A) (d n : IndexRows) → Walked xs os ns i → i < length ns → slice_get xs i ≡ Some a → R a (get_or ns i d) n → Walked xs os (slice_set ns i n) (i + 1)
  walked_on xs os ns i a d n h lt at r = rw add-one (walked_more xs os ns i a (get_or ns i d) n h at (sym (walked_get xs os ns i h) ∙ slice_get-get_or ns i d lt) r)

  pub all_at : (xs : List A) (os ns : List IndexRows) (i : ℕ) (a : A) (o n : IndexRows) → AllChanged R xs os ns → slice_get xs i ≡ Some a → slice_get os i ≡ Some o → slice_get ns i ≡ Some n → R a o n
  all_at xs [] ns i a o n h at before new = cc
  all_at xs (p ∷ os) [] i a o n h at before new = cc
  all_at [] (p ∷ os) (m ∷ ns) i a o n h at before new = cc
  all_at (b ∷ xs) (p ∷ os) (m ∷ ns) zero a o n h at before new = let one : b ≡ a = cc in let two : p ≡ o = cc in let three : m ≡ n = cc in subst (λ b. R b o n) one (subst (λ p. R b p n) two (subst (λ m. R b p m) three h.0))
  all_at (b ∷ xs) (p ∷ os) (m ∷ ns) (suc i) a o n h at before new = all_at xs os ns i a o n h.1 at before new

  pub all_counted : (xs : List A) (os ns : List IndexRows) → AllChanged R xs os ns → length os ≤ length xs
  all_counted xs [] [] h = omega arith
  all_counted xs [] (m ∷ ns) h = absurd h
  all_counted xs (p ∷ os) [] h = absurd h
  all_counted [] (p ∷ os) (m ∷ ns) h = absurd h
  all_counted (b ∷ xs) (p ∷ os) (m ∷ ns) h = omega (arith, all_counted xs os ns h.1)

  none_left : (xs : List A) (os ns : List IndexRows) → ns ≡ os → length os ≤ 0 → AllChanged R xs os ns
  none_left xs [] ns same h = rw same tt
  none_left xs (o ∷ os) ns same h = absurd (omega arith)

  pub walked_all : (xs : List A) (os ns : List IndexRows) (i : ℕ) → Walked xs os ns i → length os ≤ i → AllChanged R xs os ns
  walked_all xs os ns zero h le = none_left xs os ns h le
  walked_all (a ∷ xs) (o ∷ os) (n ∷ ns) (suc i) h le = (h.0, walked_all xs os ns i h.1 (omega arith))
  walked_all [] os ns (suc i) h le = absurd h
  walked_all (a ∷ xs) [] ns (suc i) h le = absurd h
  walked_all (a ∷ xs) (o ∷ os) [] (suc i) h le = absurd h

  -- the one table there is, once it is changed
  pub one_changed : (xs : List A) (os : List IndexRows) (a : A) (d n : IndexRows) → slice_get xs 0 ≡ Some a → 0 < length os → length os ≤ 1 → R a (get_or os 0 d) n → AllChanged R xs os (slice_set os 0 n)
  one_changed xs os a d n at some few r = walked_all xs os _ 1 (walked_on xs os os 0 a d n refl some at r) few

module _ (R : IndexRows → IndexRows → IndexRows → Type 0) (none : (o : IndexRows) → R o o o) where
  all_same : (os ns : List IndexRows) → ns ≡ os → AllChanged R os os ns
  all_same [] ns same = rw same tt
  all_same (o ∷ os) ns same = rw same (none o, all_same os os refl)

  pub walked_kept : (os ns : List IndexRows) (i : ℕ) → Walked R os os ns i → AllChanged R os os ns
  walked_kept os ns zero h = all_same os ns h
  walked_kept (o ∷ os) (n ∷ ns) (suc i) h = (h.0, walked_kept os ns i h.1)
  walked_kept [] ns (suc i) h = absurd h
  walked_kept (o ∷ os) [] (suc i) h = absurd h

-- ---- the lists that are still to come
pub next_at : {A : Type 0} (xs : List A) (i : ℕ) (left more : List A) (x : A) → left ≡ drop i xs → left ≡ x ∷ more → slice_get xs i ≡ Some x
next_at [] zero left more x h e = cc
next_at [] (suc i) left more x h e = cc
next_at (y ∷ xs) zero left more x h e = ap (λ zs. slice_get zs 0) (sym h ∙ e)
next_at (y ∷ xs) (suc i) left more x h e = next_at xs i left more x h e

pub next_left : {A : Type 0} (xs : List A) (i : ℕ) (left more : List A) (x : A) → left ≡ drop i xs → left ≡ x ∷ more → more ≡ drop (i + 1) xs
next_left [] zero left more x h e = cc
next_left [] (suc i) left more x h e = cc
next_left (y ∷ xs) zero left more x h e = cc
next_left (y ∷ xs) (suc i) left more x h e = rw add-one (rw add-one at (next_left xs i left more x h e))

pub none_next : {A : Type 0} (xs : List A) (i : ℕ) (left : List A) → left ≡ drop i xs → length left ≡ 0 → length xs ≤ i
none_next xs i left e none = omega (arith, length-drop i xs, ap length e)

-- ---- tables that come at the end
abbrev pub FilledOn : ℕ → List IndexRows → List IndexRows → Type 0
FilledOn count old new = (fresh : List IndexRows) × (new ≡ old ++ fresh) × (length fresh ≤ count - length old) × AllByRecursion (λ t. (t.rows ≡ no_rows) × (t.spare ≡ 0)) fresh

one_more_empty : (ts : List IndexRows) (t : IndexRows) → AllByRecursion (λ t. (t.rows ≡ no_rows) × (t.spare ≡ 0)) ts → t.rows ≡ no_rows → t.spare ≡ 0 → AllByRecursion (λ t. (t.rows ≡ no_rows) × (t.spare ≡ 0)) (ts ++ t ∷ [])
one_more_empty [] t h rows spare = ((rows, spare), tt)
one_more_empty (u ∷ ts) t h rows spare = (h.0, one_more_empty ts t h.1 rows spare)

pub filled_more : (count : ℕ) (old new : List IndexRows) (t : IndexRows) → FilledOn count old new → length new < count → t.rows ≡ no_rows → t.spare ≡ 0 → FilledOn count old (new ++ t ∷ [])
filled_more count old new t h lt rows spare = (
  h.0 ++ t ∷ [],
  ap (λ ts. ts ++ t ∷ []) h.1 ∙ append_assoc old h.0 (t ∷ []),
  omega (arith, h.2, lt, ap length h.1, length-append old h.0, length-append h.0 (t ∷ [])),
  one_more_empty h.0 t h.3 rows spare,
)

-- ---- two lists side by side
pub paired_get : {A B : Type 0} (xs : List A) (ys : List B) (i : ℕ) (x : A) (y : B) → slice_get xs i ≡ Some x → slice_get ys i ≡ Some y → slice_get (paired xs ys) i ≡ Some (x, y)
paired_get [] ys i x y a b = cc
paired_get (u ∷ xs) [] i x y a b = cc
paired_get (u ∷ xs) (v ∷ ys) zero x y a b = let one : u ≡ x = cc in let two : v ≡ y = cc in λ j. Some (one j, two j)
paired_get (u ∷ xs) (v ∷ ys) (suc i) x y a b = paired_get xs ys i x y a b
