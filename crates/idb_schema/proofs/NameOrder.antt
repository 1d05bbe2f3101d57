-- Entries whose names rise: each name is less than all names behind it.
use Rattle.std.specs.FinMap.{nat_cmp-IsAntisymmetric, slice_cmp-IsAntisymmetric}
use Rattle.std.proofs.Common.{◌≡◌, ℕ, zero, suc, ◌+◌, ◌<◌, Bool, true, ◌&&◌, nat_eq, List, [], ◌∷◌, ◌++◌, length, take, drop, get_or, arith, refl, ◌∙◌, ap, add-one}
use Rattle.std.specs.declared.cmp.Ordering.{Ordering}
use Rattle.std.specs.declared.cmp.Ordering.TheVariants.{Less, Equal, Greater}
use Rattle.std.specs.Ordering.{nat_cmp, is_lt, is_eq, ordering_reverse}
use Rattle.std.specs.Cmp.{first_so, second_so}
use Rattle.std.specs.Cmp.Lexicographic.{slice_cmp, pointwise, texts_ties}
use Rattle.std.specs.List.{AllByRecursion}
use Rattle.std.proofs.lemmas.Cmp.{nat_list_cmp_total}
use Rattle.clone_values.specs.Names.{rises_after, is_rising}
use Rattle.idb_schema.specs.declared.entries.StoreEntry.{StoreEntry}
use Rattle.idb_schema.specs.Schemas.{entry_names, IsBefore, IsBehind}
use Rattle.idb_schema.proofs.All.{all_put, all_remove, all_at, all_weaker}

lt_less : (o : Ordering) → is_lt o ≡ true → o ≡ Less
lt_less Less e = refl
lt_less Equal e = cc
lt_less Greater e = cc

both_true : (a b : Bool) → a ≡ true → b ≡ true → (a && b) ≡ true
both_true a b e f = rw e f

-- the same comparison from the other side
pub turned : (a b : List ℕ) (o : Ordering) → slice_cmp nat_cmp a b ≡ o → slice_cmp nat_cmp b a ≡ ordering_reverse o
turned a b o e = nat_list_cmp_total.antisymm b a ∙ ap ordering_reverse e

-- a comparison tells whether two names are one
pub tells : (a b : List ℕ) (o : Ordering) → slice_cmp nat_cmp a b ≡ o → pointwise nat_eq a b ≡ is_eq o
tells a b o e = texts_ties a b ∙ ap is_eq e

pub same_name : (a b : List ℕ) → slice_cmp nat_cmp a b ≡ Equal → a ≡ b
same_name a b e = slice_cmp-IsAntisymmetric nat_cmp-IsAntisymmetric a b e

-- each name is less than all names behind it
abbrev pub Sorted : List StoreEntry → Type 0
Sorted [] = Unit {0}
Sorted (e ∷ es) = AllByRecursion (λ d. IsBehind e.info.name d) es × Sorted es

behind_all : (a b : List ℕ) (es : List StoreEntry) → slice_cmp nat_cmp a b ≡ Less → AllByRecursion (λ d. IsBehind b d) es → AllByRecursion (λ d. IsBehind a d) es
behind_all a b es lt all = all_weaker (λ d. IsBehind b d) (λ d. IsBehind a d) (λ d h. nat_list_cmp_total.trans a b d.info.name lt h) es all

after_all : (p : List ℕ) (es : List StoreEntry) → rises_after p (entry_names es) ≡ true → AllByRecursion (λ d. IsBehind p d) es × Sorted es
after_all p [] h = (tt, tt)
after_all p (e ∷ es) h =
    let lt : slice_cmp nat_cmp p e.info.name ≡ Less = lt_less _ (first_so (is_lt (slice_cmp nat_cmp p e.info.name)) (rises_after e.info.name (entry_names es)) h) in
    let rest = after_all e.info.name es (second_so (is_lt (slice_cmp nat_cmp p e.info.name)) (rises_after e.info.name (entry_names es)) h) in
    ((lt, behind_all p e.info.name es lt rest.0), rest)

pub sorted_from : (es : List StoreEntry) → is_rising (entry_names es) ≡ true → Sorted es
sorted_from [] h = tt
sorted_from (e ∷ es) h = after_all e.info.name es h

pub rising_from : (es : List StoreEntry) → Sorted es → is_rising (entry_names es) ≡ true
rising_from [] h = refl
rising_from (e ∷ []) h = refl
rising_from (e ∷ d ∷ es) h = both_true (is_lt (slice_cmp nat_cmp e.info.name d.info.name)) _ (ap is_lt h.0.0) (rising_from (d ∷ es) h.1)

-- ---- after a change
pub sorted_remove : (es : List StoreEntry) (i : ℕ) → Sorted es → Sorted (take i es ++ drop (suc i) es)
sorted_remove [] zero h = tt
sorted_remove [] (suc i) h = tt
sorted_remove (e ∷ es) zero h = h.1
sorted_remove (e ∷ es) (suc i) h = (all_remove (λ d. IsBehind e.info.name d) es i h.0, sorted_remove es i h.1)

pub sorted_put : (es : List StoreEntry) (i : ℕ) (e : StoreEntry) → Sorted es
    → AllByRecursion (λ d. IsBefore e.info.name d) (take i es) → AllByRecursion (λ d. IsBehind e.info.name d) (drop i es) → Sorted (take i es ++ e ∷ drop i es)
sorted_put es zero e h before behind = (behind, h)
sorted_put [] (suc i) e h before behind = (tt, tt)
sorted_put (d ∷ es) (suc i) e h before behind = (all_put (λ k. IsBehind d.info.name k) es i e h.0 before.0, sorted_put es i e h.1 before.1 behind)

-- ---- what stands on either side of a place
pub before_at : (es : List StoreEntry) (i : ℕ) (d : StoreEntry) → Sorted es → i < length es → AllByRecursion (λ e. IsBefore (get_or es i d).info.name e) (take i es)
before_at es zero d h lt = tt
before_at [] (suc i) d h lt = absurd (omega arith)
before_at (e ∷ es) (suc i) d h lt = (all_at (λ k. IsBehind e.info.name k) es i d h.0 (omega arith), before_at es i d h.1 (omega arith))

passed_suc : (es : List StoreEntry) (i : ℕ) (d : StoreEntry) (n : List ℕ) → Sorted es → i < length es → slice_cmp nat_cmp (get_or es i d).info.name n ≡ Less → AllByRecursion (λ e. IsBefore n e) (take (suc i) es)
passed_suc [] i d n h lt less = absurd (omega arith)
passed_suc (e ∷ es) zero d n h lt less = (less, tt)
passed_suc (e ∷ es) (suc i) d n h lt less =
    (nat_list_cmp_total.trans e.info.name (get_or es i d).info.name n (all_at (λ k. IsBehind e.info.name k) es i d h.0 (omega arith)) less, passed_suc es i d n h.1 (omega arith) less)

pub passed : (es : List StoreEntry) (i : ℕ) (d : StoreEntry) (n : List ℕ) → Sorted es → i < length es → slice_cmp nat_cmp (get_or es i d).info.name n ≡ Less → AllByRecursion (λ e. IsBefore n e) (take (i + 1) es)
passed es i d n h lt less = rw (add-one i) (passed_suc es i d n h lt less)

pub ahead : (es : List StoreEntry) (i : ℕ) (d : StoreEntry) (n : List ℕ) → Sorted es → i < length es → slice_cmp nat_cmp n (get_or es i d).info.name ≡ Less → AllByRecursion (λ e. IsBehind n e) (drop i es)
ahead [] i d n h lt less = absurd (omega arith)
ahead (e ∷ es) zero d n h lt less = (less, behind_all n e.info.name es less h.0)
ahead (e ∷ es) (suc i) d n h lt less = ahead es i d n h.1 (omega arith) less
