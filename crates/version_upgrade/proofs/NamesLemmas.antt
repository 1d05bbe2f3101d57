-- Names among those of definitions.
--     some_named              a name finds a place exactly where it is among the names
--     same_text               names that compare as equal are one
--     rising_distinct         names that rise are distinct
--     put_name, pushed_name, removed_name      the names once one comes or goes
use Rattle.std.proofs.Common.{◌≡◌, ℕ, zero, suc, ◌+◌, ◌<◌, Bool, true, false, nat_eq, nat_lt, if◌then◌else◌, List, [], ◌∷◌, ◌++◌, map, length, take, drop, slice_get, Some, None, arith, refl, sym, ◌∙◌, ap, subst}
use Rattle.std.specs.Prelude.{not, ◌&&◌, ◌||◌, is_some}
use Rattle.std.specs.declared.cmp.Ordering.{Ordering}
use Rattle.std.specs.declared.cmp.Ordering.TheVariants.{Less, Equal, Greater}
use Rattle.std.specs.Ordering.{nat_cmp, is_eq, is_lt, ordering_reverse}
use Rattle.std.specs.Cmp.Lexicographic.{slice_cmp, pointwise, texts_ties}
use Rattle.std.specs.List.{position, position_or_len, list_any}
use Rattle.std.specs.FinMap.{nat_cmp-IsAntisymmetric, slice_cmp-IsAntisymmetric}
use Rattle.std.proofs.lemmas.Cmp.{nat_list_cmp_total, tied_itself}
use Rattle.std.proofs.lemmas.Grind.{common_steps}
use Rattle.clone_values.specs.Names.{rises_after, is_rising}
use Rattle.idb_schema.specs.Definitions.{has_name, are_distinct}

-- ---- by the test and by the names
some_any : {X : Type 0} (test : X → Bool) (xs : List X) → is_some (position test xs) ≡ list_any test xs
some_any test [] = refl
some_any test (x ∷ xs) = grind (arith, common_steps, some_any test xs)

any_named : {X : Type 0} (name : X → List ℕ) (xs : List X) (n : List ℕ) → list_any (λ x. pointwise nat_eq (name x) n) xs ≡ has_name n (map name xs)
any_named name [] n = refl
any_named name (x ∷ xs) n = ap (λ b. pointwise nat_eq (name x) n || b) (any_named name xs n)

pub some_named : {X : Type 0} (name : X → List ℕ) (xs : List X) (n : List ℕ) → is_some (position (λ x. pointwise nat_eq (name x) n) xs) ≡ has_name n (map name xs)
some_named name xs n = some_any (λ x. pointwise nat_eq (name x) n) xs ∙ any_named name xs n

-- ---- one name and another
equal_from : (o : Ordering) → is_eq o ≡ true → o ≡ Equal
equal_from Less e = cc
equal_from Equal e = refl
equal_from Greater e = cc

pub same_text : (a b : List ℕ) → pointwise nat_eq a b ≡ true → a ≡ b
same_text a b e = slice_cmp-IsAntisymmetric nat_cmp-IsAntisymmetric a b (equal_from (slice_cmp nat_cmp a b) (sym (texts_ties a b) ∙ e))

-- of a lesser name and a greater one
apart : (a b : List ℕ) → slice_cmp nat_cmp a b ≡ Less → pointwise nat_eq b a ≡ false
apart a b e = texts_ties b a ∙ ap is_eq (nat_list_cmp_total.antisymm b a ∙ ap ordering_reverse e)

less_from : (o : Ordering) → is_lt o ≡ true → o ≡ Less
less_from Less e = refl
less_from Equal e = cc
less_from Greater e = cc

both : (a b : Bool) → (a && b) ≡ true → (a ≡ true) × (b ≡ true)
both true b e = (refl, e)
both false b e = cc

lacks : (n m : List ℕ) (ms : List (List ℕ)) → slice_cmp nat_cmp n m ≡ Less → rises_after m ms ≡ true → has_name n (m ∷ ms) ≡ false
lacks n m [] lt r = rw (apart n m lt) refl
lacks n m (k ∷ ks) lt r =
    let parts = both _ _ r in
    rw (apart n m lt) (lacks n k ks (nat_list_cmp_total.trans n m k lt (less_from _ parts.0)) parts.1)

lacks_all : (n : List ℕ) (ms : List (List ℕ)) → rises_after n ms ≡ true → has_name n ms ≡ false
lacks_all n [] r = refl
lacks_all n (m ∷ ms) r = let parts = both _ _ r in lacks n m ms (less_from _ parts.0) parts.1

distinct_after : (n : List ℕ) (ms : List (List ℕ)) → rises_after n ms ≡ true → are_distinct (n ∷ ms) ≡ true
distinct_after n [] r = refl
distinct_after n (m ∷ ms) r = rw (lacks_all n (m ∷ ms) r) (distinct_after m ms (both _ _ r).1)

pub rising_distinct : (ns : List (List ℕ)) → is_rising ns ≡ true → are_distinct ns ≡ true
rising_distinct [] r = refl
rising_distinct (n ∷ ns) r = distinct_after n ns r

-- ---- a name comes or goes
pub pushed_name : (ns : List (List ℕ)) (n o : List ℕ) → has_name o (ns ++ n ∷ []) ≡ (pointwise nat_eq n o || has_name o ns)
pushed_name [] n o = refl
pushed_name (m ∷ ms) n o = or_swap _ _ _ _ (pushed_name ms n o)
  where
    or_swap : (x y z w : Bool) → x ≡ (y || w) → (z || x) ≡ (y || (z || w))
    or_swap x true true w e = refl
    or_swap x false true w e = refl
    or_swap x y false w e = e

not_true : (b : Bool) → not b ≡ true → b ≡ false
not_true true e = cc
not_true false e = refl

-- a name that stands in the list is among its names
among : (ns : List (List ℕ)) (p : ℕ) (n : List ℕ) → slice_get ns p ≡ Some n → has_name n ns ≡ true
among [] p n e = cc
among (m ∷ ms) zero n e = let same : m ≡ n = cc in rw (same, texts_ties n n, tied_itself nat_list_cmp_total n) refl
among (m ∷ ms) (suc p) n e = or_true _ _ (among ms p n e)
  where
    or_true : (a b : Bool) → b ≡ true → (a || b) ≡ true
    or_true true b e = refl
    or_true false b e = e

head_gone : (a b : Bool) → (a ≡ true → b ≡ false) → b ≡ ((a || b) && not a)
head_gone true b f = f refl
head_gone false true f = refl
head_gone false false f = refl

later_gone : (x r w a : Bool) → (x ≡ true → a ≡ false) → r ≡ (w && not a) → (x || r) ≡ ((x || w) && not a)
later_gone true r w a f e = rw (f refl) refl
later_gone false r w a f e = e

pub removed_name : (ns : List (List ℕ)) (p : ℕ) (n o : List ℕ) → are_distinct ns ≡ true → slice_get ns p ≡ Some n
    → has_name o (take p ns ++ drop (suc p) ns) ≡ (has_name o ns && not (pointwise nat_eq n o))
removed_name [] p n o d e = cc
removed_name (m ∷ ms) zero n o d e =
    let same : m ≡ n = cc in
    let none : has_name m ms ≡ false = not_true _ (both _ _ d).0 in
    rw (← same) (head_gone (pointwise nat_eq m o) (has_name o ms) (λ is. ap (λ k. has_name k ms) (sym (same_text m o is)) ∙ none))
removed_name (m ∷ ms) (suc p) n o d e =
    let parts = both _ _ d in
    later_gone (pointwise nat_eq m o) _ (has_name o ms) (pointwise nat_eq n o)
    (λ is. other m n o ms p (not_true _ parts.0) e is) (removed_name ms p n o parts.1 e)
  where
    false_from : (b : Bool) → (b ≡ true → ⊥) → b ≡ false
    false_from true f = absurd (f refl)
    false_from false f = refl

    other : (m n o : List ℕ) (ms : List (List ℕ)) (p : ℕ) → has_name m ms ≡ false → slice_get ms p ≡ Some n → pointwise nat_eq m o ≡ true → pointwise nat_eq n o ≡ false
    other m n o ms p none at is = false_from _ (λ two. let same : n ≡ m = same_text n o two ∙ sym (same_text m o is) in let there : has_name m ms ≡ true = ap (λ k. has_name k ms) (sym same) ∙ among ms p n at in cc)

-- a name that is not there may go
pub absent_name : (ns : List (List ℕ)) (n o : List ℕ) → has_name n ns ≡ false → has_name o ns ≡ (has_name o ns && not (pointwise nat_eq n o))
absent_name ns n o none = by_test (pointwise nat_eq n o) (has_name o ns) (λ is. ap (λ k. has_name k ns) (sym (same_text n o is)) ∙ none)
  where
    by_test : (a b : Bool) → (a ≡ true → b ≡ false) → b ≡ (b && not a)
    by_test true true f = f refl
    by_test true false f = refl
    by_test false true f = refl
    by_test false false f = refl
