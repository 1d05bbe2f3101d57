-- The first of a list that passes a test.
use Rattle.std.proofs.Common.{◌≡◌, ℕ, zero, suc, ◌+◌, ◌<◌, ◌≤◌, Bool, true, false, ◌||◌, cond, List, [], ◌∷◌, length, get_or, slice_set, position, Option, Some, None, arith, refl, ap, sym, ◌∙◌}
use Rattle.std.proofs.Math.Dec.{ltb}
use Rattle.std.specs.List.{find, position_or_len, list_any}
use Rattle.std.proofs.lemmas.List.Quantifiers.{position-Some}
use Rattle.std.proofs.lemmas.Option.{cond_some}
use borrow.Author.Tests.{ltb-false}
use Rattle.name_queues.specs.Names.{at_first}

-- the first stands at this place
pub changed_there : {A : Type 0} (test : A → Bool) (f : A → A) (xs : List A) (i : ℕ) (d : A) → i < length xs → test (get_or xs i d) ≡ true → ((k : ℕ) → k < i → test (get_or xs k d) ≡ false) → at_first test f xs ≡ slice_set xs i (f (get_or xs i d))
changed_there test f [] i d l t n = absurd (omega arith)
changed_there test f (x ∷ xs) zero d l t n = rw t refl
changed_there test f (x ∷ xs) (suc i) d l t n =
    let no : test x ≡ false = n 0 (omega arith) in
    rw no (ap (λ ys. x ∷ ys) (changed_there test f xs i d (omega arith) t (λ k h. n (suc k) (omega arith))))

pub found_there : {A : Type 0} (test : A → Bool) (xs : List A) (i : ℕ) (d : A) → i < length xs → test (get_or xs i d) ≡ true → ((k : ℕ) → k < i → test (get_or xs k d) ≡ false) → find test xs ≡ Some (get_or xs i d)
found_there test [] i d l t n = absurd (omega arith)
found_there test (x ∷ xs) zero d l t n = rw t refl
found_there test (x ∷ xs) (suc i) d l t n =
    let no : test x ≡ false = n 0 (omega arith) in
    rw no (found_there test xs i d (omega arith) t (λ k h. n (suc k) (omega arith)))

-- none passes
pub record IsPlace {A : Type 0} (test : A → Bool) (xs : List A) (i : ℕ) (x : A) : Type 0 where
  pub within : i < length xs
  pub passes : test x ≡ true
  pub found : find test xs ≡ Some x
  pub changed : (f : A → A) → at_first test f xs ≡ slice_set xs i (f x)

-- what a place that was found tells
pub place_of : {A : Type 0} (test : A → Bool) (xs : List A) (i : ℕ) (x : A) → Some i ≡ position test xs → x ≡ get_or xs i x → IsPlace test xs i x
place_of test xs i x e h =
    let p = position-Some test xs i x (sym e) in
    record {
      within = p.0;
      passes = rw h p.1;
      found = found_there test xs i x p.0 p.1 p.2 ∙ ap Some (sym h);
      changed = λ f. changed_there test f xs i x p.0 p.1 p.2 ∙ ap (λ y. slice_set xs i (f y)) (sym h);
    }

none_of : {A : Type 0} (b : Bool) (x : A) → cond b (Some x) None ≡ None → b ≡ false
none_of true x e = cc
none_of false x e = refl

pub record IsNowhere {A : Type 0} (test : A → Bool) (xs : List A) : Type 0 where
  pub found : find test xs ≡ None
  pub changed : (f : A → A) → at_first test f xs ≡ xs

pub at_end : {A : Type 0} (test : A → Bool) (xs : List A) → position_or_len test xs ≤ length xs
at_end test [] = omega arith
at_end test (x ∷ xs) = let ih = at_end test xs in elim (test x) as (λ b. b ≡ test x → position_or_len test (x ∷ xs) ≤ length (x ∷ xs)) [ true ↦ λ e. rw (← e) (omega arith) | false ↦ λ e. rw (← e) (omega arith) ] refl

none_passes : {A : Type 0} (test : A → Bool) (xs : List A) → length xs ≤ position_or_len test xs → IsNowhere test xs
none_passes test [] l = record { found = refl; changed = λ f. refl }
none_passes test (x ∷ xs) l = elim (test x) as (λ b. test x ≡ b → IsNowhere test (x ∷ xs)) [
  | true ↦ λ e. let bad : suc (length xs) ≤ 0 = rw e at l in absurd (omega (arith, bad))
  | false ↦ λ e.
      let more : suc (length xs) ≤ 1 + position_or_len test xs = rw e at l in
      let ih = none_passes test xs (omega (arith, more)) in
      record { found = rw e ih.found; changed = λ f. rw e (ap (λ ys. x ∷ ys) (ih.changed f)) }
] refl

pub nowhere : {A : Type 0} (test : A → Bool) (xs : List A) → None ≡ position test xs → IsNowhere test xs
nowhere test xs e =
    none_passes test xs (ltb-false _ _ (none_of (ltb (position_or_len test xs) (length xs)) _ (sym e)))

-- the same where the list was read through a lent one
pub place_in : {A : Type 0} (test : A → Bool) (xs ds : List A) (i : ℕ) (x : A) → ds ≡ xs → Some i ≡ position test ds → x ≡ get_or xs i x → IsPlace test xs i x
place_in test xs ds i x s e h = place_of test xs i x (e ∙ ap (position test) s) h

pub nowhere_in : {A : Type 0} (test : A → Bool) (xs ds : List A) → ds ≡ xs → None ≡ position test ds → IsNowhere test xs
nowhere_in test xs ds s e = nowhere test xs (e ∙ ap (position test) s)

-- where no place is found, or where it is
pub gap_some : {A : Type 0} (test : A → Bool) (xs : List A) (i : ℕ) → Some i ≡ position test xs → i ≡ position_or_len test xs
gap_some test xs i e = sym (cond_some (ltb (position_or_len test xs) (length xs)) (position_or_len test xs) i (sym e)).1

pub gap_none : {A : Type 0} (test : A → Bool) (xs : List A) → None ≡ position test xs → length xs ≡ position_or_len test xs
gap_none test xs e =
    let l : length xs ≤ position_or_len test xs = ltb-false _ _ (none_of (ltb (position_or_len test xs) (length xs)) _ (sym e)) in
    omega (arith, l, at_end test xs)

pub any_there : {A : Type 0} (test : A → Bool) (xs : List A) (x : A) → find test xs ≡ Some x → list_any test xs ≡ true
any_there test [] x e = cc
any_there test (y ∷ ys) x e = elim (test y) as (λ b. cond b (Some y) (find test ys) ≡ Some x → b || list_any test ys ≡ true) [ true ↦ λ e. refl | false ↦ λ e. any_there test ys x e ] e

pub any_nowhere : {A : Type 0} (test : A → Bool) (xs : List A) → find test xs ≡ None → list_any test xs ≡ false
any_nowhere test [] e = refl
any_nowhere test (y ∷ ys) e = elim (test y) as (λ b. cond b (Some y) (find test ys) ≡ None → b || list_any test ys ≡ false) [ true ↦ λ e. cc | false ↦ λ e. any_nowhere test ys e ] e
