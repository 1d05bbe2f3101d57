-- What the place says at which a test splits a list.
--     position_of_split, failed_before, passed_behind
use Rattle.std.proofs.Common.{◌≡◌, ℕ, zero, suc, ◌+◌, ◌<◌, ◌≤◌, Bool, true, false, List, [], ◌∷◌, refl, sym, ap, ◌∙◌, Some, length, take, drop, get_or, arith}
use Rattle.std.specs.Prelude.{cond, not, slice_get}
use Rattle.std.specs.List.{AllPass, position_or_len}
use Rattle.std.proofs.lemmas.Option.{slice_get-get_or}
use Rattle.index_tables.specs.Halves.{IsSplitAt}

module _ {A : Type 0} (test : A → Bool) where
  pub position_of_split : (xs : List A) (place : ℕ) → IsSplitAt test xs place → place ≡ position_or_len test xs
  position_of_split [] place s = omega (arith, s.within)
  position_of_split (x ∷ xs) zero s = ap (λ b. cond (not b) (1 + position_or_len test xs) 0) (sym (s.behind 0 x (omega arith) refl))
  position_of_split (x ∷ xs) (suc place) s =
      let rest : IsSplitAt test xs place = record {
        ordered = omega arith;
        within = omega (arith, s.within);
        before = λ i y lt at. s.before (suc i) y (omega arith) at;
        behind = λ i y le at. s.behind (suc i) y (omega arith) at;
      } in
      let here : suc place ≡ 1 + position_or_len test xs = omega (arith, position_of_split xs place rest) in
      here ∙ ap (λ b. cond (not b) (1 + position_or_len test xs) 0) (sym (s.before 0 x (omega arith) refl))

  before_all : (xs : List A) (place : ℕ) → ((i : ℕ) (x : A) → i < place → slice_get xs i ≡ Some x → test x ≡ false) → (k : ℕ) (x : A) → slice_get (take place xs) k ≡ Some x → test x ≡ false
  before_all [] zero h k x e = cc
  before_all [] (suc place) h k x e = cc
  before_all (y ∷ xs) zero h k x e = cc
  before_all (y ∷ xs) (suc place) h zero x e = h 0 x (omega arith) e
  before_all (y ∷ xs) (suc place) h (suc k) x e = before_all xs place (λ i z lt at. h (suc i) z (omega arith) at) k x e

  behind_all : (xs : List A) (place : ℕ) → ((i : ℕ) (x : A) → place ≤ i → slice_get xs i ≡ Some x → test x ≡ true) → (k : ℕ) (x : A) → slice_get (drop place xs) k ≡ Some x → test x ≡ true
  behind_all [] zero h k x e = cc
  behind_all [] (suc place) h k x e = cc
  behind_all (y ∷ xs) zero h k x e = h k x (omega arith) e
  behind_all (y ∷ xs) (suc place) h k x e = behind_all xs place (λ i z le at. h (suc i) z (omega arith) at) k x e

  pub failed_before : (xs : List A) (place : ℕ) → IsSplitAt test xs place → AllPass (λ x. not (test x)) (take place xs)
  failed_before xs place s k d lt = ap not (before_all xs place s.before k (get_or (take place xs) k d) (slice_get-get_or (take place xs) k d lt))

  pub passed_behind : (xs : List A) (place : ℕ) → IsSplitAt test xs place → AllPass test (drop place xs)
  passed_behind xs place s k d lt = behind_all xs place s.behind k (get_or (drop place xs) k d) (slice_get-get_or (drop place xs) k d lt)
