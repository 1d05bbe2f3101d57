-- The halves of a run that is split.
--     before_lower, before_upper      how much stands before them
--     lower_size, upper_size          how much they have
use Rattle.std.proofs.Common.{◌≡◌, ℕ, zero, suc, ◌+◌, ◌-◌, ◌<◌, ◌≤◌, List, [], ◌∷◌, length, take, drop, refl, sym, ap, ◌∙◌, arith, length-append, length-drop}
use Rattle.std.proofs.lemmas.List.{length-take-le}
use Rattle.leaf_blocks.specs.Leaves.{joined, before, leaf_at, split_run}

take_none : {A : Type 0} (h : ℕ) → [] ≡ take {A = A} h []
take_none zero = refl
take_none (suc h) = refl

drop_none : {A : Type 0} (h : ℕ) → [] ≡ drop {A = A} h []
drop_none zero = refl
drop_none (suc h) = refl

module _ {A : Type 0} where
  split_lower : (h : ℕ) (ls : List (List A)) (i : ℕ) → leaf_at (split_run h ls i) i ≡ take h (leaf_at ls i)
  split_lower h [] zero = take_none h
  split_lower h [] (suc i) = take_none h
  split_lower h (l ∷ ls) zero = refl
  split_lower h (l ∷ ls) (suc i) = split_lower h ls i

  split_upper : (h : ℕ) (ls : List (List A)) (i : ℕ) → leaf_at (split_run h ls i) (suc i) ≡ drop h (leaf_at ls i)
  split_upper h [] zero = drop_none h
  split_upper h [] (suc i) = drop_none h
  split_upper h (l ∷ ls) zero = refl
  split_upper h (l ∷ ls) (suc i) = split_upper h ls i

  pub before_lower : (h : ℕ) (ls : List (List A)) (i : ℕ) → before (split_run h ls i) i ≡ before ls i
  before_lower h [] zero = refl
  before_lower h [] (suc i) = refl
  before_lower h (l ∷ ls) zero = refl
  before_lower h (l ∷ ls) (suc i) =
      length-append l (joined (take i (split_run h ls i))) ∙ ap (λ n. length l + n) (before_lower h ls i) ∙ sym (length-append l (joined (take i ls)))

  pub before_upper : (h : ℕ) (ls : List (List A)) (i : ℕ) → i < length ls → h ≤ length (leaf_at ls i) → before (split_run h ls i) (suc i) ≡ before ls i + h
  before_upper h [] i w e = absurd (omega arith)
  before_upper h (l ∷ ls) zero w e = omega (arith, length-append (take h l) [], length-take-le h l e)
  before_upper h (l ∷ ls) (suc i) w e =
      omega (arith, length-append l (joined (take (suc i) (split_run h ls i))), before_upper h ls i (omega arith) e, length-append l (joined (take i ls)))

  pub lower_size : (h : ℕ) (ls : List (List A)) (i : ℕ) → h ≤ length (leaf_at ls i) → length (leaf_at (split_run h ls i) i) ≡ h
  lower_size h ls i e = ap length (split_lower h ls i) ∙ length-take-le h (leaf_at ls i) e

  pub upper_size : (h : ℕ) (ls : List (List A)) (i : ℕ) → length (leaf_at (split_run h ls i) (suc i)) ≡ length (leaf_at ls i) - h
  upper_size h ls i = ap length (split_upper h ls i) ∙ length-drop h (leaf_at ls i)
