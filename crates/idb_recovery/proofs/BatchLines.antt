-- Lines made of the batches one by one.
--     one_more              the line of the batch at a place comes to the end
use Rattle.std.proofs.Common.{◌≡◌, ℕ, zero, suc, ◌+◌, List, [], ◌∷◌, ◌++◌, map, drop, slice_get, Some, sym, ap, ◌∙◌, add-one}
use Rattle.std.proofs.lemmas.Option.{same_Some}
use Rattle.std.proofs.lemmas.List.{append_assoc}

module _ {X Y : Type 0} (f : X → Y) where
  mapped_here : (xs : List X) (i : ℕ) (x : X) → slice_get xs i ≡ Some x → f x ∷ map f (drop (suc i) xs) ≡ map f (drop i xs)
  mapped_here [] i x at = cc
  mapped_here (y ∷ xs) zero x at = ap (λ z. f z ∷ map f xs) (sym (same_Some y x at))
  mapped_here (y ∷ xs) (suc i) x at = mapped_here xs i x at

  pub one_more : (xs : List X) (i : ℕ) (x : X) (so_far more : List Y) (y : Y) → slice_get xs i ≡ Some x → y ≡ f x → more ≡ so_far ++ y ∷ []
      → so_far ++ map f (drop i xs) ≡ map f xs → more ++ map f (drop (i + 1) xs) ≡ map f xs
  one_more xs i x so_far more y at is pushed invariant =
      rw add-one (ap (λ ys. ys ++ map f (drop (suc i) xs)) pushed
      ∙ append_assoc so_far (y ∷ []) (map f (drop (suc i) xs))
      ∙ ap (λ z. so_far ++ z ∷ map f (drop (suc i) xs)) is
      ∙ ap (λ ys. so_far ++ ys) (mapped_here xs i x at)
      ∙ invariant)
