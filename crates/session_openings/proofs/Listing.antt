-- Lists that a loop makes of the entries at its places.
--     none_past             at a place before the end stands an entry
--     listed_more, listed_all       what is made of one more entry;  and of all
--     all_more              what holds of each, of one more
--     all_made, all_listed  what holds of what is made of each entry
use Rattle.std.proofs.Common.{◌≡◌, ℕ, zero, suc, ◌+◌, ◌<◌, ◌≤◌, List, [], ◌∷◌, ◌++◌, map, length, take, Some, None, sym, ◌∙◌, ap, subst, arith}
use Rattle.std.proofs.lemmas.List.{map_more, take_all}
use Rattle.std.proofs.lemmas.Option.{none-some, slice_get_within, get_or_from_slice_get}
use Rattle.std.specs.List.{AllByRecursion, slice_get}

past_end : {X : Type 0} (xs : List X) (place : ℕ) → None ≡ slice_get xs place → length xs ≤ place
past_end [] place none = omega arith
past_end (x ∷ xs) zero none = absurd (none-some x none)
past_end (x ∷ xs) (suc place) none = let rest = past_end xs place none in omega (arith, rest)

pub none_past : {X : Type 0} (xs : List X) (place count : ℕ) → count ≡ length xs → place < count → None ≡ slice_get xs place → ⊥
none_past xs place count is within none = omega (arith, is, within, past_end xs place none)

module _ {X Y : Type 0} (f : X → Y) where
  pub listed_all : (xs : List X) (place count : ℕ) (ys : List Y) → count ≡ length xs → count ≤ place → ys ≡ map f (take place xs) → ys ≡ map f xs
  listed_all xs place count ys is past so_far = so_far ∙ ap (map f) (take_all place xs (omega (arith, is, past)))

  pub listed_more : (xs : List X) (place : ℕ) (x : X) (old new : List Y) (y : Y) → slice_get xs place ≡ Some x → old ≡ map f (take place xs) → y ≡ f x → new ≡ old ++ y ∷ [] → new ≡ map f (take (place + 1) xs)
  listed_more xs place x old new y at so_far one pushed =
      pushed
      ∙ ap (λ ys. ys ++ y ∷ []) so_far
      ∙ ap (λ z. map f (take place xs) ++ z ∷ []) (one ∙ ap f (sym (get_or_from_slice_get xs place x x at)))
      ∙ sym (map_more f xs place x (slice_get_within xs place x at))

  pub all_made : (P : Y → Type 0) (xs : List X) → AllByRecursion (λ x. P (f x)) xs → AllByRecursion P (map f xs)
  all_made P [] all = tt
  all_made P (x ∷ xs) all = (all.0, all_made P xs all.1)

  pub all_listed : (P : Y → Type 0) (xs : List X) → AllByRecursion P (map f xs) → AllByRecursion (λ x. P (f x)) xs
  all_listed P [] all = tt
  all_listed P (x ∷ xs) all = (all.0, all_listed P xs all.1)

pub all_more : {X : Type 0} (P : X → Type 0) (old new : List X) (x : X) → new ≡ old ++ x ∷ [] → AllByRecursion P old → P x → AllByRecursion P new
all_more {X} P old new x pushed all here = subst (AllByRecursion P) (sym pushed) (joined old all)
  where
    joined : (xs : List X) → AllByRecursion P xs → AllByRecursion P (xs ++ x ∷ [])
    joined [] all = (here, tt)
    joined (y ∷ ys) all = (all.0, joined ys all.1)
