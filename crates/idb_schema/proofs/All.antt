-- What holds of each member of a list, and the place of the first member that passes a test.
use Rattle.std.proofs.Common.{◌≡◌, ℕ, zero, suc, ◌<◌, ◌≤◌, Bool, true, false, if◌then◌else◌, nat_lt, slice_get, List, [], ◌∷◌, ◌++◌, map, length, take, drop, get_or, Some, None, arith, refl, ap, subst}
use Rattle.std.specs.List.{AllByRecursion, position, position_or_len}
use Rattle.std.proofs.lemmas.List.{length-map}
use Rattle.std.proofs.lemmas.Grind.{common_steps}

module _ {X : Type 0} (P : X → Type 0) where
  pub all_join : (xs ys : List X) → AllByRecursion P xs → AllByRecursion P ys → AllByRecursion P (xs ++ ys)
  all_join [] ys a b = b
  all_join (x ∷ xs) ys a b = (a.0, all_join xs ys a.1 b)

  pub all_put : (xs : List X) (i : ℕ) (y : X) → AllByRecursion P xs → P y → AllByRecursion P (take i xs ++ y ∷ drop i xs)
  all_put xs zero y a p = (p, a)
  all_put [] (suc i) y a p = (p, tt)
  all_put (x ∷ xs) (suc i) y a p = (a.0, all_put xs i y a.1 p)

  pub all_remove : (xs : List X) (i : ℕ) → AllByRecursion P xs → AllByRecursion P (take i xs ++ drop (suc i) xs)
  all_remove [] zero a = tt
  all_remove [] (suc i) a = tt
  all_remove (x ∷ xs) zero a = a.1
  all_remove (x ∷ xs) (suc i) a = (a.0, all_remove xs i a.1)

  pub all_at : (xs : List X) (i : ℕ) (d : X) → AllByRecursion P xs → i < length xs → P (get_or xs i d)
  all_at [] i d a lt = absurd (omega arith)
  all_at (x ∷ xs) zero d a lt = a.0
  all_at (x ∷ xs) (suc i) d a lt = all_at xs i d a.1 (omega arith)

pub all_weaker : {X : Type 0} (P Q : X → Type 0) → ((x : X) → P x → Q x) → (xs : List X) → AllByRecursion P xs → AllByRecursion Q xs
all_weaker P Q f [] a = tt
all_weaker P Q f (x ∷ xs) a = (f x a.0, all_weaker P Q f xs a.1)

-- ---- the first member that passes
at_end : (k n : ℕ) → k ≡ n → (if nat_lt k n then Some k else None) ≡ None
at_end k n e = grind (arith, common_steps)

pub within : (k n i : ℕ) → k ≡ i → i < n → (if nat_lt k n then Some k else None) ≡ Some i
within k n i e lt = grind (arith, common_steps)

module _ {X Y : Type 0} (f : X → Y) (p : Y → Bool) where
  no_first : (xs : List X) → AllByRecursion (λ x. p (f x) ≡ false) xs → position_or_len p (map f xs) ≡ length (map f xs)
  no_first [] a = refl
  no_first (x ∷ xs) a = rw a.0 (grind (arith, common_steps, no_first xs a.1))

  first : (xs : List X) (i : ℕ) (d : X) → AllByRecursion (λ x. p (f x) ≡ false) (take i xs) → i < length xs → p (f (get_or xs i d)) ≡ true → position_or_len p (map f xs) ≡ i
  first [] i d a lt e = absurd (omega arith)
  first (x ∷ xs) zero d a lt e = rw e refl
  first (x ∷ xs) (suc i) d a lt e = rw a.0 (grind (arith, common_steps, first xs i d a.1 (omega arith) e))

  pub none_passes : (xs : List X) → AllByRecursion (λ x. p (f x) ≡ false) xs → position p (map f xs) ≡ None
  none_passes xs a = at_end (position_or_len p (map f xs)) (length (map f xs)) (no_first xs a)

  pub first_passes : (xs : List X) (i : ℕ) (d : X) → AllByRecursion (λ x. p (f x) ≡ false) (take i xs) → i < length xs → p (f (get_or xs i d)) ≡ true → position p (map f xs) ≡ Some i
  first_passes xs i d a lt e = within (position_or_len p (map f xs)) (length (map f xs)) i (first xs i d a lt e) (omega (arith, length-map xs f))

-- ---- past the end of a list nothing stands
nothing_past : {X Y : Type 0} (f : X → Y) (xs : List X) (i : ℕ) → length xs ≤ i → slice_get (map f xs) i ≡ None
nothing_past f [] i le = refl
nothing_past f (x ∷ xs) zero le = absurd (omega arith)
nothing_past f (x ∷ xs) (suc i) le = nothing_past f xs i (omega arith)

pub past_the_end : {X Y : Type 0} (f : X → Y) (ws vs : List X) (ys : List Y) (i : ℕ) → map f ws ≡ ys → vs ≡ ws → length vs ≤ i → slice_get ys i ≡ None
past_the_end f ws vs ys i seen same le = rw (← seen) (nothing_past f ws i (omega (arith, ap length same)))

pub all_got : {X : Type 0} (P : X → Type 0) (xs : List X) (i : ℕ) (x : X) → AllByRecursion P xs → slice_get xs i ≡ Some x → P x
all_got P [] i x a e = absurd (cc)
all_got P (y ∷ ys) zero x a e = let same : y ≡ x = cc in subst P same a.0
all_got P (y ∷ ys) (suc i) x a e = all_got P ys i x a.1 e
