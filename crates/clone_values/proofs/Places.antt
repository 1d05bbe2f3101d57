-- From what `get` answers at a list of values to what stands at that place of the list of their trees; and the list of
-- their trees once one is replaced or inserted.
use Rattle.std.proofs.Common.{◌≡◌, ◌∙◌, ℕ, zero, suc, ◌<◌, ◌≤◌, List, [], ◌∷◌, map, length, get_or, slice_set, Option, Some, None, MatchOption, IfSome, Bor, Result, Ok, Err, OnOk, OnErr, arith, add-one, ap}
use Rattle.std.specs.List.{HoldsAt, insert}
use Rattle.std.proofs.lemmas.List.{map-append, map-set, length-set, take-map, drop-map}
use Rattle.std.proofs.lemmas.Result.{on_ok_weaker}
use Rattle.value_trees.specs.Lists.{StandsAt, IsWithinLimit}

stands : {A B : Type 0} (f : A → B) (vs : List A) (i : ℕ) (x : A) → i < length vs → x ≡ get_or vs i x → StandsAt (map f vs) i (f x)
stands f [] i x lt e = absurd (omega arith)
stands f (v ∷ vs) zero x lt e = ap (λ y. f y ∷ map f vs) (cc)
stands f (v ∷ vs) (suc i) x lt e = rw (add-one (suc i)) (rw (add-one i) at (stands f vs i x (omega arith) e))

pub stands_from_got : {A B : Type 0} (f : A → B) (ws vs : List A) (xs : List B) (i : ℕ) (r : Option (Bor A)) → map f ws ≡ xs → vs ≡ ws
    → MatchOption r (length vs ≤ i) (λ x. (i < length vs) × HoldsAt (λ y. x.now ≡ y) vs i) → IfSome r (λ x. x.now ≡ get_or vs i x.now) → IfSome r (λ x. StandsAt xs i (f x.now))
stands_from_got f ws vs xs i None seen same within value = tt
stands_from_got f ws vs xs i (Some x) seen same within value = rw (← seen, ← same) (stands f vs i x.now within.0 value)

module _ {A B R E : Type 0} (f : A → B) (r : Result R E) (old new : List A) (i : ℕ) (x : A) where
  pub map_replaced : OnOk r (new ≡ slice_set old i x) → OnOk r (map f new ≡ slice_set (map f old) i (f x))
  map_replaced = on_ok_weaker r (λ e. ap (map f) e ∙ map-set f old i x)

  pub map_inserted : OnOk r (new ≡ insert old i x) → OnOk r (map f new ≡ insert (map f old) i (f x))
  map_inserted = on_ok_weaker r (λ e. rw (e, take-map, drop-map) (map-append f _ _))

pub replaced_within : {A B R E : Type 0} (f : A → B) (r : Result R E) (old new : List A) (i : ℕ) (x : A) → IsWithinLimit (map f old) → OnOk r (new ≡ slice_set old i x) → OnErr r (new ≡ old) → IsWithinLimit (map f new)
replaced_within f (Ok _) old new i x h e g = rw (e, map-set) (omega (arith, length-set (map f old) i (f x), h))
replaced_within f (Err _) old new i x h e g = rw g h
