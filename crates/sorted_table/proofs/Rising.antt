-- Lists whose keys rise strictly.
--     all_from_below, below_remove, sorted_remove      what stays below, and what stays in order
--     below_through, above_from                        on which side of a key the entries stand, told by one of them
--     stands, stands_tied                              an entry that ties with a key is the entry of the key
--     above_read, below_read, has_read                 the same, of an entry that was read
use Rattle.std.proofs.Common.{◌≡◌, ℕ, ◌+◌, ◌<◌, zero, suc, Bool, true, false, ◌&&◌, T, List, [], ◌∷◌, length, take, drop, get_or, remove, slice_get, Some, Ordering, Less, Equal, Greater, is_lt, refl, sym, ap, ◌∙◌, subst, add-one}
use Rattle.std.specs.Ordering.{ordering_reverse}
use Rattle.std.specs.Cmp.{IsTotalOrder}
use Rattle.std.specs.FinMap.{IsAntisymmetric}
use Rattle.std.specs.FinMap.Entries.{below_all}
use Rattle.std.proofs.lemmas.Option.{none-some, same_Some, slice_get-get_or}
use Rattle.sorted_table.specs.Tables.{IsSorted, AreBelow, AreAbove, HasKeyAt}

pub both : (a b : Bool) → T a → T b → T (a && b)
both true b p q = q
both false b p q = p

pub first : (a b : Bool) → T (a && b) → T a
first true b p = tt
first false b p = p

pub second : (a b : Bool) → T (a && b) → T b
second true b p = p
second false b p = absurd p

pub is_less : (r : Ordering) → T (is_lt r) → r ≡ Less
is_less Less p = refl
is_less Equal p = absurd p
is_less Greater p = absurd p

-- the two words for "less than each of these"
pub all_from_below : {K V : Type 0} (R : K → K → Ordering) (x : K) (es : List (K × V)) → T (below_all R x es) → AreAbove R es x
all_from_below R x [] h = tt
all_from_below R x (e ∷ es) h = (is_less _ (first _ _ h), all_from_below R x es (second _ _ h))

below_remove : {K V : Type 0} (R : K → K → Ordering) (x : K) (es : List (K × V)) (i : ℕ) → T (below_all R x es) → T (below_all R x (remove es i))
below_remove R x [] zero h = tt
below_remove R x [] (suc i) h = tt
below_remove R x (e ∷ es) zero h = second _ _ h
below_remove R x (e ∷ es) (suc i) h = both _ _ (first _ _ h) (below_remove R x es i (second _ _ h))

-- a list stays in order when an entry is taken out
pub sorted_remove : {K V : Type 0} (R : K → K → Ordering) (es : List (K × V)) (i : ℕ) → IsSorted R es → IsSorted R (remove es i)
sorted_remove R [] zero h = tt
sorted_remove R [] (suc i) h = tt
sorted_remove R (e ∷ es) zero h = second _ _ h
sorted_remove R (e ∷ es) (suc i) h = both _ _ (below_remove R e.0 es i (first _ _ h)) (sorted_remove R es i (second _ _ h))

module _ {K : Type 0} {R : K → K → Ordering} (o : IsTotalOrder R) where
  pub swapped_less : (x y : K) → R x y ≡ Less → R y x ≡ Greater
  swapped_less x y h = o.antisymm y x ∙ ap ordering_reverse h

  pub swapped_greater : (x y : K) → R x y ≡ Greater → R y x ≡ Less
  swapped_greater x y h = o.antisymm y x ∙ ap ordering_reverse h

module _ {K V : Type 0} {R : K → K → Ordering} (o : IsTotalOrder R) where
  above_chain : (x y : K) (es : List (K × V)) → R x y ≡ Less → AreAbove R es y → AreAbove R es x
  above_chain x y [] p h = tt
  above_chain x y (e ∷ es) p h = (o.trans x y e.0 p h.0, above_chain x y es p h.1)

  -- the entry at a place stands among those that are greater
  above_at : (x : K) (es : List (K × V)) (i : ℕ) (e : K × V) → AreAbove R es x → slice_get es i ≡ Some e → R x e.0 ≡ Less
  above_at x [] i e h s = absurd (none-some e s)
  above_at x (d ∷ es) zero e h s = subst (λ (y : K × V). R x y.0 ≡ Less) (same_Some d e s) h.0
  above_at x (d ∷ es) (suc i) e h s = above_at x es i e h.1 s

  through : (es : List (K × V)) (i : ℕ) (e : K × V) (k : K) → IsSorted R es → slice_get es i ≡ Some e → R e.0 k ≡ Less → AreBelow R (take (suc i) es) k
  through [] i e k h s l = tt
  through (d ∷ es) zero e k h s l = (subst (λ (y : K × V). R y.0 k ≡ Less) (sym (same_Some d e s)) l, tt)
  through (d ∷ es) (suc i) e k h s l =
      (o.trans d.0 e.0 k (above_at d.0 es i e (all_from_below R d.0 es (first _ _ h)) s) l, through es i e k (second _ _ h) s l)

  -- if an entry's key is less than k, so are those before it
  pub below_through : (es : List (K × V)) (i : ℕ) (e : K × V) (k : K) → IsSorted R es → slice_get es i ≡ Some e → R e.0 k ≡ Less → AreBelow R (take (i + 1) es) k
  below_through es i e k h s l = rw add-one (through es i e k h s l)

  -- if an entry's key is greater than k, so are those behind it
  pub above_from : (es : List (K × V)) (i : ℕ) (e : K × V) (k : K) → IsSorted R es → slice_get es i ≡ Some e → R k e.0 ≡ Less → AreAbove R (drop i es) k
  above_from [] i e k h s l = absurd (none-some e s)
  above_from (d ∷ es) zero e k h s l =
      let l' = subst (λ (y : K × V). R k y.0 ≡ Less) (sym (same_Some d e s)) l in
      (l', above_chain k d.0 es l' (all_from_below R d.0 es (first _ _ h)))
  above_from (d ∷ es) (suc i) e k h s l = above_from es i e k (second _ _ h) s l

  before_it : (es : List (K × V)) (i : ℕ) (e : K × V) → IsSorted R es → slice_get es i ≡ Some e → AreBelow R (take i es) e.0
  before_it [] i e h s = absurd (none-some e s)
  before_it (d ∷ es) zero e h s = tt
  before_it (d ∷ es) (suc i) e h s = (above_at d.0 es i e (all_from_below R d.0 es (first _ _ h)) s, before_it es i e (second _ _ h) s)

  behind_it : (es : List (K × V)) (i : ℕ) (e : K × V) → IsSorted R es → slice_get es i ≡ Some e → AreAbove R (drop (suc i) es) e.0
  behind_it [] i e h s = absurd (none-some e s)
  behind_it (d ∷ es) zero e h s = subst (λ (y : K × V). AreAbove R es y.0) (same_Some d e s) (all_from_below R d.0 es (first _ _ h))
  behind_it (d ∷ es) (suc i) e h s = behind_it es i e (second _ _ h) s

  -- an entry of a list in order is the entry of its key
  pub stands : (es : List (K × V)) (i : ℕ) (k : K) (v : V) → IsSorted R es → slice_get es i ≡ Some (k, v) → HasKeyAt R es i k
  stands es i k v h s = record {
    value = v;
    stands = s;
    before = before_it es i (k, v) h s;
    behind = rw add-one (behind_it es i (k, v) h s);
  }

  -- and of each key that ties
  pub stands_tied : IsAntisymmetric R → (es : List (K × V)) (i : ℕ) (e : K × V) (k : K) → IsSorted R es → slice_get es i ≡ Some e → R k e.0 ≡ Equal → HasKeyAt R es i k
  stands_tied same es i e k h s t = subst (λ (q : K). HasKeyAt R es i q) (sym (same k e.0 t)) (stands es i e.0 e.1 h s)

  -- the same of the entry that was read at a place
  pub above_read : (es : List (K × V)) (i : ℕ) (d : K × V) (k : K) → IsSorted R es → i < length es → R k (get_or es i d).0 ≡ Less → AreAbove R (drop i es) k
  above_read es i d k h w l = above_from es i (get_or es i d) k h (slice_get-get_or es i d w) l

  pub below_read : (es : List (K × V)) (i : ℕ) (d : K × V) (k : K) → IsSorted R es → i < length es → R k (get_or es i d).0 ≡ Greater → AreBelow R (take (i + 1) es) k
  below_read es i d k h w l = below_through es i (get_or es i d) k h (slice_get-get_or es i d w) (swapped_greater o k (get_or es i d).0 l)

  pub has_read : IsAntisymmetric R → (es : List (K × V)) (i : ℕ) (d : K × V) (k : K) → IsSorted R es → i < length es → R k (get_or es i d).0 ≡ Equal → HasKeyAt R es i k
  has_read same es i d k h w t = stands_tied same es i (get_or es i d) k h (slice_get-get_or es i d w) t
