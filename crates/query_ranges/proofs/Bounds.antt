-- Which bounds exclude each other, as a test.
use Rattle.std.proofs.Common.{◌≡◌, Bool, true, false, ◌&&◌, ◌||◌, refl, sym, ap, ◌∙◌, subst, inl, inr, ◌⊎◌}
use Rattle.std.specs.declared.cmp.Ordering.{Ordering}
use Rattle.std.specs.declared.cmp.Ordering.TheVariants.{Less, Equal, Greater}
use Rattle.std.specs.Ordering.{is_lt, is_eq, ordering_reverse}
use Rattle.std.specs.Cmp.{IsTotalOrder}
use Rattle.std.specs.FinMap.{IsAntisymmetric}
use Rattle.clone_values.specs.KeyTree.{KeyTree}
use Rattle.key_order.specs.KeyOrder.{key_cmp}
use Rattle.idb_keys.specs.KeyRange.{Bound, Range, BoundsExclude, range_between}
use Rattle.query_ranges.specs.Queries.{Wanted, keys_in, no_query, bounds_exclude, wanted_bounds}

or_split : (a b : Bool) → (a || b) ≡ true → (a ≡ true) ⊎ (b ≡ true)
or_split true b e = inl refl
or_split false b e = inr e

and_split : (a b : Bool) → (a && b) ≡ true → (a ≡ true) × (b ≡ true)
and_split true b e = (refl, e)
and_split false b e = cc

or_true : (a b : Bool) → b ≡ true → (a || b) ≡ true
or_true true b e = refl
or_true false b e = e

lt_is : (o : Ordering) → is_lt o ≡ true → o ≡ Less
lt_is Less e = refl
lt_is Equal e = cc
lt_is Greater e = cc

eq_is : (o : Ordering) → is_eq o ≡ true → o ≡ Equal
eq_is Less e = cc
eq_is Equal e = refl
eq_is Greater e = cc

own_reverse : (o : Ordering) → o ≡ ordering_reverse o → o ≡ Equal
own_reverse Less e = cc
own_reverse Equal e = refl
own_reverse Greater e = cc

one_open : (a b : Bool) → (a ≡ true) ⊎ (b ≡ true) → (a || b) ≡ true
one_open true b e = refl
one_open false b (inl e) = cc
one_open false b (inr e) = e

module _ (total : IsTotalOrder key_cmp) (same : IsAntisymmetric key_cmp) where
  excluded : (l u : Bound) → BoundsExclude l u → bounds_exclude l u ≡ true
  excluded l u (inl below) = rw below refl
  excluded l u (inr p) =
      let equal : key_cmp l.key u.key ≡ Equal = subst (λ k. key_cmp l.key k ≡ Equal) p.0 (own_reverse (key_cmp l.key l.key) (total.antisymm l.key l.key)) in
      or_true (is_lt (key_cmp u.key l.key)) _ (rw equal (one_open l.is_open u.is_open p.1))

  excludes : (l u : Bound) → bounds_exclude l u ≡ true → BoundsExclude l u
  excludes l u e = elim (or_split _ _ e) [
    | inl below ↦ inl (lt_is (key_cmp u.key l.key) below)
    | inr both ↦ let p = and_split _ _ both in inr (same l.key u.key (eq_is (key_cmp l.key u.key) p.0), or_split _ _ p.1)
  ]

  not_excluded : (b : Bool) (l u : Bound) → bounds_exclude l u ≡ b → ¬ BoundsExclude l u → b ≡ false
  not_excluded true l u e n = absurd (n (excludes l u e))
  not_excluded false l u e n = refl

  pub bounds_taken : (l u : Bound) (range : Range) → range ≡ range_between l u → ¬ BoundsExclude l u → keys_in range ≡ wanted_bounds l u
  bounds_taken l u range e n = let b : bounds_exclude l u ≡ false = not_excluded (bounds_exclude l u) l u refl n in rw b (ap keys_in e)

  pub bounds_refused : (l u : Bound) → BoundsExclude l u → no_query ≡ wanted_bounds l u
  bounds_refused l u x = let b : bounds_exclude l u ≡ true = excluded l u x in rw b refl
