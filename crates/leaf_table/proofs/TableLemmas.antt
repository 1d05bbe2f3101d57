-- What an entry that was read says of its table.
--     above_got, below_got, has_got, last_got      on which side of a key the entries stand, told by one of them
--     got_passed                                   what a test of its key says
use Rattle.std.proofs.Common.{◌≡◌, ◌∙◌, ℕ, ◌+◌, ◌-◌, Bool, List, option_map, length, take, drop, slice_get, get_or, Some, Ordering, Less, Equal, Greater, sym, ap, subst, arith}
use Rattle.std.specs.Cmp.{IsTotalOrder}
use Rattle.std.specs.FinMap.{IsAntisymmetric}
use Rattle.std.proofs.lemmas.Option.{get_or_from_slice_get}
use Rattle.sorted_table.specs.Tables.{IsSorted, AreBelow, AreAbove, HasKeyAt, BelongsAt}
use Rattle.sorted_table.proofs.Laws.{stands_tied, above_from, below_through, swapped_greater, past_last}

module _ {K V : Type 0} {R : K → K → Ordering} (o : IsTotalOrder R) where
  pub above_got : (es : List (K × V)) (i : ℕ) (e : K × V) (k : K) → IsSorted R es → slice_get es i ≡ Some e → R k e.0 ≡ Less → AreAbove R (drop i es) k
  above_got es i e k h s l = above_from o es i e k h s l

  pub below_got : (es : List (K × V)) (i : ℕ) (e : K × V) (k : K) → IsSorted R es → slice_get es i ≡ Some e → R k e.0 ≡ Greater → AreBelow R (take (i + 1) es) k
  below_got es i e k h s l = below_through o es i e k h s (swapped_greater o k e.0 l)

  pub has_got : IsAntisymmetric R → (es : List (K × V)) (i : ℕ) (e : K × V) (k : K) → IsSorted R es → slice_get es i ≡ Some e → R k e.0 ≡ Equal → HasKeyAt R es i k
  has_got same es i e k h s t = stands_tied o same es i e k h s t

  pub last_got : (es : List (K × V)) (i : ℕ) (e : K × V) (k : K) → IsSorted R es → slice_get es i ≡ Some e → i + 1 ≡ length es → R k e.0 ≡ Greater → BelongsAt R es (i + 1) k
  last_got es i e k h s n l =
      let last : length es - 1 ≡ i = omega arith in
      let read = get_or_from_slice_get es i e e s in
      subst (λ j. BelongsAt R es j k) (ap (λ j. j + 1) last)
      (past_last o es e k h (omega arith) (subst (λ j. R k (get_or es j e).0 ≡ Greater) (sym last) (subst (λ (x : K × V). R k x.0 ≡ Greater) (sym read) l)))

-- what a test of its key says of an entry that was read
pub got_passed : {K V : Type 0} (passes : K → Bool) (es : List (K × V)) (i : ℕ) (e : K × V) (b : Bool) → slice_get es i ≡ Some e → b ≡ passes e.0 → option_map (λ (x : K × V). passes x.0) (slice_get es i) ≡ Some b
got_passed {K} {V} passes es i e b at is = ap (option_map (λ (x : K × V). passes x.0)) at ∙ ap Some (sym is)
