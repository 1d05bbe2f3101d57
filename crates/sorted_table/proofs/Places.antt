-- What the places of keys say of the lists.
--     found, absent, has_not_belongs      a key that has an entry is found, one that belongs somewhere is not
--     put_at, removed                     to insert where a key belongs is to put it, to remove its entry is to leave out its key
--     one_place, one_gap                  a key has one place
use Rattle.std.proofs.Common.{◌≡◌, ℕ, ◌<◌, ◌≤◌, zero, suc, cond, not, List, [], ◌∷◌, length, take, drop, insert, remove, slice_get, Some, None, Ordering, Less, Equal, is_eq, refl, sym, ap, ◌∙◌, subst, add-one, arith}
use Rattle.std.specs.Ordering.{eq_by_cmp}
use Rattle.std.specs.Cmp.{IsTotalOrder}
use Rattle.std.specs.FinMap.{find, put}
use Rattle.std.specs.FinMap.Entries.{by_order}
use Rattle.std.proofs.lemmas.Cmp.{tied_itself}
use Rattle.std.proofs.lemmas.Option.{none-some, same_Some, slice_get_within}
use Rattle.sorted_table.specs.Tables.{Lacks, AreBelow, AreAbove, HasKeyAt, BelongsAt, without}
use Rattle.sorted_table.proofs.Rising.{swapped_less}

module _ {K V : Type 0} (R : K → K → Ordering) where
  above_lacks : (k : K) (es : List (K × V)) → AreAbove R es k → find R k es ≡ None
  above_lacks k [] h = refl
  above_lacks k (e ∷ es) h = ap (λ r. cond (is_eq r) (Some e.1) (find R k es)) h.0 ∙ above_lacks k es h.1

  above_without : (k : K) (es : List (K × V)) → AreAbove R es k → es ≡ without R k es
  above_without k [] h = refl
  above_without k (e ∷ es) h = ap (λ ds. e ∷ ds) (above_without k es h.1)
      ∙ ap (λ r. cond (not (is_eq r)) (e ∷ without R k es) (without R k es)) (sym h.0)

never_self : {K : Type 0} {R : K → K → Ordering} → IsTotalOrder R → (k : K) → ¬ (R k k ≡ Less)
never_self o k h = let e : Less ≡ Equal = sym h ∙ tied_itself o k in cc

-- a key's place is a place of the list
pub place_within : {K V : Type 0} {R : K → K → Ordering} (es : List (K × V)) (i : ℕ) (k : K) → HasKeyAt R es i k → i < length es
place_within es i k h = slice_get_within es i (k, h.value) h.stands

module _ {K V : Type 0} {R : K → K → Ordering} (o : IsTotalOrder R) where
  absent_at : (k : K) (es : List (K × V)) (i : ℕ) → AreBelow R (take i es) k → AreAbove R (drop i es) k → find R k es ≡ None
  absent_at k [] i b a = refl
  absent_at k (e ∷ es) zero b a = above_lacks R k (e ∷ es) a
  absent_at k (e ∷ es) (suc i) b a = ap (λ r. cond (is_eq r) (Some e.1) (find R k es)) (swapped_less o e.0 k b.0) ∙ absent_at k es i b.1 a

  -- a key that belongs at a place has no entry
  pub absent : (es : List (K × V)) (i : ℕ) (k : K) → BelongsAt R es i k → Lacks R es k
  absent es i k h = absent_at k es i h.before h.behind

  found_at : (k : K) (v : V) (es : List (K × V)) (i : ℕ) → slice_get es i ≡ Some (k, v) → AreBelow R (take i es) k → find R k es ≡ Some v
  found_at k v [] i s b = absurd (none-some (k, v) s)
  found_at k v (e ∷ es) zero s b = let same = same_Some e (k, v) s in
      ap (λ (x : K × V). cond (eq_by_cmp R k x.0) (Some x.1) (find R k es)) same ∙ ap (λ r. cond (is_eq r) (Some v) (find R k es)) (tied_itself o k)
  found_at k v (e ∷ es) (suc i) s b = ap (λ r. cond (is_eq r) (Some e.1) (find R k es)) (swapped_less o e.0 k b.0) ∙ found_at k v es i s b.1

  -- a key that has an entry is found
  pub found : (es : List (K × V)) (i : ℕ) (k : K) (h : HasKeyAt R es i k) → find R k es ≡ Some h.value
  found es i k h = found_at k h.value es i h.stands h.before

  pub found_of : (es : List (K × V)) (i : ℕ) (k : K) (v : V) → HasKeyAt R es i k → slice_get es i ≡ Some (k, v) → find R k es ≡ Some v
  found_of es i k v h s = found_at k v es i s h.before

  pub has_not_lacks : (es : List (K × V)) (i : ℕ) (k : K) → HasKeyAt R es i k → ¬ (Lacks R es k)
  has_not_lacks es i k h none = none-some h.value (sym none ∙ found es i k h)

  pub has_not_belongs : (es : List (K × V)) (i j : ℕ) (k : K) → HasKeyAt R es i k → ¬ (BelongsAt R es j k)
  has_not_belongs es i j k h b = has_not_lacks es i k h (absent es j k b)

  put_between : (k : K) (v : V) (es : List (K × V)) (i : ℕ) → AreBelow R (take i es) k → AreAbove R (drop i es) k → put R k v es ≡ insert es i (k, v)
  put_between k v [] zero b a = refl
  put_between k v [] (suc i) b a = refl
  put_between k v (e ∷ es) zero b a = ap (λ r. by_order r ((k, v) ∷ e ∷ es) ((e.0, v) ∷ es) (e ∷ put R k v es)) a.0
  put_between k v (e ∷ es) (suc i) b a = ap (λ r. by_order r ((k, v) ∷ e ∷ es) ((e.0, v) ∷ es) (e ∷ put R k v es)) (swapped_less o e.0 k b.0)
      ∙ ap (λ ds. e ∷ ds) (put_between k v es i b.1 a)

  -- to put an entry is to insert it where its key belongs
  pub put_at : (es : List (K × V)) (i : ℕ) (k : K) (v : V) → BelongsAt R es i k → put R k v es ≡ insert es i (k, v)
  put_at es i k v h = put_between k v es i h.before h.behind

  without_at : (k : K) (v : V) (es : List (K × V)) (i : ℕ) → slice_get es i ≡ Some (k, v) → AreBelow R (take i es) k → AreAbove R (drop (suc i) es) k
      → remove es i ≡ without R k es
  without_at k v [] i s b a = absurd (none-some (k, v) s)
  without_at k v (e ∷ es) zero s b a = above_without R k es a
      ∙ ap (λ r. cond (not (is_eq r)) (e ∷ without R k es) (without R k es)) (sym (ap (λ (x : K × V). R k x.0) (same_Some e (k, v) s) ∙ tied_itself o k))
  without_at k v (e ∷ es) (suc i) s b a = ap (λ ds. e ∷ ds) (without_at k v es i s b.1 a)
      ∙ ap (λ r. cond (not (is_eq r)) (e ∷ without R k es) (without R k es)) (sym (swapped_less o e.0 k b.0))

  -- to remove the entry of a key is to leave out what ties with it
  pub removed : (es : List (K × V)) (i : ℕ) (k : K) → HasKeyAt R es i k → remove es i ≡ without R k es
  removed es i k h = without_at k h.value es i h.stands h.before (rw add-one at h.behind)

  below_not_at : (k : K) (v : V) (es : List (K × V)) (i j : ℕ) → AreBelow R (take j es) k → slice_get es i ≡ Some (k, v) → j ≤ i
  below_not_at k v [] i j b s = absurd (none-some (k, v) s)
  below_not_at k v (e ∷ es) i zero b s = omega arith
  below_not_at k v (e ∷ es) zero (suc j) b s = absurd (never_self o k (subst (λ (x : K × V). R x.0 k ≡ Less) (same_Some e (k, v) s) b.0))
  below_not_at k v (e ∷ es) (suc i) (suc j) b s = omega (arith, below_not_at k v es i j b.1 s)

  -- a key has one place
  pub one_place : (es : List (K × V)) (i j : ℕ) (k : K) → HasKeyAt R es i k → HasKeyAt R es j k → i ≡ j
  one_place es i j k g h =
      omega (arith, below_not_at k g.value es i j h.before g.stands, below_not_at k h.value es j i g.before h.stands)

  gap_below : (k : K) (es : List (K × V)) (i j : ℕ) → j ≤ length es → AreBelow R (take j es) k → AreAbove R (drop i es) k → j ≤ i
  gap_below k es i zero n b a = omega arith
  gap_below k [] i (suc j) n b a = absurd (omega arith)
  gap_below k (e ∷ es) zero (suc j) n b a =
      absurd (never_self o k (o.trans k e.0 k a.0 b.0))
  gap_below k (e ∷ es) (suc i) (suc j) n b a = omega (arith, gap_below k es i j (omega arith) b.1 a)

  -- and a key with no entry has one gap
  pub one_gap : (es : List (K × V)) (i j : ℕ) (k : K) → BelongsAt R es i k → BelongsAt R es j k → i ≡ j
  one_gap es i j k g h =
      omega (arith, gap_below k es i j h.within h.before g.behind, gap_below k es j i g.within g.before h.behind)
