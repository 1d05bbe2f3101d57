-- The value of one entry changed, and an entry put behind all others.
--     value_put, sorted_value, length_value      to change the value of a key's entry is to put it, and keeps the order and the number
--     set_value                                  to write an entry with the same key is to change its value
--     appended, past_last                        a key above all others, or above the last, belongs at the end
use Rattle.std.proofs.Common.{◌≡◌, ℕ, ◌+◌, ◌-◌, ◌<◌, zero, suc, ◌&&◌, T, List, [], ◌∷◌, length, take, set, get_or, slice_get, Some, Ordering, Greater, is_lt, refl, sym, ap, ◌∙◌, subst, arith}
use Rattle.std.proofs.Math.Seq.{take-length, drop-length}
use Rattle.std.specs.Cmp.{IsTotalOrder}
use Rattle.std.specs.FinMap.{put, is_sorted}
use Rattle.std.specs.FinMap.Entries.{by_order, below_all}
use Rattle.std.proofs.lemmas.Cmp.{tied_itself}
use Rattle.std.proofs.lemmas.Option.{none-some, same_Some}
use Rattle.sorted_table.specs.Tables.{IsSorted, AreBelow, AreAbove, HasKeyAt, BelongsAt, with_value}
use Rattle.sorted_table.proofs.Rising.{swapped_less, below_read}

module _ {K V : Type 0} (R : K → K → Ordering) where
  below_value : (x : K) (es : List (K × V)) (i : ℕ) (v : V) → below_all R x es ≡ below_all R x (with_value es i v)
  below_value x [] i v = refl
  below_value x (e ∷ es) zero v = refl
  below_value x (e ∷ es) (suc i) v = ap (λ b. is_lt (R x e.0) && b) (below_value x es i v)

  order_value : (es : List (K × V)) (i : ℕ) (v : V) → is_sorted R es ≡ is_sorted R (with_value es i v)
  order_value [] i v = refl
  order_value (e ∷ es) zero v = refl
  order_value (e ∷ es) (suc i) v = λ j. below_value e.0 es i v j && order_value es i v j

  -- the keys stay in order
  pub sorted_value : (es : List (K × V)) (i : ℕ) (v : V) → IsSorted R es → IsSorted R (with_value es i v)
  sorted_value es i v h = subst T (order_value es i v) h

pub length_value : {K V : Type 0} (es : List (K × V)) (i : ℕ) (v : V) → length (with_value es i v) ≡ length es
length_value [] i v = refl
length_value (e ∷ es) zero v = refl
length_value (e ∷ es) (suc i) v = ap suc (length_value es i v)

module _ {K V : Type 0} where
  -- to write an entry with the key that stands there is to change its value
  pub set_value : (es : List (K × V)) (i : ℕ) (e : K × V) (v : V) → i < length es → e ≡ get_or es i e → set es i (e.0, v) ≡ with_value es i v
  set_value [] i e v n s = refl
  set_value (d ∷ es) zero e v n s = ap (λ (x : K × V). (x.0, v) ∷ es) s
  set_value (d ∷ es) (suc i) e v n s = ap (λ ds. d ∷ ds) (set_value es i e v (omega arith) s)

module _ {K V : Type 0} {R : K → K → Ordering} (o : IsTotalOrder R) where
  put_over : (k : K) (w v : V) (es : List (K × V)) (i : ℕ) → slice_get es i ≡ Some (k, w) → AreBelow R (take i es) k → with_value es i v ≡ put R k v es
  put_over k w v [] i s b = absurd (none-some (k, w) s)
  put_over k w v (e ∷ es) zero s b =
      sym (ap (λ r. by_order r ((k, v) ∷ e ∷ es) ((e.0, v) ∷ es) (e ∷ put R k v es)) (ap (λ (x : K × V). R k x.0) (same_Some e (k, w) s) ∙ tied_itself o k))
  put_over k w v (e ∷ es) (suc i) s b = ap (λ ds. e ∷ ds) (put_over k w v es i s b.1)
      ∙ sym (ap (λ r. by_order r ((k, v) ∷ e ∷ es) ((e.0, v) ∷ es) (e ∷ put R k v es)) (swapped_less o e.0 k b.0))

  -- to change the value of a key's entry is to put it
  pub value_put : (es : List (K × V)) (i : ℕ) (k : K) (v : V) → HasKeyAt R es i k → with_value es i v ≡ put R k v es
  value_put es i k v h = put_over k h.value v es i h.stands h.before

  -- a key above all others belongs at the end
  pub appended : (es : List (K × V)) (k : K) → AreBelow R es k → BelongsAt R es (length es) k
  appended es k h = record {
    within = omega arith;
    before = subst (λ ds. AreBelow R ds k) (sym (take-length es)) h;
    behind = subst (λ ds. AreAbove R ds k) (sym (drop-length es)) tt;
  }

  -- and so does one above the last
  pub past_last : (es : List (K × V)) (d : K × V) (k : K) → IsSorted R es → 0 < length es → R k (get_or es (length es - 1) d).0 ≡ Greater
      → BelongsAt R es (length es - 1 + 1) k
  past_last es d k h n l =
      let all : length es - 1 + 1 ≡ length es = omega arith in
      rw all (appended es k (subst (λ ds. AreBelow R ds k) (ap (λ i. take i es) all ∙ take-length es) (below_read o es (length es - 1) d k h (omega arith) l)))
