-- Runs of which one has lost a member: it is left out, joined with a neighbour, or stays.
--     filled_out, filled_next, filled_former, filled_alone       none is too small
--     same_widths                                                which depends on how many members each has
use Rattle.std.proofs.Common.{◌≡◌, ℕ, zero, suc, ◌+◌, ◌-◌, ◌*◌, ◌<◌, ◌≤◌, List, [], ◌∷◌, length, map, set, get_or, drop, remove, refl, ap, arith}
use Rattle.leaf_blocks.specs.Leaves.{leaf_at, join_leaf, AreRunsBehind}
use Rattle.leaf_blocks.proofs.LeavesLemmas.{fit, size_before, shrunk, without_leaf, joined_behind, joined_before}

module _ {A : Type 0} where
  pub remove_set : (ls : List A) (i : ℕ) (m : A) → remove (set ls i m) i ≡ remove ls i
  remove_set [] zero m = refl
  remove_set [] (suc i) m = refl
  remove_set (l ∷ ls) zero m = refl
  remove_set (l ∷ ls) (suc i) m = ap (λ ks. l ∷ ks) (remove_set ls i m)

module _ {A : Type 0} (h : ℕ) where
  enough_before : (ls : List (List A)) (i n : ℕ) → 0 < n → (0 < i → h < length (leaf_at ls (i - 1)) + n) → h < size_before (2 * h) ls i + n
  enough_before ls zero n z f = omega (arith, z)
  enough_before ls (suc i) n z f =
      let back : suc i - 1 ≡ i = omega arith in
      let most : h < length (leaf_at ls (suc i - 1)) + n = f (omega arith) in
      rw back at most

  with_before : (ls : List (List A)) (i : ℕ) (m : List A) → 0 < h → AreRunsBehind h (2 * h) ls → 0 < i → i < length ls → length m + 1 ≡ length (leaf_at ls i)
      → length (leaf_at ls (i - 1)) + length m ≤ h → AreRunsBehind h (2 * h) (join_leaf (set ls i m) (i - 1))
  with_before ls zero m y a z w s f = absurd (omega arith)
  with_before ls (suc i) m y a z w s f =
      let back : suc i - 1 ≡ i = omega arith in
      rw back (joined_before h (2 * h) ls i m (omega (arith, y)) a w s (rw back at f))

  pub same_widths : (n : ℕ) (xs ys : List (List A)) → map length ys ≡ map length xs → AreRunsBehind h n xs → AreRunsBehind h n ys
  same_widths n [] [] e a = tt
  same_widths n [] (y ∷ ys) e a = cc
  same_widths n (x ∷ xs) [] e a = cc
  same_widths n (x ∷ xs) (y ∷ ys) e a =
      let one : length y ≡ length x = ap (λ ns. get_or ns 0 0) e in
      (omega (arith, one, a.0), omega (arith, one, a.1), omega (arith, one, a.2), rw one (same_widths (length x) xs ys (ap (drop 1) e) a.3))

module _ {A : Type 0} (h : ℕ) (y : 0 < h) (ls : List (List A)) (i : ℕ) (m : List A) (a : AreRunsBehind h (2 * h) ls) (w : i < length ls) (s : length m + 1 ≡ length (leaf_at ls i)) where
  pub filled_out : length m ≡ 0 → AreRunsBehind h (2 * h) (remove (set ls i m) i)
  filled_out e = rw (remove_set ls i m) (without_leaf h (2 * h) ls i a (omega (arith, s, e)))

  pub filled_next : suc i < length ls → length m + length (leaf_at ls (suc i)) ≤ h → AreRunsBehind h (2 * h) (join_leaf (set ls i m) i)
  filled_next v f = joined_behind h (2 * h) ls i m (omega (arith, y)) a v s f

  pub filled_former : 0 < i → length (leaf_at ls (i - 1)) + length m ≤ h → AreRunsBehind h (2 * h) (join_leaf (set ls i m) (i - 1))
  filled_former z f = with_before h ls i m y a z w s f

  pub filled_alone : 0 < length m → (suc i < length ls → h < length m + length (leaf_at ls (suc i))) → (0 < i → h < length (leaf_at ls (i - 1)) + length m)
      → AreRunsBehind h (2 * h) (set ls i m)
  filled_alone z n b = shrunk h (2 * h) ls i m a z (omega (arith, s, (fit h (2 * h) ls i a w).1)) (enough_before h ls i (length m) z b) n
