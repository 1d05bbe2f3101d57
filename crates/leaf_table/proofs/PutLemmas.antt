-- An item put into leaves, and a value written.
--     put_spare, put_filled, put_small             into a leaf that has room
--     split_free, IsHalf, half_seat                into a full one, which is split
--     IsPut, put_whole, put_halved                 what both leave
--     begun_free, begun_spare                      as the first
--     joined_value, joined_there, value_filled, value_spare       a value
use Rattle.std.proofs.Common.{◌≡◌, ℕ, zero, suc, ◌+◌, ◌^◌, ◌<◌, ◌≤◌, ◌⊎◌, inl, inr, List, [], ◌∷◌, ◌++◌, length, take, set, insert, option_map, refl, sym, ap, ◌∙◌, zero-add, add-one, arith, length-append}
use Rattle.std.proofs.lemmas.List.{length-set}
use Rattle.std.proofs.lemmas.List.Edits.{length-insert}
use Rattle.sorted_table.specs.Tables.{with_value, value_there}
use Rattle.sorted_table.proofs.Laws.{length_value}
use Rattle.leaf_blocks.specs.Leaves.{joined, before, leaf_at, split_run, AreLeaves, AreRunsBehind, spare_of}
use Rattle.leaf_blocks.proofs.Laws.{joined_put, joined_get, joined_split, excess_set, excess_split, excess_at, length_split, grown, halved, fit, most_items, spare_some, before_lower, before_upper, lower_size, upper_size}

module _ {A : Type 0} where
  pub put_small : (ls : List (List A)) → AreLeaves ls → length ls ≤ 2 ^ 40 → length (joined ls) < 2 ^ 63
  put_small ls a n = omega (arith, most_items 64 ls a)

  spare_set : (ls : List (List A)) (i f : ℕ) (m : List A) → i < length ls → length m ≤ length (leaf_at ls i) + 1
      → spare_of ls f ≤ spare_of (set ls i m) f + 1
  spare_set ls i f m w n =
      let n' : 0 < length (set ls i m) = omega (arith, length-set ls i m) in
      omega (arith, spare_some ls f (omega arith), spare_some (set ls i m) f n', excess_set ls i m w)

  pub put_spare : (ls : List (List A)) (i o f : ℕ) (x : A) → i < length ls → o ≤ length (leaf_at ls i)
      → spare_of ls f ≤ spare_of (set ls i (insert (leaf_at ls i) o x)) f + 1
  put_spare ls i o f x w v = spare_set ls i f (insert (leaf_at ls i) o x) w (omega (arith, length-insert (leaf_at ls i) o x v))

  pub put_filled : (n : ℕ) (ls : List (List A)) (i o : ℕ) (x : A) → AreRunsBehind 32 n ls → o ≤ length (leaf_at ls i) → length (leaf_at ls i) < 64
      → AreRunsBehind 32 n (set ls i (insert (leaf_at ls i) o x))
  put_filled n ls i o x a v w =
      let long : length (insert (leaf_at ls i) o x) ≡ length (leaf_at ls i) + 1 = length-insert (leaf_at ls i) o x v in
      grown 32 n ls i (insert (leaf_at ls i) o x) a (omega arith) (omega arith)

  -- a table that has a full leaf and spare places has a free leaf
  pub split_free : (ls : List (List A)) (i f : ℕ) → i < length ls → length (leaf_at ls i) ≡ 64 → 0 < spare_of ls f → 0 < f
  split_free ls i f w full h = omega (arith, spare_some ls f (omega arith), excess_at ls i)

  pub begun_free : (ls : List (List A)) (f : ℕ) → ls ≡ [] → 0 < spare_of ls f → 0 < f
  begun_free [] zero e h = absurd (omega arith)
  begun_free [] (suc f) e h = omega arith
  begun_free (l ∷ ls) f e h = cc

  pub begun_spare : (ls : List (List A)) (f g : ℕ) (x : A) → ls ≡ [] → g + 1 ≡ f → spare_of ls f ≤ spare_of ((x ∷ []) ∷ []) g + 1
  begun_spare [] zero g x n e = omega arith
  begun_spare [] (suc f) g x n e = omega arith
  begun_spare (l ∷ ls) f g x n e = cc

-- a place in the halves of a leaf that was split
pub record IsHalf {A : Type 0} (ls : List (List A)) (at j p : ℕ) : Type 0 where
  pub within : j < length ls
  pub place : at ≡ before ls j + p
  pub offset : p ≤ length (leaf_at ls j)
  pub half : length (leaf_at ls j) ≡ 32

-- the half of a seat, by ranks in a block
pub half_rank : (i n l l' o p : ℕ) → ((o ≤ 32) × (l' ≡ l) × (p ≡ o)) ⊎ ((32 < o) × (l' ≡ l + 1) × (p + 32 ≡ o)) → n + l ≡ i
    → ((o ≤ 32) × (n + l' ≡ i) × (p ≡ o)) ⊎ ((32 < o) × (n + l' ≡ i + 1) × (p + 32 ≡ o))
half_rank i n l l' o p (inl h) e = inl (h.0, omega (arith, h.1, e), h.2)
half_rank i n l l' o p (inr h) e = inr (h.0, omega (arith, h.1, e), h.2)

module _ {A : Type 0} where
  pub half_seat : (ls : List (List A)) (i o j p : ℕ) → i < length ls → length (leaf_at ls i) ≡ 64 → o ≤ length (leaf_at ls i)
      → ((o ≤ 32) × (j ≡ i) × (p ≡ o)) ⊎ ((32 < o) × (j ≡ i + 1) × (p + 32 ≡ o)) → IsHalf (split_run 32 ls i) (before ls i + o) j p
  half_seat ls i o j p w full v (inl h) =
      let low : length (leaf_at (split_run 32 ls i) i) ≡ 32 = lower_size 32 ls i (omega arith) in
      rw (h.1, h.2) record {
        within = omega (arith, length_split 32 ls i w);
        place = omega (arith, before_lower 32 ls i);
        offset = omega (arith, low, h.0);
        half = low;
      }
  half_seat ls i o j p w full v (inr h) =
      let high : length (leaf_at (split_run 32 ls i) (suc i)) ≡ 32 = omega (arith, upper_size 32 ls i, full) in
      rw (h.1, add-one) record {
        within = omega (arith, length_split 32 ls i w);
        place = omega (arith, before_upper 32 ls i w (omega arith), h.2);
        offset = omega (arith, high, h.2);
        half = high;
      }

  pub half_spare : (ls : List (List A)) (i f g j p : ℕ) (x : A) → i < length ls → length (leaf_at ls i) ≡ 64 → g + 1 ≡ f
      → j < length (split_run 32 ls i) → p ≤ length (leaf_at (split_run 32 ls i) j)
      → spare_of ls f ≤ spare_of (set (split_run 32 ls i) j (insert (leaf_at (split_run 32 ls i) j) p x)) g + 1
  half_spare ls i f g j p x w full e v u =
      omega (arith, put_spare (split_run 32 ls i) j p g x v u, spare_some ls f (omega arith), spare_some (split_run 32 ls i) g (omega arith), excess_split ls i w full)

  pub half_filled : (ls : List (List A)) (i j p : ℕ) (x : A) → AreLeaves ls → length (leaf_at ls i) ≡ 64
      → p ≤ length (leaf_at (split_run 32 ls i) j) → length (leaf_at (split_run 32 ls i) j) ≡ 32
      → AreLeaves (set (split_run 32 ls i) j (insert (leaf_at (split_run 32 ls i) j) p x))
  half_filled ls i j p x a full u h = put_filled 64 (split_run 32 ls i) j p x (halved 32 64 ls i (omega arith) (omega arith) a full) u (omega arith)

-- what putting an item at a place leaves
pub record IsPut {A : Type 0} (ls : List (List A)) (f place : ℕ) (x : A) (new : List (List A)) (g : ℕ) : Type 0 where
  pub items : joined new ≡ insert (joined ls) place x
  pub filled : AreLeaves new
  pub spare : spare_of ls f ≤ spare_of new g + 1

module _ {A : Type 0} where
  pub put_whole : (ls new : List (List A)) (i o f g place : ℕ) (x : A) → AreLeaves ls → i < length ls → o ≤ length (leaf_at ls i)
      → length (leaf_at ls i) < 64 → place ≡ before ls i + o → new ≡ set ls i (insert (leaf_at ls i) o x) → g ≡ f → IsPut ls f place x new g
  put_whole ls new i o f g place x a w v h e n q = rw (n, e, q) record {
    items = joined_put ls i o x w v;
    filled = put_filled 64 ls i o x a v h;
    spare = put_spare ls i o f x w v;
  }

  pub put_halved : (ls mid new : List (List A)) (i o j p f g h place : ℕ) (x : A) → AreLeaves ls → i < length ls → length (leaf_at ls i) ≡ 64
      → place ≡ before ls i + o → IsHalf (split_run 32 ls i) (before ls i + o) j p → mid ≡ split_run 32 ls i
      → new ≡ set mid j (insert (leaf_at mid j) p x) → g + 1 ≡ f → h ≡ g → IsPut ls f place x new h
  put_halved ls mid new i o j p f g h place x a w full e s m n q r = rw (n, m, r) record {
    items = joined_put (split_run 32 ls i) j p x s.within s.offset ∙ ap (λ at. insert (joined (split_run 32 ls i)) at x) (sym (e ∙ s.place))
        ∙ ap (λ es. insert es place x) (joined_split 32 ls i);
    filled = half_filled ls i j p x a full s.offset s.half;
    spare = half_spare ls i f g j p x w full q s.within s.offset;
  }

module _ {K V : Type 0} where
  value_left : (xs ys : List (K × V)) (o : ℕ) (v : V) → o < length xs → with_value (xs ++ ys) o v ≡ with_value xs o v ++ ys
  value_left [] ys o v h = absurd (omega arith)
  value_left (x ∷ xs) ys zero v h = refl
  value_left (x ∷ xs) ys (suc o) v h = ap (λ zs. x ∷ zs) (value_left xs ys o v (omega arith))

  value_right : (xs ys : List (K × V)) (o : ℕ) (v : V) → with_value (xs ++ ys) (length xs + o) v ≡ xs ++ with_value ys o v
  value_right [] ys o v = rw zero-add refl
  value_right (x ∷ xs) ys o v =
      let e : length (x ∷ xs) + o ≡ suc (length xs + o) = omega arith in
      rw e (ap (λ zs. x ∷ zs) (value_right xs ys o v))

  pub joined_value : (ls : List (List (K × V))) (i o : ℕ) (v : V) → i < length ls → o < length (leaf_at ls i)
      → joined (set ls i (with_value (leaf_at ls i) o v)) ≡ with_value (joined ls) (before ls i + o) v
  joined_value [] i o v h w = absurd (omega arith)
  joined_value (l ∷ ls) zero o v h w = rw zero-add (sym (value_left l (joined ls) o v w))
  joined_value (l ∷ ls) (suc i) o v h w =
      let at : length (l ++ joined (take i ls)) + o ≡ length l + (before ls i + o) = omega (arith, length-append l (joined (take i ls))) in
      rw at (ap (λ xs. l ++ xs) (joined_value ls i o v (omega arith) w) ∙ sym (value_right l (joined ls) (before ls i + o) v))

  pub joined_there : (ls : List (List (K × V))) (i o : ℕ) → i < length ls → o < length (leaf_at ls i)
      → value_there (joined ls) (before ls i + o) ≡ value_there (leaf_at ls i) o
  joined_there ls i o h w = ap (option_map (λ (e : K × V). e.1)) (joined_get ls i o h w)

  pub value_filled : (n : ℕ) (ls : List (List (K × V))) (i o : ℕ) (v : V) → AreRunsBehind 32 n ls → i < length ls
      → AreRunsBehind 32 n (set ls i (with_value (leaf_at ls i) o v))
  value_filled n ls i o v a w =
      let same : length (with_value (leaf_at ls i) o v) ≡ length (leaf_at ls i) = length_value (leaf_at ls i) o v in
      grown 32 n ls i (with_value (leaf_at ls i) o v) a (omega arith) (omega (arith, (fit 32 n ls i a w).1))

  pub value_spare : (ls : List (List (K × V))) (i o f : ℕ) (v : V) → i < length ls
      → spare_of (set ls i (with_value (leaf_at ls i) o v)) f ≡ spare_of ls f
  value_spare ls i o f v w =
      let m : List (K × V) = with_value (leaf_at ls i) o v in
      let same : length m ≡ length (leaf_at ls i) = length_value (leaf_at ls i) o v in
      let n' : 0 < length (set ls i m) = omega (arith, length-set ls i m) in
      omega (arith, same, spare_some ls f (omega arith), spare_some (set ls i m) f n', excess_set ls i m w)
