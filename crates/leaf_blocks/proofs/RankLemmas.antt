-- A leaf of a block among all leaves.
--     rank_before, rank_leaf, rank_within      how many items stand before it, what it is, and that it is one
--     rank_set, rank_split                     the leaf changed, or split
--     leaf_within                              its items are among all
--     joined_more                              blocks one after another
use Rattle.std.proofs.Common.{◌≡◌, ℕ, zero, suc, ◌+◌, ◌<◌, ◌≤◌, List, [], ◌∷◌, ◌++◌, length, take, set, get_or, refl, sym, ap, ◌∙◌, zero-add, arith, append_assoc, length-append}
use Rattle.std.proofs.lemmas.List.{set-append_left, get_or_append_left, take-append-le}
use Rattle.leaf_blocks.specs.Leaves.{joined, before, leaf_at, rank, split_run}

module _ {A : Type 0} where
  pub joined_more : (xs ys : List (List A)) → joined (xs ++ ys) ≡ joined xs ++ joined ys
  joined_more [] ys = refl
  joined_more (x ∷ xs) ys = ap (λ zs. x ++ zs) (joined_more xs ys) ∙ sym (append_assoc x (joined xs) (joined ys))

  take_more : (xs ys : List A) (k : ℕ) → take (length xs + k) (xs ++ ys) ≡ xs ++ take k ys
  take_more [] ys k = rw zero-add refl
  take_more (x ∷ xs) ys k =
      let e : length (x ∷ xs) + k ≡ suc (length xs + k) = omega arith in
      rw e (ap (λ zs. x ∷ zs) (take_more xs ys k))

  get_more : (xs ys : List A) (k : ℕ) (d : A) → get_or (xs ++ ys) (length xs + k) d ≡ get_or ys k d
  get_more [] ys k d = rw zero-add refl
  get_more (x ∷ xs) ys k d =
      let e : length (x ∷ xs) + k ≡ suc (length xs + k) = omega arith in
      rw e (get_more xs ys k d)

  set_more : (xs ys : List A) (k : ℕ) (y : A) → set (xs ++ ys) (length xs + k) y ≡ xs ++ set ys k y
  set_more [] ys k y = rw zero-add refl
  set_more (x ∷ xs) ys k y =
      let e : length (x ∷ xs) + k ≡ suc (length xs + k) = omega arith in
      rw e (ap (λ zs. x ∷ zs) (set_more xs ys k y))

module _ {A : Type 0} where
  split_left : (h : ℕ) (xs ys : List (List A)) (k : ℕ) → k < length xs → split_run h (xs ++ ys) k ≡ split_run h xs k ++ ys
  split_left h [] ys k w = absurd (omega arith)
  split_left h (x ∷ xs) ys zero w = refl
  split_left h (x ∷ xs) ys (suc k) w = ap (λ zs. x ∷ zs) (split_left h xs ys k (omega arith))

  split_more : (h : ℕ) (xs ys : List (List A)) (k : ℕ) → split_run h (xs ++ ys) (length xs + k) ≡ xs ++ split_run h ys k
  split_more h [] ys k = rw zero-add refl
  split_more h (x ∷ xs) ys k =
      let e : length (x ∷ xs) + k ≡ suc (length xs + k) = omega arith in
      rw e (ap (λ zs. x ∷ zs) (split_more h xs ys k))

pub leaf_within : {A : Type 0} (ls : List (List A)) (i : ℕ) → i < length ls → before ls i + length (leaf_at ls i) ≤ length (joined ls)
leaf_within [] i w = absurd (omega arith)
leaf_within (l ∷ ls) zero w = omega (arith, length-append l (joined ls))
leaf_within (l ∷ ls) (suc i) w = omega (arith, leaf_within ls i (omega arith), length-append l (joined ls), length-append l (joined (take i ls)))

-- the rank of what stands in a later block
rank_on : {A : Type 0} (b : List A) (bs : List (List A)) (i k : ℕ) → length (b ++ joined (take i bs)) + k ≡ length b + (before bs i + k)
rank_on b bs i k = omega (arith, length-append b (joined (take i bs)))

module _ {A : Type 0} where
  pub rank_leaf : (bs : List (List A)) (b i : ℕ) (d : A) → b < length bs → i < length (leaf_at bs b) → get_or (joined bs) (rank bs b i) d ≡ get_or (leaf_at bs b) i d
  rank_leaf [] b i d v w = absurd (omega arith)
  rank_leaf (x ∷ bs) zero i d v w = rw zero-add (get_or_append_left x (joined bs) d i w)
  rank_leaf (x ∷ bs) (suc b) i d v w = rw (rank_on x bs b i) (get_more x (joined bs) (before bs b + i) d ∙ rank_leaf bs b i d (omega arith) w)

  pub rank_set : (bs : List (List A)) (b i : ℕ) (y : A) → b < length bs → i < length (leaf_at bs b) → joined (set bs b (set (leaf_at bs b) i y)) ≡ set (joined bs) (rank bs b i) y
  rank_set [] b i y v w = absurd (omega arith)
  rank_set (x ∷ bs) zero i y v w = rw zero-add (sym (set-append_left x (joined bs) i y w))
  rank_set (x ∷ bs) (suc b) i y v w =
      rw (rank_on x bs b i) (ap (λ zs. x ++ zs) (rank_set bs b i y (omega arith) w) ∙ sym (set_more x (joined bs) (before bs b + i) y))

  pub rank_within : (bs : List (List A)) (b i : ℕ) → b < length bs → i ≤ length (leaf_at bs b) → rank bs b i ≤ length (joined bs)
  rank_within [] b i v w = absurd (omega arith)
  rank_within (x ∷ bs) zero i v w = omega (arith, length-append x (joined bs))
  rank_within (x ∷ bs) (suc b) i v w = omega (arith, rank_on x bs b i, length-append x (joined bs), rank_within bs b i (omega arith) w)

  pub rank_below : (bs : List (List A)) (b i : ℕ) → b < length bs → i < length (leaf_at bs b) → rank bs b i < length (joined bs)
  rank_below bs b i v w = omega (arith, rank_within bs b (suc i) v w)

module _ {A : Type 0} where
  pub rank_split : (h : ℕ) (bs : List (List (List A))) (b i : ℕ) → b < length bs → i < length (leaf_at bs b)
      → joined (set bs b (split_run h (leaf_at bs b) i)) ≡ split_run h (joined bs) (rank bs b i)
  rank_split h [] b i v w = absurd (omega arith)
  rank_split h (x ∷ bs) zero i v w = rw zero-add (sym (split_left h x (joined bs) i w))
  rank_split h (x ∷ bs) (suc b) i v w =
      rw (rank_on x bs b i) (ap (λ zs. x ++ zs) (rank_split h bs b i (omega arith) w) ∙ sym (split_more h x (joined bs) (before bs b + i)))

  -- how many items stand before a leaf of a block
  pub rank_before : (bs : List (List (List A))) (b i : ℕ) → b < length bs → i ≤ length (leaf_at bs b)
      → before (joined bs) (rank bs b i) ≡ length (joined (joined (take b bs))) + before (leaf_at bs b) i
  rank_before [] b i v w = absurd (omega arith)
  rank_before (x ∷ bs) zero i v w = rw zero-add (ap (λ zs. length (joined zs)) (take-append-le i x (joined bs) w) ∙ sym (zero-add _))
  rank_before (x ∷ bs) (suc b) i v w =
      rw (rank_on x bs b i) (ap (λ zs. length (joined zs)) (take_more x (joined bs) (before bs b + i)) ∙ ap length (joined_more x (take (before bs b + i) (joined bs)))
      ∙ length-append (joined x) (joined (take (before bs b + i) (joined bs)))
      ∙ omega (arith, rank_before bs b i (omega arith) w, ap length (joined_more x (joined (take b bs))), length-append (joined x) (joined (joined (take b bs)))))
