-- Lists of leaves.
--     joined_put, joined_take, joined_get        an item put into a leaf, taken out, or read is one of all items
--     joined_split, joined_join, joined_out      a leaf split, joined or left out changes no item
--     excess_put, excess_split, excess_join      how the excesses change
use Rattle.std.proofs.Common.{◌≡◌, ℕ, zero, suc, ◌+◌, ◌-◌, ◌*◌, ◌/◌, ◌<◌, ◌≤◌, List, [], ◌∷◌, ◌++◌, length, take, drop, set, get_or, insert, remove, slice_get, map, sum, refl, sym, ap, ◌∙◌, zero-add, add-one, arith, append_assoc, length-append, length-drop}
use Rattle.std.proofs.lemmas.List.{take-append-drop, length-take-le, map-set, get_or_read}
use Rattle.std.proofs.Math.Seq.{take-append_seam, drop-append_seam}
use Rattle.std.proofs.lemmas.List.Concat.{length-flat_map}
use Rattle.std.proofs.lemmas.List.Sums.{sum-map}
use Rattle.std.proofs.lemmas.List.Edits.{insert-append_left, insert-append_right, remove-append_left, remove-append_right, length-remove, get_or-remove_below}
use Rattle.leaf_blocks.specs.Leaves.{joined, before, leaf_at, split_run, join_leaf, excesses, AreRunsBehind, spare_of}

module _ {A : Type 0} where
  -- an item put into a leaf is put between all items
  pub joined_put : (ls : List (List A)) (i o : ℕ) (x : A) → i < length ls → o ≤ length (leaf_at ls i)
      → joined (set ls i (insert (leaf_at ls i) o x)) ≡ insert (joined ls) (before ls i + o) x
  joined_put [] i o x h w = absurd (omega arith)
  joined_put (l ∷ ls) zero o x h w = rw zero-add (sym (insert-append_left l (joined ls) o x w))
  joined_put (l ∷ ls) (suc i) o x h w =
      let at : length (l ++ joined (take i ls)) + o - length l ≡ before ls i + o = omega (arith, length-append l (joined (take i ls))) in
      let far : length l ≤ length (l ++ joined (take i ls)) + o = omega (arith, length-append l (joined (take i ls))) in
      ap (λ xs. l ++ xs) (joined_put ls i o x (omega arith) w)
      ∙ sym (insert-append_right l (joined ls) (length l) _ x refl far ∙ ap (λ p. l ++ insert (joined ls) p x) at)

  -- an item taken out of a leaf is taken out of all
  pub joined_take : (ls : List (List A)) (i o : ℕ) → i < length ls → o < length (leaf_at ls i)
      → joined (set ls i (remove (leaf_at ls i) o)) ≡ remove (joined ls) (before ls i + o)
  joined_take [] i o h w = absurd (omega arith)
  joined_take (l ∷ ls) zero o h w = rw zero-add (sym (remove-append_left l (joined ls) o w))
  joined_take (l ∷ ls) (suc i) o h w =
      let at : length (l ++ joined (take i ls)) + o - length l ≡ before ls i + o = omega (arith, length-append l (joined (take i ls))) in
      let far : length l ≤ length (l ++ joined (take i ls)) + o = omega (arith, length-append l (joined (take i ls))) in
      ap (λ xs. l ++ xs) (joined_take ls i o (omega arith) w)
      ∙ sym (remove-append_right l (joined ls) (length l) _ refl far ∙ ap (λ p. l ++ remove (joined ls) p) at)

  get_left : (xs ys : List A) (i : ℕ) → i < length xs → slice_get (xs ++ ys) i ≡ slice_get xs i
  get_left [] ys i h = absurd (omega arith)
  get_left (x ∷ xs) ys zero h = refl
  get_left (x ∷ xs) ys (suc i) h = get_left xs ys i (omega arith)

  get_right : (xs ys : List A) (i : ℕ) → slice_get (xs ++ ys) (length xs + i) ≡ slice_get ys i
  get_right [] ys i = rw zero-add refl
  get_right (x ∷ xs) ys i =
      let e : length (x ∷ xs) + i ≡ suc (length xs + i) = omega arith in
      rw e (get_right xs ys i)

  -- an item of a leaf is one of all
  pub joined_get : (ls : List (List A)) (i o : ℕ) → i < length ls → o < length (leaf_at ls i)
      → slice_get (joined ls) (before ls i + o) ≡ slice_get (leaf_at ls i) o
  joined_get [] i o h w = absurd (omega arith)
  joined_get (l ∷ ls) zero o h w = rw zero-add (get_left l (joined ls) o w)
  joined_get (l ∷ ls) (suc i) o h w =
      let at : length (l ++ joined (take i ls)) + o ≡ length l + (before ls i + o) = omega (arith, length-append l (joined (take i ls))) in
      rw at (get_right l (joined ls) (before ls i + o) ∙ joined_get ls i o (omega arith) w)

  pub joined_split : (h : ℕ) (ls : List (List A)) (i : ℕ) → joined (split_run h ls i) ≡ joined ls
  joined_split h [] i = refl
  joined_split h (l ∷ ls) zero = rw append_assoc at (ap (λ xs. xs ++ joined ls) (take-append-drop h l))
  joined_split h (l ∷ ls) (suc i) = ap (λ xs. l ++ xs) (joined_split h ls i)

  pub joined_join : (ls : List (List A)) (i : ℕ) → joined (join_leaf ls i) ≡ joined ls
  joined_join [] i = refl
  joined_join (l ∷ []) i = refl
  joined_join (l ∷ m ∷ ls) zero = rw append_assoc refl
  joined_join (l ∷ m ∷ ls) (suc i) = ap (λ xs. l ++ xs) (joined_join (m ∷ ls) i)

  pub joined_out : (ls : List (List A)) (i : ℕ) → leaf_at ls i ≡ [] → joined (remove ls i) ≡ joined ls
  joined_out [] zero e = refl
  joined_out [] (suc i) e = refl
  joined_out (l ∷ ls) zero e = sym (ap (λ m. m ++ joined ls) e)
  joined_out (l ∷ ls) (suc i) e = ap (λ xs. l ++ xs) (joined_out ls i e)

  -- the excesses
  pub excess_set : (ls : List (List A)) (i : ℕ) (m : List A) → i < length ls
      → excesses (set ls i m) + (length (leaf_at ls i) - 32) ≡ excesses ls + (length m - 32)
  excess_set [] i m h = absurd (omega arith)
  excess_set (l ∷ ls) zero m h = omega arith
  excess_set (l ∷ ls) (suc i) m h = omega (arith, excess_set ls i m (omega arith))

  pub excess_split : (ls : List (List A)) (i : ℕ) → i < length ls → length (leaf_at ls i) ≡ 64 → excesses (split_run 32 ls i) + 32 ≡ excesses ls
  excess_split [] i h e = absurd (omega arith)
  excess_split (l ∷ ls) zero h e = omega (arith, length-take-le 32 l (omega arith), length-drop 32 l)
  excess_split (l ∷ ls) (suc i) h e = omega (arith, excess_split ls i (omega arith) e)

  pub excess_join : (ls : List (List A)) (i : ℕ) → suc i < length ls → length (leaf_at ls i) + length (leaf_at ls (suc i)) ≤ 32
      → excesses (join_leaf ls i) ≡ excesses ls
  excess_join [] i h e = refl
  excess_join (l ∷ []) i h e = refl
  excess_join (l ∷ m ∷ ls) zero h e = omega (arith, length-append l m)
  excess_join (l ∷ m ∷ ls) (suc i) h e = ap (λ n. length l - 32 + n) (excess_join (m ∷ ls) i (omega arith) e)

  pub excess_out : (ls : List (List A)) (i : ℕ) → leaf_at ls i ≡ [] → excesses (remove ls i) ≡ excesses ls
  excess_out [] zero e = refl
  excess_out [] (suc i) e = refl
  excess_out (l ∷ ls) zero e = omega (arith, ap length e)
  excess_out (l ∷ ls) (suc i) e = ap (λ n. length l - 32 + n) (excess_out ls i e)

  pub excess_most : (ls : List (List A)) → excesses ls ≤ length (joined ls)
  excess_most [] = omega arith
  excess_most (l ∷ ls) = omega (arith, excess_most ls, length-append l (joined ls))

  pub excess_at : (ls : List (List A)) (i : ℕ) → length (leaf_at ls i) - 32 ≤ excesses ls
  excess_at [] i = omega arith
  excess_at (l ∷ ls) zero = omega arith
  excess_at (l ∷ ls) (suc i) = omega (arith, excess_at ls i)

  -- lengths
  pub length_split : (h : ℕ) (ls : List (List A)) (i : ℕ) → i < length ls → length (split_run h ls i) ≡ length ls + 1
  length_split h [] i w = absurd (omega arith)
  length_split h (l ∷ ls) zero w = omega arith
  length_split h (l ∷ ls) (suc i) w = omega (arith, length_split h ls i (omega arith))

  pub length_join : (ls : List (List A)) (i : ℕ) → suc i < length ls → length (join_leaf ls i) + 1 ≡ length ls
  length_join [] i h = absurd (omega arith)
  length_join (l ∷ []) i h = absurd (omega arith)
  length_join (l ∷ m ∷ ls) zero h = omega arith
  length_join (l ∷ m ∷ ls) (suc i) h = omega (arith, length_join (m ∷ ls) i (omega arith))

  -- the runs stay runs
  half_behind : (h n m : ℕ) (ls : List (List A)) → h ≤ m → AreRunsBehind h n ls → AreRunsBehind h m ls
  half_behind h n m [] w a = tt
  half_behind h n m (l ∷ ls) w a = (a.0, a.1, omega (arith, a.0, w), a.3)

  more_behind : (h n m : ℕ) (ls : List (List A)) → n ≤ m → AreRunsBehind h n ls → AreRunsBehind h m ls
  more_behind h n m [] w a = tt
  more_behind h n m (l ∷ ls) w a = (a.0, a.1, omega (arith, a.2, w), a.3)

  pub fit : (h n : ℕ) (ls : List (List A)) (i : ℕ) → AreRunsBehind h n ls → i < length ls → (0 < length (leaf_at ls i)) × (length (leaf_at ls i) ≤ 2 * h)
  fit h n [] i a w = absurd (omega arith)
  fit h n (l ∷ ls) zero a w = (a.0, a.1)
  fit h n (l ∷ ls) (suc i) a w = fit h (length l) ls i a.3 (omega arith)

  -- a run that grew
  pub grown : (h n : ℕ) (ls : List (List A)) (i : ℕ) (m : List A) → AreRunsBehind h n ls → length (leaf_at ls i) ≤ length m → length m ≤ 2 * h
      → AreRunsBehind h n (set ls i m)
  grown h n [] i m a g w = tt
  grown h n (l ∷ ls) zero m a g w = (omega (arith, a.0, g), w, omega (arith, a.2, g), more_behind h (length l) (length m) ls g a.3)
  grown h n (l ∷ ls) (suc i) m a g w = (a.0, a.1, a.2, grown h (length l) ls i m a.3 g w)

  -- a full run that was split
  pub halved : (h n : ℕ) (ls : List (List A)) (i : ℕ) → 0 < n → 0 < h → AreRunsBehind h n ls → length (leaf_at ls i) ≡ 2 * h
      → AreRunsBehind h n (split_run h ls i)
  halved h n [] i z v a e = tt
  halved h n (l ∷ ls) zero z v a e =
      let low : length (take h l) ≡ h = length-take-le h l (omega arith) in
      let high : length (drop h l) ≡ h = omega (arith, length-drop h l) in
      (omega arith, omega arith, omega arith, (omega arith, omega arith, omega arith, half_behind h (length l) (length (drop h l)) ls (omega arith) a.3))
  halved h n (l ∷ ls) (suc i) z v a e = (a.0, a.1, a.2, halved h (length l) ls i a.0 v a.3 e)

-- how many items the leaf before this one has
abbrev pub size_before : {A : Type 0} → ℕ → List (List A) → ℕ → ℕ
size_before n ls zero = n
size_before n ls (suc i) = length (leaf_at ls i)

module _ {A : Type 0} (h : ℕ) where
  behind_next : (n : ℕ) (ls : List (List A)) → AreRunsBehind h n ls → (m : ℕ) → (0 < length ls → h < m + length (leaf_at ls 0)) → AreRunsBehind h m ls
  behind_next n [] a m w = tt
  behind_next n (l ∷ ls) a m w = (a.0, a.1, w (omega arith), a.3)

  -- a run that shrank and still has enough
  pub shrunk : (n : ℕ) (ls : List (List A)) (i : ℕ) (m : List A) → AreRunsBehind h n ls → 0 < length m → length m ≤ 2 * h
      → h < size_before n ls i + length m → (suc i < length ls → h < length m + length (leaf_at ls (suc i)))
      → AreRunsBehind h n (set ls i m)
  shrunk n [] i m a z w b f = tt
  shrunk n (l ∷ ls) zero m a z w b f = (z, w, b, behind_next (length l) ls a.3 (length m) (λ k. f (omega arith)))
  shrunk n (l ∷ ls) (suc zero) m a z w b f = (a.0, a.1, a.2, shrunk (length l) ls zero m a.3 z w b (λ k. f (omega arith)))
  shrunk n (l ∷ ls) (suc (suc i)) m a z w b f = (a.0, a.1, a.2, shrunk (length l) ls (suc i) m a.3 z w b (λ k. f (omega arith)))

  -- a run that had one member and is left out
  pub without_leaf : (n : ℕ) (ls : List (List A)) (i : ℕ) → AreRunsBehind h n ls → length (leaf_at ls i) ≡ 1 → AreRunsBehind h n (remove ls i)
  without_leaf n [] zero a e = tt
  without_leaf n [] (suc i) a e = tt
  without_leaf n (l ∷ ls) zero a e = half_behind h (length l) n ls (omega (arith, a.2, e)) a.3
  without_leaf n (l ∷ ls) (suc i) a e = (a.0, a.1, a.2, without_leaf (length l) ls i a.3 e)

  -- a run that lost a member and was joined with the one behind it
  pub joined_behind : (n : ℕ) (ls : List (List A)) (i : ℕ) (m : List A) → 0 < n → AreRunsBehind h n ls → suc i < length ls
      → length m + 1 ≡ length (leaf_at ls i) → length m + length (leaf_at ls (suc i)) ≤ h
      → AreRunsBehind h n (join_leaf (set ls i m) i)
  joined_behind n [] i m z a w e s = tt
  joined_behind n (l ∷ []) i m z a w e s = absurd (omega arith)
  joined_behind n (l ∷ k ∷ ls) zero m z a w e s =
      let all : length (m ++ k) ≡ h = omega (arith, length-append m k, a.3.2, e, s) in
      (omega (arith, a.3.0, length-append m k), omega arith, omega arith, half_behind h (length k) (length (m ++ k)) ls (omega arith) a.3.3)
  joined_behind n (l ∷ k ∷ ls) (suc zero) m z a w e s = (a.0, a.1, a.2, joined_behind (length l) (k ∷ ls) zero m a.0 a.3 (omega arith) e s)
  joined_behind n (l ∷ k ∷ ls) (suc (suc i)) m z a w e s = (a.0, a.1, a.2, joined_behind (length l) (k ∷ ls) (suc i) m a.0 a.3 (omega arith) e s)

  -- a run that lost a member and was joined with the one before it
  pub joined_before : (n : ℕ) (ls : List (List A)) (i : ℕ) (m : List A) → 0 < n → AreRunsBehind h n ls → suc i < length ls
      → length m + 1 ≡ length (leaf_at ls (suc i)) → length (leaf_at ls i) + length m ≤ h
      → AreRunsBehind h n (join_leaf (set ls (suc i) m) i)
  joined_before n [] i m z a w e s = tt
  joined_before n (l ∷ []) i m z a w e s = absurd (omega arith)
  joined_before n (l ∷ k ∷ ls) zero m z a w e s =
      let all : length (l ++ m) ≡ h = omega (arith, length-append l m, a.3.2, e, s) in
      (omega (arith, a.0, length-append l m), omega arith, omega arith, half_behind h (length k) (length (l ++ m)) ls (omega arith) a.3.3)
  joined_before n (l ∷ k ∷ ls) (suc i) m z a w e s = (a.0, a.1, a.2, joined_before (length l) (k ∷ ls) i m a.0 a.3 (omega arith) e s)

module _ {A : Type 0} where
  -- at most 64 times as many items as leaves, and 33 for each two
  pub most_items : (n : ℕ) (ls : List (List A)) → AreRunsBehind 32 n ls → length (joined ls) ≤ 64 * length ls
  most_items n [] a = omega arith
  most_items n (l ∷ ls) a = omega (arith, length-append l (joined ls), most_items (length l) ls a.3, a.1)

  pub least_items : (n : ℕ) (ls : List (List A)) → AreRunsBehind 32 n ls → 33 * (length ls / 2) ≤ length (joined ls)
  least_items n [] a = omega arith
  least_items n (l ∷ []) a = omega arith
  least_items n (l ∷ k ∷ ls) a =
      omega (arith, length-append l (k ++ joined ls), length-append k (joined ls), least_items (length k) ls a.3.3, a.3.2)

  -- 65 leaves for each two blocks
  pub least_leaves : (n : ℕ) (ls : List (List A)) → AreRunsBehind 64 n ls → 65 * (length ls / 2) ≤ length (joined ls)
  least_leaves n [] a = omega arith
  least_leaves n (l ∷ []) a = omega arith
  least_leaves n (l ∷ k ∷ ls) a =
      omega (arith, length-append l (k ++ joined ls), length-append k (joined ls), least_leaves (length k) ls a.3.3, a.3.2)

  -- what is spare in a table that has leaves
  pub spare_some : (ls : List (List A)) (f : ℕ) → 0 < length ls → spare_of ls f ≡ 32 * f - excesses ls
  spare_some [] f h = absurd (omega arith)
  spare_some (l ∷ ls) f h = refl

-- the sizes of leaves
module _ {A : Type 0} where
  size_of : (ls : List (List A)) (i : ℕ) → get_or (map length ls) i 0 ≡ length (leaf_at ls i)
  size_of [] i = refl
  size_of (l ∷ ls) zero = refl
  size_of (l ∷ ls) (suc i) = size_of ls i

  pub size_at : (ls : List (List A)) (ns : List ℕ) (i : ℕ) → ns ≡ map length ls → get_or ns i 0 ≡ length (leaf_at ls i)
  size_at ls ns i e = ap (λ ms. get_or ms i 0) e ∙ size_of ls i

  sum_of : (ls : List (List A)) → sum (map length ls) ≡ length (joined ls)
  sum_of ls = sum-map length ls ∙ sym (length-flat_map (λ l. l) ls)

  pub sum_sizes : (ls : List (List A)) (ns : List ℕ) → ns ≡ map length ls → sum ns ≡ length (joined ls)
  sum_sizes ls ns e = ap sum e ∙ sum_of ls

  take_sizes : (ls : List (List A)) (i : ℕ) → take i (map length ls) ≡ map length (take i ls)
  take_sizes ls zero = refl
  take_sizes [] (suc i) = refl
  take_sizes (l ∷ ls) (suc i) = ap (λ ns. length l ∷ ns) (take_sizes ls i)

  pub sum_before : (ls : List (List A)) (ns : List ℕ) (i : ℕ) → ns ≡ map length ls → sum (take i ns) ≡ before ls i
  sum_before ls ns i e = ap (λ ms. sum (take i ms)) e ∙ ap sum (take_sizes ls i) ∙ sum_of (take i ls)

  pub sizes_put : (ls : List (List A)) (ns : List ℕ) (i n : ℕ) (m : List A) → ns ≡ map length ls → n ≡ length m → set ns i n ≡ map length (set ls i m)
  sizes_put ls ns i n m e h = ap (λ ms. set ms i n) e ∙ ap (λ k. set (map length ls) i k) h ∙ sym (map-set length ls i m)

  out_of : (ls : List (List A)) (i : ℕ) → remove (map length ls) i ≡ map length (remove ls i)
  out_of [] zero = refl
  out_of [] (suc i) = refl
  out_of (l ∷ ls) zero = refl
  out_of (l ∷ ls) (suc i) = ap (λ ns. length l ∷ ns) (out_of ls i)

  pub sizes_out : (ls : List (List A)) (ns : List ℕ) (i : ℕ) → ns ≡ map length ls → remove ns i ≡ map length (remove ls i)
  sizes_out ls ns i e = ap (λ ms. remove ms i) e ∙ out_of ls i

  -- what the two writes to a list of leaves make
  pub split_is : (h : ℕ) (ls : List (List A)) (i : ℕ) → i < length ls → insert (set ls i (take h (leaf_at ls i))) (i + 1) (drop h (leaf_at ls i)) ≡ split_run h ls i
  split_is h [] i w = absurd (omega arith)
  split_is h (l ∷ ls) zero w = refl
  split_is h (l ∷ ls) (suc i) w = rw add-one (ap (λ ms. l ∷ ms) (rw add-one at (split_is h ls i (omega arith))))

  pub join_is : (ls : List (List A)) (i : ℕ) → i + 1 < length ls → set (remove ls (i + 1)) i (leaf_at ls i ++ leaf_at ls (i + 1)) ≡ join_leaf ls i
  join_is [] i h = absurd (omega arith)
  join_is (l ∷ []) i h = absurd (omega arith)
  join_is (l ∷ m ∷ ls) zero h = refl
  join_is (l ∷ m ∷ ls) (suc i) h = rw add-one (ap (λ ms. l ∷ ms) (rw add-one at (join_is (m ∷ ls) i (omega arith))))

  pub split_content : (h : ℕ) (ls : List (List A)) (i : ℕ) (l low up : List A) → i < length ls → l ≡ get_or ls i l → low ≡ take h l → up ≡ drop h l
      → insert (set ls i low) (i + 1) up ≡ split_run h ls i
  split_content h ls i l low up w r a b =
      let e : l ≡ leaf_at ls i = get_or_read ls i l w r [] in
      ap (λ k. insert (set ls i k) (i + 1) up) (a ∙ ap (take h) e) ∙ ap (λ k. insert (set ls i (take h (leaf_at ls i))) (i + 1) k) (b ∙ ap (drop h) e)
      ∙ split_is h ls i w

  pub join_content : (ls rest : List (List A)) (i : ℕ) (l up m : List A) → i + 1 < length ls → rest ≡ remove ls (i + 1) → l ≡ get_or rest i l
      → up ≡ get_or ls (i + 1) up → m ≡ l ++ up → set rest i m ≡ join_leaf ls i
  join_content ls rest i l up m w s r t b =
      let n : i < length rest = omega (arith, ap length s, length-remove ls (i + 1) w) in
      let e : l ≡ leaf_at ls i = get_or_read rest i l n r [] ∙ ap (λ k. get_or k i []) s ∙ get_or-remove_below ls (i + 1) [] i (omega arith) w in
      let f : up ≡ leaf_at ls (i + 1) = get_or_read ls (i + 1) up w t [] in
      ap (λ k. set k i m) s ∙ ap (set (remove ls (i + 1)) i) (b ∙ ap (λ k. k ++ up) e ∙ ap (λ k. leaf_at ls i ++ k) f) ∙ join_is ls i w

  pub halves : (a b c : List A) → a ++ b ≡ c → length a ≡ 32 → (a ≡ take 32 c) × (b ≡ drop 32 c)
  halves a b c e n = (sym (take-append_seam a b) ∙ ap (λ k. take k (a ++ b)) n ∙ ap (take 32) e, sym (drop-append_seam a b) ∙ ap (λ k. drop k (a ++ b)) n ∙ ap (drop 32) e)
