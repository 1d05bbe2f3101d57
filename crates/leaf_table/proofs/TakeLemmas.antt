-- An item taken out of leaves.
--     IsTaken                                             what taking the item at a place leaves
--     taken_fewer                                         what is left is no more
--     left_out, with_next, with_former, alone             where the leaf is left out, joined with a neighbour, or stays
use Rattle.std.proofs.Common.{◌≡◌, ℕ, zero, suc, ◌+◌, ◌-◌, ◌<◌, ◌≤◌, List, [], ◌∷◌, length, set, remove, refl, ap, ◌∙◌, add-one, arith, length-append}
use Rattle.std.proofs.lemmas.List.{length-set, get_or-set_same, get_or-set_other}
use Rattle.std.proofs.lemmas.List.Edits.{length-remove}
use Rattle.leaf_blocks.specs.Leaves.{joined, before, leaf_at, join_leaf, excesses, AreLeaves, spare_of}
use Rattle.leaf_blocks.proofs.Laws.{joined_take, joined_join, joined_out, excess_set, excess_join, excess_out, spare_some, filled_out, filled_next, filled_former, filled_alone}

pub record IsTaken {A : Type 0} (ls : List (List A)) (f place : ℕ) (new : List (List A)) (g : ℕ) : Type 0 where
  pub left : joined new ≡ remove (joined ls) place
  pub filled : AreLeaves new
  pub spare : spare_of ls f ≤ spare_of new g

module _ {A : Type 0} where
  -- a leaf more is free, and the excess didn't rise
  spare_back : (ls new : List (List A)) (f : ℕ) → 0 < length ls → excesses new ≤ excesses ls → spare_of ls f ≤ spare_of new (f + 1)
  spare_back ls [] f n h = rw add-one (omega (arith, spare_some ls f n))
  spare_back ls (m ∷ ms) f n h = omega (arith, spare_some ls f n)

  emptied : (xs : List A) → length xs ≡ 0 → xs ≡ []
  emptied [] e = refl
  emptied (x ∷ xs) e = absurd (omega arith)

module _ {A : Type 0} (ls : List (List A)) (f i o : ℕ) (a : AreLeaves ls) (w : i < length ls) (v : o < length (leaf_at ls i)) where
  abbrev rest : List A
  rest = remove (leaf_at ls i) o

  short : length rest + 1 ≡ length (leaf_at ls i)
  short = length-remove (leaf_at ls i) o v

  here : leaf_at (set ls i rest) i ≡ rest
  here = get_or-set_same ls i rest [] w

  other : (j : ℕ) → ¬ (j ≡ i) → leaf_at (set ls i rest) j ≡ leaf_at ls j
  other j n = get_or-set_other ls i j rest [] n

  less : excesses (set ls i rest) ≤ excesses ls
  less = omega (arith, excess_set ls i rest w, short)

  long : length (set ls i rest) ≡ length ls
  long = length-set ls i rest

  out : joined (set ls i rest) ≡ remove (joined ls) (before ls i + o)
  out = joined_take ls i o w v

  taken_out : length (leaf_at (set ls i rest) i) ≡ 0 → IsTaken ls f (before ls i + o) (remove (set ls i rest) i) (f + 1)
  taken_out e =
      let none : leaf_at (set ls i rest) i ≡ [] = emptied _ e in
      record {
        left = joined_out _ i none ∙ out;
        filled = filled_out 32 (omega arith) ls i rest a w short (omega (arith, e, ap length here));
        spare = spare_back ls _ f (omega arith) (omega (arith, less, excess_out _ i none));
      }

  taken_next : i + 1 < length (set ls i rest) → length (leaf_at (set ls i rest) i) + length (leaf_at (set ls i rest) (i + 1)) ≤ 32
      → IsTaken ls f (before ls i + o) (join_leaf (set ls i rest) i) (f + 1)
  taken_next n e =
      let few : length rest + length (leaf_at ls (suc i)) ≤ 32 = omega (arith, ap length here, ap length (other (suc i) (λ q. omega arith)), rw add-one at e) in
      record {
        left = joined_join _ i ∙ out;
        filled = filled_next 32 (omega arith) ls i rest a w short (omega (arith, n, long)) few;
        spare = spare_back ls _ f (omega arith) (omega (arith, less, excess_join _ i (rw add-one at n) (rw add-one at e)));
      }

  taken_before : 0 < i → length (leaf_at (set ls i rest) (i - 1)) + length (leaf_at (set ls i rest) i) ≤ 32
      → IsTaken ls f (before ls i + o) (join_leaf (set ls i rest) (i - 1)) (f + 1)
  taken_before z e =
      let next : suc (i - 1) ≡ i = omega arith in
      let few : length (leaf_at ls (i - 1)) + length rest ≤ 32 = omega (arith, e, ap length here, ap length (other (i - 1) (λ q. omega arith))) in
      record {
        left = joined_join _ (i - 1) ∙ out;
        filled = filled_former 32 (omega arith) ls i rest a w short z few;
        spare = spare_back ls _ f (omega arith) (omega (arith, less, excess_join (set ls i rest) (i - 1) (omega (arith, next, long)) (rw next (omega (arith, e)))));
      }

  taken_stays : 0 < length (leaf_at (set ls i rest) i)
      → (i + 1 < length (set ls i rest) → 32 < length (leaf_at (set ls i rest) i) + length (leaf_at (set ls i rest) (i + 1)))
      → (0 < i → 32 < length (leaf_at (set ls i rest) (i - 1)) + length (leaf_at (set ls i rest) i))
      → IsTaken ls f (before ls i + o) (set ls i rest) f
  taken_stays z n b = record {
    left = out;
    filled = filled_alone 32 (omega arith) ls i rest a w short (omega (arith, z, ap length here))
        (λ k. omega (arith, rw add-one at n, long, ap length here, ap length (other (suc i) (λ q. omega arith))))
        (λ k. omega (arith, b k, ap length here, ap length (other (i - 1) (λ q. omega arith))));
    spare = omega (arith, less, spare_some ls f (omega arith), spare_some (set ls i rest) f (omega (arith, long)));
  }

module _ {A : Type 0} (ls ts new : List (List A)) (f g h i o place : ℕ) (a : AreLeaves ls) (w : i < length ls) (v : o < length (leaf_at ls i))
    (p : place ≡ before ls i + o) (t : ts ≡ set ls i (remove (leaf_at ls i) o)) (q : g ≡ f) where
  pub left_out : length (leaf_at ts i) ≡ 0 → new ≡ remove ts i → h ≡ g + 1 → IsTaken ls f place new h
  left_out e n r = rw (n, t, r, q, p) (taken_out ls f i o a w v (rw t at e))

  pub with_next : i + 1 < length ts → length (leaf_at ts i) + length (leaf_at ts (i + 1)) ≤ 32 → new ≡ join_leaf ts i → h ≡ g + 1 → IsTaken ls f place new h
  with_next d e n r = rw (n, t, r, q, p) (taken_next ls f i o a w v (rw t at d) (rw t at e))

  pub with_former : (j : ℕ) → j + 1 ≡ i → length (leaf_at ts (i - 1)) + length (leaf_at ts i) ≤ 32 → new ≡ join_leaf ts j → h ≡ g + 1 → IsTaken ls f place new h
  with_former j d e n r =
      let back : j ≡ i - 1 = omega arith in
      rw (n, back, t, r, q, p) (taken_before ls f i o a w v (omega arith) (rw t at e))

  pub alone : 0 < length (leaf_at ts i) → (i + 1 < length ts → 32 < length (leaf_at ts i) + length (leaf_at ts (i + 1)))
      → (0 < i → 32 < length (leaf_at ts (i - 1)) + length (leaf_at ts i)) → IsTaken ls f place ts g
  alone z n b = rw (t, q, p) (taken_stays ls f i o a w v (rw t at z) (rw t at n) (rw t at b))

pub taken_fewer : {A : Type 0} (ls : List (List A)) (i o : ℕ) → i < length ls → o < length (leaf_at ls i) → length (joined (set ls i (remove (leaf_at ls i) o))) ≤ length (joined ls)
taken_fewer ls i o w v = items_less ls i (remove (leaf_at ls i) o) (omega (arith, length-remove (leaf_at ls i) o v)) where
  items_less : {A : Type 0} (ls : List (List A)) (i : ℕ) (m : List A) → length m ≤ length (leaf_at ls i) → length (joined (set ls i m)) ≤ length (joined ls)
  items_less [] i m h = omega arith
  items_less (l ∷ ls) zero m h = omega (arith, h, length-append l (joined ls), length-append m (joined ls))
  items_less (l ∷ ls) (suc i) m h = omega (arith, items_less ls i m h, length-append l (joined ls), length-append l (joined (set ls i m)))
