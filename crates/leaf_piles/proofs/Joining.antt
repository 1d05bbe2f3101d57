-- A leaf that goes, or is joined with the one behind it, which may be in the next block.
--     settled_out, settled_next, settled_former, settled_alone       the block that has lost a leaf
--     pulled, pulled_count, pulled_items, pulled_shorter             a leaf that went
--     spot_one, room_one, joined_two, count_two, items_two, shorter_two       a leaf that was joined with the one before it
use Rattle.std.proofs.Common.{◌≡◌, ℕ, zero, suc, ◌+◌, ◌-◌, ◌<◌, ◌≤◌, ◌⊎◌, inl, inr, List, [], ◌∷◌, ◌++◌, length, map, set, get_or, remove, refl, sym, ap, ◌∙◌, add-one, arith, subst}
use Rattle.std.proofs.lemmas.List.{length-set, set-get_or, get_or-set_same, get_or-set_other}
use Rattle.std.proofs.lemmas.List.Edits.{length-remove, get_or-remove_below}
use Rattle.std.proofs.lemmas.Bool.{cases_lt}
use Rattle.leaf_blocks.specs.Leaves.{IsSpot, joined, before, leaf_at, rank, join_leaf, AreBlocks}
use Rattle.leaf_piles.specs.Piles.{IsShorter}
use Rattle.leaf_blocks.proofs.Laws.{joined_take, joined_join, join_is, rank_leaf, rank_set, rank_below, filled_out, filled_next, filled_former, filled_alone}
use Rattle.leaf_piles.proofs.ShelfLemmas.{items_cut}
use Rattle.leaf_piles.proofs.PileLemmas.{before_set, rank_order, shorter_is, widths_set, width_at}

set_back : {A : Type 0} (xs : List A) (i : ℕ) (y d : A) → set (set xs i y) i (get_or xs i d) ≡ xs
set_back [] i y d = refl
set_back (x ∷ xs) zero y d = refl
set_back (x ∷ xs) (suc i) y d = ap (λ ys. x ∷ ys) (set_back xs i y d)

-- ---- the block that has lost a leaf
module _ {A : Type 0} (bs : List (List (List A))) (b : ℕ) (k : IsShorter bs b) where
  abbrev former : List (List (List A))
  former = set bs b ([] ∷ leaf_at bs b)

  back : set former b (leaf_at bs b) ≡ bs
  back = set_back bs b ([] ∷ leaf_at bs b) []

  within : b < length former
  within = omega (arith, k.within, length-set bs b ([] ∷ leaf_at bs b))

  short : length (leaf_at bs b) + 1 ≡ length (leaf_at former b)
  short = omega (arith, ap length (get_or-set_same bs b ([] ∷ leaf_at bs b) [] k.within))

  other : (j : ℕ) → ¬ (j ≡ b) → leaf_at former j ≡ leaf_at bs j
  other j n = get_or-set_other bs b j ([] ∷ leaf_at bs b) [] n

  pub settled_out : length (leaf_at bs b) ≡ 0 → AreBlocks (remove bs b)
  settled_out e = subst (λ ds. AreBlocks (remove ds b)) back (filled_out 64 (omega arith) former b (leaf_at bs b) k.filled within short e)

  pub settled_next : b + 1 < length bs → length (leaf_at bs b) + length (leaf_at bs (b + 1)) ≤ 64 → AreBlocks (join_leaf bs b)
  settled_next v f = subst (λ ds. AreBlocks (join_leaf ds b)) back (filled_next 64 (omega arith) former b (leaf_at bs b) k.filled within short
      (omega (arith, v, length-set bs b ([] ∷ leaf_at bs b))) (omega (arith, rw add-one at f, ap length (other (suc b) (λ q. omega arith)))))

  pub settled_former : 0 < b → length (leaf_at bs (b - 1)) + length (leaf_at bs b) ≤ 64 → AreBlocks (join_leaf bs (b - 1))
  settled_former v f = subst (λ ds. AreBlocks (join_leaf ds (b - 1))) back (filled_former 64 (omega arith) former b (leaf_at bs b) k.filled within short v
      (omega (arith, f, ap length (other (b - 1) (λ q. omega arith)))))

  pub settled_alone : 0 < length (leaf_at bs b) → (b + 1 < length bs → 64 < length (leaf_at bs b) + length (leaf_at bs (b + 1)))
      → (0 < b → 64 < length (leaf_at bs (b - 1)) + length (leaf_at bs b)) → AreBlocks bs
  settled_alone z n p = subst AreBlocks back (filled_alone 64 (omega arith) former b (leaf_at bs b) k.filled within short z
      (λ v. omega (arith, rw add-one at n, v, length-set bs b ([] ∷ leaf_at bs b), ap length (other (suc b) (λ q. omega arith))))
      (λ v. omega (arith, p v, ap length (other (b - 1) (λ q. omega arith)))))

-- ---- a leaf that went
module _ {A : Type 0} (bs one : List (List (List A))) (d j : ℕ) (v : IsSpot bs d j) (p : one ≡ set bs d (remove (leaf_at bs d) j)) where
  pub pulled : joined one ≡ remove (joined bs) (rank bs d j)
  pulled = ap joined p ∙ joined_take bs d j v.block v.leaf

  pub pulled_count : length one ≡ length bs
  pulled_count = ap length p ∙ length-set bs d (remove (leaf_at bs d) j)

  pub pulled_items : length (joined (joined one)) ≤ length (joined (joined bs))
  pulled_items = omega (arith, ap (λ ls. length (joined ls)) pulled, items_cut (joined bs) (rank bs d j) (rank_below bs d j v.block v.leaf))

  pulled_width : map length one ≡ set (map length bs) d (length (remove (leaf_at bs d) j))
  pulled_width = ap (map length) p ∙ widths_set bs d (remove (leaf_at bs d) j)

  pub pulled_shorter : AreBlocks bs → IsShorter one d
  pulled_shorter a = shorter_is bs one d (length (remove (leaf_at bs d) j)) a v.block pulled_width (length-remove (leaf_at bs d) j v.leaf)

-- ---- a leaf that was joined with the one before it
module _ {A : Type 0} (bs one : List (List (List A))) (b i d j : ℕ) (w : IsSpot bs b i) (v : IsSpot bs d j) (n : rank bs d j ≡ rank bs b i + 1)
    (p : one ≡ set bs d (remove (leaf_at bs d) j)) where
  not_behind : b ≤ d
  not_behind = elim (cases_lt d b) [ inl l ↦ absurd (omega (arith, rank_order bs d j b l v.leaf, n)) | inr l ↦ l ]

  before_one : before one b ≡ before bs b
  before_one = ap (λ ds. before ds b) p ∙ before_set bs d b (remove (leaf_at bs d) j) not_behind

  same_or_later : (d ≡ b) ⊎ (b < d)
  same_or_later = elim (cases_lt b d) [ inl l ↦ inr l | inr l ↦ inl (omega (arith, not_behind)) ]

  pub spot_one : IsSpot one b i
  spot_one = record {
    block = omega (arith, w.block, ap length p, length-set bs d (remove (leaf_at bs d) j));
    leaf = elim same_or_later [
      | inl e ↦ (let here : length (leaf_at one b) ≡ length (remove (leaf_at bs d) j) = ap (λ ds. length (leaf_at ds b)) p ∙ ap (λ k. length (leaf_at (set bs d (remove (leaf_at bs d) j)) k)) (sym e)
          ∙ ap length (get_or-set_same bs d (remove (leaf_at bs d) j) [] v.block) in
          omega (arith, here, length-remove (leaf_at bs d) j v.leaf, v.leaf, n, ap (before bs) e))
      | inr l ↦ omega (arith, w.leaf, ap (λ ds. length (leaf_at ds b)) p, ap length (get_or-set_other bs d b (remove (leaf_at bs d) j) [] (λ q. omega arith)))
    ];
  }

  rank_one : rank one b i ≡ rank bs b i
  rank_one = omega (arith, before_one)

  all_one : joined one ≡ remove (joined bs) (rank bs b i + 1)
  all_one = pulled bs one d j v p ∙ ap (remove (joined bs)) n

  next_within : rank bs b i + 1 < length (joined bs)
  next_within = omega (arith, n, rank_below bs d j v.block v.leaf)

  leaf_one : leaf_at (leaf_at one b) i ≡ leaf_at (joined bs) (rank bs b i)
  leaf_one = sym (rank_leaf one b i [] spot_one.block spot_one.leaf) ∙ ap (λ ls. leaf_at ls (rank one b i)) all_one ∙ ap (leaf_at (remove (joined bs) (rank bs b i + 1))) rank_one
      ∙ get_or-remove_below (joined bs) (rank bs b i + 1) [] (rank bs b i) (omega arith) next_within

  module _ (upper : List A) (u : upper ≡ leaf_at (leaf_at bs d) j) where
    upper_is : upper ≡ leaf_at (joined bs) (rank bs b i + 1)
    upper_is = u ∙ sym (rank_leaf bs d j [] v.block v.leaf) ∙ ap (leaf_at (joined bs)) n

    pub room_one : length (leaf_at (joined bs) (rank bs b i)) + length (leaf_at (joined bs) (rank bs b i + 1)) ≤ 32 → length (leaf_at (leaf_at one b) i) + length upper ≤ 64
    room_one f = omega (arith, f, ap length leaf_one, ap length upper_is)

    module _ (two : List (List (List A))) (q : two ≡ set one b (set (leaf_at one b) i (leaf_at (leaf_at one b) i ++ upper))) where
      pub joined_two : joined two ≡ join_leaf (joined bs) (rank bs b i)
      joined_two = ap joined q ∙ rank_set one b i (leaf_at (leaf_at one b) i ++ upper) spot_one.block spot_one.leaf
          ∙ ap (λ ls. set ls (rank one b i) (leaf_at (leaf_at one b) i ++ upper)) all_one ∙ ap (λ r. set (remove (joined bs) (rank bs b i + 1)) r (leaf_at (leaf_at one b) i ++ upper)) rank_one
          ∙ ap (λ l. set (remove (joined bs) (rank bs b i + 1)) (rank bs b i) (l ++ upper)) leaf_one
          ∙ ap (λ l. set (remove (joined bs) (rank bs b i + 1)) (rank bs b i) (leaf_at (joined bs) (rank bs b i) ++ l)) upper_is ∙ join_is (joined bs) (rank bs b i) next_within

      pub count_two : length two ≡ length bs
      count_two = ap length q ∙ length-set one b (set (leaf_at one b) i (leaf_at (leaf_at one b) i ++ upper)) ∙ ap length p ∙ length-set bs d (remove (leaf_at bs d) j)

      pub items_two : length (joined (joined two)) ≡ length (joined (joined bs))
      items_two = ap (λ ls. length (joined ls)) joined_two ∙ ap length (joined_join (joined bs) (rank bs b i))

      pub shorter_two : AreBlocks bs → IsShorter two d
      shorter_two a = shorter_is bs two d (length (remove (leaf_at bs d) j)) a v.block
          (ap (map length) q ∙ widths_set one b (set (leaf_at one b) i (leaf_at (leaf_at one b) i ++ upper))
          ∙ ap (set (map length one) b) (length-set (leaf_at one b) i (leaf_at (leaf_at one b) i ++ upper) ∙ sym (width_at one b)) ∙ set-get_or (map length one) b 0
          ∙ ap (map length) p ∙ widths_set bs d (remove (leaf_at bs d) j)) (length-remove (leaf_at bs d) j v.leaf)
