-- What is kept of the leaves of a pile.
--     rank_same, spot_same                                a leaf of a block that changed, or of one before it
--     leaf_keeps, split_keeps, begin_keeps, halve_keeps   of a leaf that changed or was split, of the first one, and of a block that was split
--     settled_keeps                                       of a leaf that went
--     left_kept, half_spot                                a full block can be split, and where its leaves are then
use Rattle.std.proofs.Common.{◌≡◌, ℕ, zero, suc, ◌+◌, ◌-◌, ◌<◌, ◌≤◌, ◌⊎◌, inl, inr, List, [], ◌∷◌, length, take, map, set, get_or, refl, sym, ap, ◌∙◌, add-one, arith, length-append}
use Rattle.std.proofs.lemmas.List.{length-set, map-set, set-get_or, get_or-set_same}
use Rattle.leaf_blocks.specs.Leaves.{IsSpot, joined, before, leaf_at, rank, split_run, excesses, AreBlocks, AreRunsBehind}
use Rattle.leaf_piles.specs.Piles.{Shelf, IsPile, IsShorter}
use Rattle.leaf_blocks.proofs.Laws.{joined_split, excess_set, excess_split, length_split, fit, grown, halved, least_leaves, rank_set, rank_split, rank_below, before_lower, before_upper, lower_size, upper_size, same_widths}

pub emptied : {A : Type 0} (xs : List A) → length xs ≡ 0 → xs ≡ []
emptied [] e = refl
emptied (x ∷ xs) e = absurd (omega arith)

-- ---- ranks
module _ {A : Type 0} where
  pub before_set : (bs : List (List A)) (b i : ℕ) (m : List A) → i ≤ b → before (set bs b m) i ≡ before bs i
  before_set [] b i m h = refl
  before_set (x ∷ bs) b zero m h = refl
  before_set (x ∷ bs) zero (suc i) m h = absurd (omega arith)
  before_set (x ∷ bs) (suc b) (suc i) m h = omega (arith, length-append x (joined (take i bs)), length-append x (joined (take i (set bs b m))), before_set bs b i m (omega arith))

  -- the leaves of an earlier block stand before those of a later one
  pub rank_order : (bs : List (List A)) (b i d : ℕ) → b < d → i < length (leaf_at bs b) → rank bs b i < before bs d
  rank_order [] b i d l w = absurd (omega (arith, w))
  rank_order (x ∷ bs) b i zero l w = absurd (omega arith)
  rank_order (x ∷ bs) zero i (suc d) l w = omega (arith, length-append x (joined (take d bs)))
  rank_order (x ∷ bs) (suc b) i (suc d) l w = omega (arith, rank_order bs b i d (omega arith) w, length-append x (joined (take d bs)), length-append x (joined (take b bs)))

  pub before_next : (bs : List (List A)) (b : ℕ) → before bs (suc b) ≡ before bs b + length (leaf_at bs b)
  before_next [] zero = refl
  before_next [] (suc b) = refl
  before_next (x ∷ bs) zero = omega (arith, length-append x [])
  before_next (x ∷ bs) (suc b) = omega (arith, before_next bs b, length-append x (joined (take (suc b) bs)), length-append x (joined (take b bs)))

  pub few_blocks : (n : ℕ) (bs : List (List A)) → AreRunsBehind 64 n bs → length bs ≤ length (joined bs)
  few_blocks n [] a = omega arith
  few_blocks n (x ∷ bs) a = omega (arith, a.0, few_blocks (length x) bs a.3, length-append x (joined bs))

  pub spot_set : (bs : List (List A)) (b i : ℕ) (m : List A) → b < length bs → i < length m → IsSpot (set bs b m) b i
  spot_set bs b i m w v = record { block = omega (arith, length-set bs b m); leaf = omega (arith, ap length (get_or-set_same bs b m [] w)) }

-- ---- the widths of blocks
set_twice : (ns : List ℕ) (b m n : ℕ) → set (set ns b m) b n ≡ set ns b n
set_twice [] b m n = refl
set_twice (k ∷ ns) zero m n = refl
set_twice (k ∷ ns) (suc b) m n = ap (λ ks. k ∷ ks) (set_twice ns b m n)

module _ {A : Type 0} where
  pub widths_set : (bs : List (List (List A))) (b : ℕ) (m : List (List A)) → map length (set bs b m) ≡ set (map length bs) b (length m)
  widths_set bs b m = map-set length bs b m

  pub width_at : (bs : List (List (List A))) (b : ℕ) → get_or (map length bs) b 0 ≡ length (leaf_at bs b)
  width_at [] b = refl
  width_at (x ∷ bs) zero = refl
  width_at (x ∷ bs) (suc b) = width_at bs b

  -- a block that has one leaf less
  pub shorter_is : (bs new : List (List (List A))) (b k : ℕ) → AreBlocks bs → b < length bs → map length new ≡ set (map length bs) b k → k + 1 ≡ length (leaf_at bs b) → IsShorter new b
  shorter_is bs new b k a w e l =
      let count : length new ≡ length bs = lengths_of bs new b k e in
      let here : length (leaf_at new b) ≡ k = sym (width_at new b) ∙ ap (λ ns. get_or ns b 0) e ∙ get_or-set_same (map length bs) b k 0 (omega (arith, w, length_of bs)) in
      let back : suc k ≡ get_or (map length bs) b 0 = omega (arith, l, width_at bs b) in
      record {
        within = omega (arith, w, count);
        filled = same_widths 64 128 bs (set new b ([] ∷ leaf_at new b))
            (widths_set new b ([] ∷ leaf_at new b) ∙ ap (λ ns. set ns b (suc (length (leaf_at new b)))) e ∙ set_twice (map length bs) b k (suc (length (leaf_at new b)))
            ∙ ap (λ n. set (map length bs) b n) (ap suc here ∙ back) ∙ set-get_or (map length bs) b 0) a;
      } where
        length_of : (bs : List (List (List A))) → length (map length bs) ≡ length bs
        length_of [] = refl
        length_of (x ∷ bs) = ap suc (length_of bs)

        lengths_of : (bs new : List (List (List A))) (b k : ℕ) → map length new ≡ set (map length bs) b k → length new ≡ length bs
        lengths_of bs new b k e = sym (length_of new) ∙ ap length e ∙ length-set (map length bs) b k ∙ length_of bs

-- ---- what is kept
module _ {A : Type 0} (sh new : Shelf A) (free leaves excess a : ℕ) (p : IsPile sh free leaves excess a) where
  -- a leaf that changed
  pub leaf_keeps : (b i e : ℕ) (m : List A) → IsSpot sh.blocks b i → new.blocks ≡ set sh.blocks b (set (leaf_at sh.blocks b) i m) → new.kept ≡ sh.kept
      → e + (length (leaf_at (joined sh.blocks) (rank sh.blocks b i)) - 32) ≡ excess + (length m - 32) → IsPile new free leaves e a
  leaf_keeps b i e m w is k h =
      let leaf : joined new.blocks ≡ set (joined sh.blocks) (rank sh.blocks b i) m = ap joined is ∙ rank_set sh.blocks b i m w.block w.leaf in
      let count : length new.blocks ≡ length sh.blocks = ap length is ∙ length-set sh.blocks b (set (leaf_at sh.blocks b) i m) in
      record {
        filled = rw is (grown 64 128 sh.blocks b (set (leaf_at sh.blocks b) i m) p.filled (omega (arith, length-set (leaf_at sh.blocks b) i m))
            (omega (arith, length-set (leaf_at sh.blocks b) i m, (fit 64 128 sh.blocks b p.filled w.block).1)));
        counted = omega (arith, p.counted, ap length leaf, length-set (joined sh.blocks) (rank sh.blocks b i) m);
        exceeds = omega (arith, h, p.exceeds, ap excesses leaf, excess_set (joined sh.blocks) (rank sh.blocks b i) m (rank_below sh.blocks b i w.block w.leaf));
        room = p.room;
        rooms = omega (arith, p.rooms, k, count);
        limit = p.limit;
      }

  -- a leaf that was split
  pub split_keeps : (b i f n e a' : ℕ) → IsSpot sh.blocks b i → new.blocks ≡ set sh.blocks b (split_run 32 (leaf_at sh.blocks b) i) → new.kept ≡ sh.kept
      → length (leaf_at sh.blocks b) < 128 → length (leaf_at (joined sh.blocks) (rank sh.blocks b i)) ≡ 64 → f + 1 ≡ free → n ≡ leaves + 1 → e + 32 ≡ excess → a ≤ a' → IsPile new f n e a'
  split_keeps b i f n e a' w is k few full g l h c =
      let leaf : joined new.blocks ≡ split_run 32 (joined sh.blocks) (rank sh.blocks b i) = ap joined is ∙ rank_split 32 sh.blocks b i w.block w.leaf in
      let count : length new.blocks ≡ length sh.blocks = ap length is ∙ length-set sh.blocks b (split_run 32 (leaf_at sh.blocks b) i) in
      let below = rank_below sh.blocks b i w.block w.leaf in
      record {
        filled = rw is (grown 64 128 sh.blocks b (split_run 32 (leaf_at sh.blocks b) i) p.filled (omega (arith, length_split 32 (leaf_at sh.blocks b) i w.leaf))
            (omega (arith, length_split 32 (leaf_at sh.blocks b) i w.leaf)));
        counted = omega (arith, p.counted, l, ap length leaf, length_split 32 (joined sh.blocks) (rank sh.blocks b i) below);
        exceeds = omega (arith, h, p.exceeds, ap excesses leaf, excess_split (joined sh.blocks) (rank sh.blocks b i) below full);
        room = omega (arith, p.room, g, l, c);
        rooms = omega (arith, p.rooms, k, count, g, l);
        limit = omega (arith, p.limit, g, l);
      }

  -- the first leaf
  pub begin_keeps : (f n a' : ℕ) (leaf : List A) → sh.blocks ≡ [] → new.blocks ≡ (leaf ∷ []) ∷ [] → length leaf ≡ 1 → new.kept + 1 ≡ sh.kept → f + 1 ≡ free → n ≡ leaves + 1 → a ≤ a' → IsPile new f n excess a'
  begin_keeps f n a' leaf none is one k g l c = rw is record {
    filled = (omega arith, omega arith, omega arith, tt);
    counted = omega (arith, l, p.counted, ap (λ bs. length (joined bs)) none);
    exceeds = omega (arith, one, p.exceeds, ap (λ bs. excesses (joined bs)) none);
    room = omega (arith, p.room, g, l, c);
    rooms = omega (arith, p.rooms, k, ap length none, g, l);
    limit = omega (arith, p.limit, g, l);
  }

  -- a block that was split
  pub halve_keeps : (b : ℕ) → b < length sh.blocks → length (leaf_at sh.blocks b) ≡ 128 → new.blocks ≡ split_run 64 sh.blocks b → new.kept + 1 ≡ sh.kept → IsPile new free leaves excess a
  halve_keeps b w full is k =
      let same : joined new.blocks ≡ joined sh.blocks = ap joined is ∙ joined_split 64 sh.blocks b in
      record {
        filled = rw is (halved 64 128 sh.blocks b (omega arith) (omega arith) p.filled full);
        counted = p.counted ∙ ap length (sym same);
        exceeds = p.exceeds ∙ ap excesses (sym same);
        room = p.room;
        rooms = omega (arith, p.rooms, k, ap length is, length_split 64 sh.blocks b w);
        limit = p.limit;
      }

  -- a leaf that went, and blocks that are none too small again
  pub settled_keeps : (f n a' : ℕ) (ls : List (List A)) → joined new.blocks ≡ ls → AreBlocks new.blocks → length new.blocks + new.kept ≡ length sh.blocks + sh.kept
      → length ls + 1 ≡ length (joined sh.blocks) → excesses ls ≡ excesses (joined sh.blocks) → f ≡ free + 1 → n + 1 ≡ leaves → a ≤ a' → IsPile new f n excess a'
  settled_keeps f n a' ls is s k l e g m c = record {
    filled = s;
    counted = omega (arith, p.counted, ap length is, l, m);
    exceeds = p.exceeds ∙ sym e ∙ ap excesses (sym is);
    room = omega (arith, p.room, g, m, c);
    rooms = omega (arith, p.rooms, k, g, m);
    limit = omega (arith, p.limit, g, m);
  }

module _ {A : Type 0} (sh : Shelf A) (free leaves excess a : ℕ) (p : IsPile sh free leaves excess a) where
  -- a full block can be split
  pub left_kept : (b : ℕ) → b < length sh.blocks → length (leaf_at sh.blocks b) ≡ 128 → 0 < sh.kept
  left_kept b w full =
      let many = least_leaves 128 (split_run 64 sh.blocks b) (halved 64 128 sh.blocks b (omega arith) (omega arith) p.filled full) in
      omega (arith, many, p.rooms, p.counted, length_split 64 sh.blocks b w, ap length (joined_split 64 sh.blocks b))

  -- where there is no leaf there is no block
  pub no_blocks : joined sh.blocks ≡ [] → sh.blocks ≡ []
  no_blocks e = none sh.blocks p.filled (ap length e) where
    none : (bs : List (List (List A))) → AreBlocks bs → length (joined bs) ≡ 0 → bs ≡ []
    none [] f e = refl
    none (b ∷ bs) f e = absurd (omega (arith, f.0, e, length-append b (joined bs)))

-- where a leaf of a full block is once the block is split
pub record IsHalfSpot {A : Type 0} (bs : List (List A)) (b i d j : ℕ) : Type 0 where
  pub spot : IsSpot (split_run 64 bs b) d j
  pub same : rank (split_run 64 bs b) d j ≡ rank bs b i
  pub room : length (leaf_at (split_run 64 bs b) d) < 128

pub half_spot : {A : Type 0} (bs : List (List A)) (b i d j : ℕ) → b < length bs → i < length (leaf_at bs b) → length (leaf_at bs b) ≡ 128
    → ((i < 64) × (d ≡ b) × (j ≡ i)) ⊎ ((64 ≤ i) × (d ≡ b + 1) × (j + 64 ≡ i)) → IsHalfSpot bs b i d j
half_spot bs b i d j w v full (inl h) =
    let size : length (leaf_at (split_run 64 bs b) b) ≡ 64 = lower_size 64 bs b (omega arith) in
    rw (h.1, h.2) record {
      spot = record { block = omega (arith, length_split 64 bs b w); leaf = omega (arith, size, h.0) };
      same = omega (arith, before_lower 64 bs b);
      room = omega (arith, size);
    }
half_spot bs b i d j w v full (inr h) =
    let size : length (leaf_at (split_run 64 bs b) (suc b)) ≡ 64 = omega (arith, upper_size 64 bs b, full) in
    rw (h.1, add-one) record {
      spot = record { block = omega (arith, length_split 64 bs b w); leaf = omega (arith, size, h.2, v, full) };
      same = omega (arith, before_upper 64 bs b w (omega arith), h.2);
      room = omega (arith, size);
    }
