-- What is kept of the blocks of a shelf.
--     shelf_sizes, shelf_sum, shelf_before, shelf_size      what the sizes are
--     set_keeps                                             of a block that changed
--     halve_keeps, absorb_keeps, out_keeps, begin_keeps     of a block that was split, joined with the next, or left out, and of the first one
use Rattle.std.proofs.Common.{◌≡◌, ℕ, zero, suc, ◌+◌, ◌-◌, ◌<◌, ◌≤◌, List, [], ◌∷◌, ◌++◌, length, take, drop, map, set, get_or, insert, remove, sum, refl, sym, ap, ◌∙◌, add-one, arith, length-append}
use Rattle.std.proofs.lemmas.List.{length-set, length-map, map-set, set-get_or, take-append-drop}
use Rattle.std.proofs.lemmas.List.Edits.{length-insert, length-remove}
use Rattle.std.proofs.lemmas.List.Sums.{sum_by-set, sum_by-remove}
use Rattle.sorted_table.specs.Tables.{with_value}
use Rattle.sorted_table.proofs.Laws.{length_value}
use Rattle.leaf_blocks.specs.Leaves.{Row, joined, before, leaf_at, split_run, join_leaf, items_in}
use Rattle.leaf_piles.specs.Piles.{IsShelf}
use Rattle.leaf_blocks.proofs.Laws.{length_split, length_join, joined_split, sum_more, joined_more}

module _ {A : Type 0} where
  sum_of : (bs : List (List (List A))) → sum (map items_in bs) ≡ length (joined (joined bs))
  sum_of [] = refl
  sum_of (b ∷ bs) = omega (arith, sum_more (items_in b) (map items_in bs), sum_of bs, ap length (joined_more b (joined bs)), length-append (joined b) (joined (joined bs)))

  take_of : (bs : List (List (List A))) (i : ℕ) → take i (map items_in bs) ≡ map items_in (take i bs)
  take_of bs zero = refl
  take_of [] (suc i) = refl
  take_of (b ∷ bs) (suc i) = ap (λ ns. items_in b ∷ ns) (take_of bs i)

  at_of : (bs : List (List (List A))) (i : ℕ) → get_or (map items_in bs) i 0 ≡ items_in (leaf_at bs i)
  at_of [] i = refl
  at_of (b ∷ bs) zero = refl
  at_of (b ∷ bs) (suc i) = at_of bs i

  out_of : (bs : List (List (List A))) (i : ℕ) → remove (map items_in bs) i ≡ map items_in (remove bs i)
  out_of [] zero = refl
  out_of [] (suc i) = refl
  out_of (b ∷ bs) zero = refl
  out_of (b ∷ bs) (suc i) = ap (λ ns. items_in b ∷ ns) (out_of bs i)

module _ {A : Type 0} (bs : List (List (List A))) (row : Row) (kept a c : ℕ) (p : IsShelf bs row kept a c) where
  pub shelf_sizes : length row.sizes ≡ length bs
  shelf_sizes = ap length p.sized ∙ length-map bs items_in

  pub shelf_sum : sum row.sizes ≡ length (joined (joined bs))
  shelf_sum = ap sum p.sized ∙ sum_of bs

  pub shelf_before : (i : ℕ) → sum (take i row.sizes) ≡ length (joined (joined (take i bs)))
  shelf_before i = ap (λ ns. sum (take i ns)) p.sized ∙ ap sum (take_of bs i) ∙ sum_of (take i bs)

  pub shelf_size : (i : ℕ) → get_or row.sizes i 0 ≡ items_in (leaf_at bs i)
  shelf_size i = ap (λ ns. get_or ns i 0) p.sized ∙ at_of bs i

-- parts of all items
module _ {A : Type 0} where
  pub leaf_part : (ls : List (List A)) (i : ℕ) → length (leaf_at ls i) ≤ items_in ls
  leaf_part [] i = omega arith
  leaf_part (l ∷ ls) zero = omega (arith, length-append l (joined ls))
  leaf_part (l ∷ ls) (suc i) = omega (arith, leaf_part ls i, length-append l (joined ls))

  pub block_part : (bs : List (List (List A))) (i : ℕ) → items_in (leaf_at bs i) ≤ length (joined (joined bs))
  block_part [] i = omega arith
  block_part (b ∷ bs) zero = omega (arith, ap length (joined_more b (joined bs)), length-append (joined b) (joined (joined bs)))
  block_part (b ∷ bs) (suc i) = omega (arith, block_part bs i, ap length (joined_more b (joined bs)), length-append (joined b) (joined (joined bs)))

  pub pair_part : (bs : List (List (List A))) (i : ℕ) → items_in (leaf_at bs i) + items_in (leaf_at bs (suc i)) ≤ length (joined (joined bs))
  pair_part [] i = omega arith
  pair_part (b ∷ bs) zero = omega (arith, block_part bs 0, ap length (joined_more b (joined bs)), length-append (joined b) (joined (joined bs)))
  pair_part (b ∷ bs) (suc i) = omega (arith, pair_part bs i, ap length (joined_more b (joined bs)), length-append (joined b) (joined (joined bs)))

  pub half_part : (h : ℕ) (b : List (List A)) → items_in (take h b) ≤ items_in b
  half_part h b = omega (arith, ap items_in (take-append-drop h b), ap length (joined_more (take h b) (drop h b)), length-append (joined (take h b)) (joined (drop h b)))

  pub items_cut : (ls : List (List A)) (i : ℕ) → i < length ls → items_in (remove ls i) + length (leaf_at ls i) ≡ items_in ls
  items_cut [] i w = absurd (omega arith)
  items_cut (l ∷ ls) zero w = omega (arith, length-append l (joined ls))
  items_cut (l ∷ ls) (suc i) w = omega (arith, items_cut ls i (omega arith), length-append l (joined ls), length-append l (joined (remove ls i)))

  items_set : (ls : List (List A)) (i : ℕ) (m : List A) → i < length ls → items_in (set ls i m) + length (leaf_at ls i) ≡ items_in ls + length m
  items_set [] i m w = absurd (omega arith)
  items_set (l ∷ ls) zero m w = omega (arith, length-append l (joined ls), length-append m (joined ls))
  items_set (l ∷ ls) (suc i) m w = omega (arith, items_set ls i m (omega arith), length-append l (joined ls), length-append l (joined (set ls i m)))

  pub before_part : (bs : List (List (List A))) (b i : ℕ) → b < length bs → length (joined (joined (take b bs))) + before (leaf_at bs b) i ≤ length (joined (joined bs))
  before_part [] b i w = absurd (omega arith)
  before_part (x ∷ bs) zero i w = omega (arith, half_part i x, ap length (joined_more x (joined bs)), length-append (joined x) (joined (joined bs)))
  before_part (x ∷ bs) (suc b) i w = omega (
    arith,
    before_part bs b i (omega arith),
    ap length (joined_more x (joined bs)),
    length-append (joined x) (joined (joined bs)),
    ap length (joined_more x (joined (take b bs))),
    length-append (joined x) (joined (joined (take b bs))),
  )

-- the sizes where a block is joined with the next still have room
pub absorb_small : (ns mid mid' : List ℕ) (i n : ℕ) → i < length ns → n ≤ get_or ns i 0 → mid ≡ set ns i (get_or ns i 0 - n) → mid' ≡ remove mid i → sum mid' + n ≤ sum ns
absorb_small ns mid mid' i n w h m l =
    let v : i < length mid = omega (arith, ap length m, length-set ns i (get_or ns i 0 - n)) in
    omega (arith, ap sum l, sum_by-remove (λ (k : ℕ). k) mid i 0 v, ap sum m, sum_by-set (λ (k : ℕ). k) ns i (get_or ns i 0 - n) 0 w)

module _ {A : Type 0} (bs : List (List (List A))) (row new : Row) (kept a c : ℕ) (p : IsShelf bs row kept a c) where
  -- a block that changed
  pub set_keeps : (kept' a' c' i n : ℕ) (m : List (List A)) (bs' : List (List (List A))) → i < length bs → bs' ≡ set bs i m → n ≡ items_in m → new.sizes ≡ set row.sizes i n → new.room ≡ row.room
      → kept' ≡ kept → a ≤ a' → c ≤ c' → IsShelf bs' new kept' a' c'
  set_keeps kept' a' c' i n m bs' w is s r q k d f = rw is record {
    sized = r ∙ ap (λ ns. set ns i n) p.sized ∙ ap (λ k. set (map items_in bs) i k) s ∙ sym (map-set items_in bs i m);
    room = omega (arith, k, d, length-set bs i m, p.room);
    room_kept = omega (arith, k, f, length-set bs i m, p.room_kept);
    room_sizes = omega (arith, k, q, length-set bs i m, p.room_sizes);
  }

  -- the same where its items are as many
  pub same_keeps : (i : ℕ) (m : List (List A)) → i < length bs → items_in (leaf_at bs i) ≡ items_in m → new ≡ row → IsShelf (set bs i m) new kept a c
  same_keeps i m w s e = rw e record {
    sized = sym (set-get_or row.sizes i 0) ∙ ap (λ ns. set ns i (get_or row.sizes i 0)) p.sized ∙ ap (λ k. set (map items_in bs) i k) (shelf_size bs row kept a c p i ∙ s) ∙ sym (map-set items_in bs i m);
    room = omega (arith, length-set bs i m, p.room);
    room_kept = omega (arith, length-set bs i m, p.room_kept);
    room_sizes = omega (arith, length-set bs i m, p.room_sizes);
  }

  module _ (b i : ℕ) (l m : List (List A)) (w : b < length bs) (e : l ≡ leaf_at bs b) (v : i < length (leaf_at bs b)) (q : new.room ≡ row.room) where
    leaf_keeps : (n : ℕ) (k : List A) → m ≡ set (leaf_at bs b) i k → n + length (leaf_at (leaf_at bs b) i) ≡ get_or row.sizes b 0 + length k → new.sizes ≡ set row.sizes b n
        → IsShelf (set bs b m) new kept a c
    leaf_keeps n k is s r = set_keeps kept a c b n m (set bs b m) w refl
        (omega (arith, s, ap items_in is, items_set (leaf_at bs b) i k v, shelf_size bs row kept a c p b)) r q refl (omega arith) (omega arith)

    pub put_keeps : (o : ℕ) (x : A) → o ≤ length (leaf_at (leaf_at bs b) i) → m ≡ set l i (insert (leaf_at l i) o x) → new.sizes ≡ set row.sizes b (get_or row.sizes b 0 + 1)
        → IsShelf (set bs b m) new kept a c
    put_keeps o x h is r = leaf_keeps (get_or row.sizes b 0 + 1) (insert (leaf_at (leaf_at bs b) i) o x) (is ∙ ap (λ k. set k i (insert (leaf_at k i) o x)) e)
        (omega (arith, length-insert (leaf_at (leaf_at bs b) i) o x h)) r

    pub take_keeps : (o : ℕ) → o < length (leaf_at (leaf_at bs b) i) → m ≡ set l i (remove (leaf_at l i) o) → new.sizes ≡ set row.sizes b (get_or row.sizes b 0 - 1)
        → IsShelf (set bs b m) new kept a c
    take_keeps o h is r = leaf_keeps (get_or row.sizes b 0 - 1) (remove (leaf_at (leaf_at bs b) i) o) (is ∙ ap (λ k. set k i (remove (leaf_at k i) o)) e)
        (omega (arith, length-remove (leaf_at (leaf_at bs b) i) o h, leaf_part (leaf_at bs b) i, shelf_size bs row kept a c p b)) r

    pub append_keeps : (n : ℕ) (other : List A) → n ≡ length other → m ≡ set l i (leaf_at l i ++ other) → new.sizes ≡ set row.sizes b (get_or row.sizes b 0 + n)
        → IsShelf (set bs b m) new kept a c
    append_keeps n other s is r = leaf_keeps (get_or row.sizes b 0 + n) (leaf_at (leaf_at bs b) i ++ other) (is ∙ ap (λ k. set k i (leaf_at k i ++ other)) e)
        (omega (arith, s, length-append (leaf_at (leaf_at bs b) i) other)) r

    pub pull_keeps : (n : ℕ) (leaf : List A) → leaf ≡ leaf_at l i → n ≡ length leaf → m ≡ remove l i → new.sizes ≡ set row.sizes b (get_or row.sizes b 0 - n) → IsShelf (set bs b m) new kept a c
    pull_keeps n leaf t s is r =
        let size : n ≡ length (leaf_at (leaf_at bs b) i) = s ∙ ap length (t ∙ ap (λ k. leaf_at k i) e) in
        set_keeps kept a c b (get_or row.sizes b 0 - n) m (set bs b m) w refl
        (omega (arith, size, ap items_in (is ∙ ap (λ k. remove k i) e), items_cut (leaf_at bs b) i v, shelf_size bs row kept a c p b)) r q refl (omega arith) (omega arith)

  pub split_keeps : (b i : ℕ) (l m : List (List A)) → b < length bs → l ≡ leaf_at bs b → m ≡ split_run 32 l i → new ≡ row → IsShelf (set bs b m) new kept a c
  split_keeps b i l m w e is r = same_keeps b m w (sym (ap items_in (is ∙ ap (λ k. split_run 32 k i) e) ∙ ap length (joined_split 32 (leaf_at bs b) i))) r

  -- a block that was split
  pub halve_keeps : (h kept' a' c' i n : ℕ) (bs' : List (List (List A))) → i < length bs → bs' ≡ split_run h bs i → n ≡ items_in (take h (leaf_at bs i))
      → new.sizes ≡ insert (set row.sizes i n) (i + 1) (get_or row.sizes i 0 - n) → new.room ≡ row.room → kept' + 1 ≡ kept → a ≤ a' → c ≤ c' → IsShelf bs' new kept' a' c'
  halve_keeps h kept' a' c' i n bs' w is s r q k d f = rw is record {
    sized = r ∙ ap (λ m. insert (set row.sizes i m) (i + 1) (get_or row.sizes i 0 - m)) s ∙ ap (λ ns. insert (set ns i (items_in (take h (leaf_at bs i)))) (i + 1) (get_or ns i 0 - items_in (take h (leaf_at bs i)))) p.sized
        ∙ split_sizes bs i w;
    room = omega (arith, k, d, length_split h bs i w, p.room);
    room_kept = omega (arith, k, f, length_split h bs i w, p.room_kept);
    room_sizes = omega (arith, k, q, length_split h bs i w, p.room_sizes);
  } where
    parts : (b : List (List A)) → items_in b - items_in (take h b) ≡ items_in (drop h b)
    parts b = omega (arith, ap items_in (take-append-drop h b), ap length (joined_more (take h b) (drop h b)), length-append (joined (take h b)) (joined (drop h b)))

    split_sizes : (bs : List (List (List A))) (i : ℕ) → i < length bs
        → insert (set (map items_in bs) i (items_in (take h (leaf_at bs i)))) (i + 1) (get_or (map items_in bs) i 0 - items_in (take h (leaf_at bs i))) ≡ map items_in (split_run h bs i)
    split_sizes [] i w = absurd (omega arith)
    split_sizes (b ∷ bs) zero w = ap (λ n. items_in (take h b) ∷ n ∷ map items_in bs) (parts b)
    split_sizes (b ∷ bs) (suc i) w = rw add-one (ap (λ ns. items_in b ∷ ns) (rw add-one at (split_sizes bs i (omega arith))))

  -- a block joined with the next
  pub absorb_keeps : (kept' a' c' i n : ℕ) (mid mid' : List ℕ) (bs' : List (List (List A))) → i + 1 < length bs → bs' ≡ join_leaf bs i → n ≡ items_in (leaf_at bs (i + 1))
      → mid ≡ set row.sizes (i + 1) (get_or row.sizes (i + 1) 0 - n) → mid' ≡ remove mid (i + 1) → new.sizes ≡ set mid' i (get_or mid' i 0 + n)
      → new.room ≡ row.room → kept' ≡ kept + 1 → a ≤ a' → c ≤ c' → IsShelf bs' new kept' a' c'
  absorb_keeps kept' a' c' i n mid mid' bs' w is s m l r q k d f =
      let long : length (join_leaf bs i) + 1 ≡ length bs = length_join bs i (rw add-one at w) in
      rw is record {
        sized = r ∙ ap (λ ms. set ms i (get_or ms i 0 + n)) (l ∙ ap (λ ms. remove ms (i + 1)) m) ∙ ap (λ ns. joins ns n) p.sized ∙ ap (joins (map items_in bs)) s ∙ join_sizes bs i w;
        room = omega (arith, k, d, long, p.room);
        room_kept = omega (arith, k, f, long, p.room_kept);
        room_sizes = omega (arith, k, q, long, p.room_sizes);
      } where
        joins : List ℕ → ℕ → List ℕ
        joins ns n = set (remove (set ns (i + 1) (get_or ns (i + 1) 0 - n)) (i + 1)) i (get_or (remove (set ns (i + 1) (get_or ns (i + 1) 0 - n)) (i + 1)) i 0 + n)

        join_sizes : (bs : List (List (List A))) (i : ℕ) → i + 1 < length bs
            → set (remove (set (map items_in bs) (i + 1) (get_or (map items_in bs) (i + 1) 0 - items_in (leaf_at bs (i + 1)))) (i + 1)) i
            (get_or (remove (set (map items_in bs) (i + 1) (get_or (map items_in bs) (i + 1) 0 - items_in (leaf_at bs (i + 1)))) (i + 1)) i 0 + items_in (leaf_at bs (i + 1)))
            ≡ map items_in (join_leaf bs i)
        join_sizes [] i w = absurd (omega arith)
        join_sizes (b ∷ []) i w = absurd (omega arith)
        join_sizes (b ∷ d ∷ bs) zero w = ap (λ n. n ∷ map items_in bs) (sym (ap length (joined_more b d) ∙ length-append (joined b) (joined d)))
        join_sizes (b ∷ d ∷ bs) (suc i) w = rw add-one (ap (λ ns. items_in b ∷ ns) (rw add-one at (join_sizes (d ∷ bs) i (omega arith))))

  -- an empty block left out
  pub out_keeps : (kept' a' c' i : ℕ) (bs' : List (List (List A))) → i < length bs → bs' ≡ remove bs i → new.sizes ≡ remove row.sizes i → new.room ≡ row.room → kept' ≡ kept + 1 → a ≤ a' → c ≤ c'
      → IsShelf bs' new kept' a' c'
  out_keeps kept' a' c' i bs' w is r q k d f = rw is record {
    sized = r ∙ ap (λ ns. remove ns i) p.sized ∙ out_of bs i;
    room = omega (arith, k, d, length-remove bs i w, p.room);
    room_kept = omega (arith, k, f, length-remove bs i w, p.room_kept);
    room_sizes = omega (arith, k, q, length-remove bs i w, p.room_sizes);
  }

module _ {K V : Type 0} where
  pub value_keeps : (bs : List (List (List (K × V)))) (row : Row) (kept a c : ℕ) → IsShelf bs row kept a c → (b i o : ℕ) (v : V) (l m : List (List (K × V))) → b < length bs → l ≡ leaf_at bs b
      → i < length (leaf_at bs b) → m ≡ set l i (with_value (leaf_at l i) o v) → IsShelf (set bs b m) row kept a c
  value_keeps bs row kept a c p b i o v l m w e h is = same_keeps bs row row kept a c p b m w
      (omega (
        arith,
        ap items_in (is ∙ ap (λ k. set k i (with_value (leaf_at k i) o v)) e),
        items_set (leaf_at bs b) i (with_value (leaf_at (leaf_at bs b) i) o v) h,
        length_value (leaf_at (leaf_at bs b) i) o v,
      )) refl
