-- What is kept of the leaves of a block.
--     in_sizes, block_sum, block_before, block_size      what the sizes are
--     put_keeps, take_keeps, value_keeps, append_keeps   of a leaf that got an item, lost one, has another value, or got those of another
--     split_keeps, push_keeps, pull_keeps                of a leaf that was split, one more, or one less
--     moved, moved_items, moved_all      a leaf behind the first 64 that goes to another block
use Rattle.std.proofs.Common.{◌≡◌, ℕ, zero, suc, ◌+◌, ◌-◌, ◌<◌, ◌≤◌, List, [], ◌∷◌, ◌++◌, length, take, drop, map, set, get_or, insert, remove, sum, refl, sym, ap, ◌∙◌, add-one, arith, append_assoc, length-append, length-drop}
use Rattle.std.proofs.lemmas.List.{length-set, length-map, length-take-le, set-get_or, map-append, append-nil, drop_all}
use Rattle.std.proofs.lemmas.List.Edits.{length-insert, length-remove}
use Rattle.sorted_table.specs.Tables.{with_value}
use Rattle.sorted_table.proofs.Laws.{length_value}
use Rattle.leaf_blocks.specs.Leaves.{Row, IsBlock, joined, before, leaf_at, split_run}
use Rattle.leaf_blocks.proofs.LeavesLemmas.{size_at, sum_sizes, sum_before, sizes_put, sizes_out, length_split}

module _ {A : Type 0} (ls : List (List A)) (row : Row) (a : ℕ) (p : IsBlock ls row a) where
  pub in_sizes : length row.sizes ≡ length ls
  in_sizes = ap length p.sized ∙ length-map ls length

  pub block_sum : sum row.sizes ≡ length (joined ls)
  block_sum = sum_sizes ls row.sizes p.sized

  pub block_before : (i : ℕ) → sum (take i row.sizes) ≡ before ls i
  block_before i = sum_before ls row.sizes i p.sized

  pub block_size : (i : ℕ) → get_or row.sizes i 0 ≡ length (leaf_at ls i)
  block_size i = size_at ls row.sizes i p.sized

module _ {A : Type 0} (ls : List (List A)) (row new : Row) (a : ℕ) (p : IsBlock ls row a) where
  set_keeps : (i n : ℕ) (m : List A) → i < length ls → n ≡ length m → new.sizes ≡ set row.sizes i n → new.room ≡ row.room → IsBlock (set ls i m) new a
  set_keeps i n m w s r q = record {
    sized = r ∙ sizes_put ls row.sizes i n m p.sized s;
    most = omega (arith, length-set ls i m, p.most);
    room = p.room;
    room_sizes = omega (arith, q, p.room_sizes);
  }

  pub put_keeps : (i o : ℕ) (l m : List A) (x : A) → i < length ls → o ≤ length (leaf_at ls i) → l ≡ leaf_at ls i → m ≡ insert l o x
      → new.sizes ≡ set row.sizes i (get_or row.sizes i 0 + 1) → new.room ≡ row.room → IsBlock (set ls i m) new a
  put_keeps i o l m x w v e b r q =
      let more : length m ≡ length (leaf_at ls i) + 1 = ap length (b ∙ ap (λ k. insert k o x) e) ∙ length-insert (leaf_at ls i) o x v in
      set_keeps i (get_or row.sizes i 0 + 1) m w (omega (arith, more, block_size ls row a p i)) r q

  pub take_keeps : (i o : ℕ) (l m : List A) → i < length ls → o < length (leaf_at ls i) → l ≡ leaf_at ls i → m ≡ remove l o
      → new.sizes ≡ set row.sizes i (get_or row.sizes i 0 - 1) → new.room ≡ row.room → IsBlock (set ls i m) new a
  take_keeps i o l m w v e b r q =
      let less : length m + 1 ≡ length (leaf_at ls i) = ap (λ k. length k + 1) (b ∙ ap (λ k. remove k o) e) ∙ length-remove (leaf_at ls i) o v in
      set_keeps i (get_or row.sizes i 0 - 1) m w (omega (arith, less, block_size ls row a p i)) r q

  pub append_keeps : (i n : ℕ) (l m other : List A) → i < length ls → l ≡ leaf_at ls i → m ≡ l ++ other → n ≡ length other
      → new.sizes ≡ set row.sizes i (get_or row.sizes i 0 + n) → new.room ≡ row.room → IsBlock (set ls i m) new a
  append_keeps i n l m other w e b s r q =
      set_keeps i (get_or row.sizes i 0 + n) m w (omega (arith, ap length b, length-append l other, ap length e, s, block_size ls row a p i)) r q

  pub split_keeps : (a' i : ℕ) (new_leaves : List (List A)) → i < length ls → length (leaf_at ls i) ≡ 64 → length ls < 128
      → new_leaves ≡ split_run 32 ls i → new.sizes ≡ insert (set row.sizes i 32) (i + 1) (get_or row.sizes i 0 - 32) → new.room ≡ row.room → a ≤ a'
      → IsBlock new_leaves new a'
  split_keeps a' i new_leaves w full few is r q c = rw is record {
    sized = r ∙ ap (λ n. insert (set row.sizes i 32) (i + 1) n) (let half : get_or row.sizes i 0 - 32 ≡ 32 = omega (arith, full, block_size ls row a p i) in half)
        ∙ ap (λ ns. insert (set ns i 32) (i + 1) 32) p.sized ∙ split_sizes ls i w full;
    most = omega (arith, length_split 32 ls i w);
    room = omega (arith, c, p.room);
    room_sizes = omega (arith, q, p.room_sizes);
  } where
    split_sizes : (ls : List (List A)) (i : ℕ) → i < length ls → length (leaf_at ls i) ≡ 64 → insert (set (map length ls) i 32) (i + 1) 32 ≡ map length (split_run 32 ls i)
    split_sizes [] i w e = absurd (omega arith)
    split_sizes (l ∷ ls) zero w e =
        let low : 32 ≡ length (take 32 l) = sym (length-take-le 32 l (omega arith)) in
        let high : 32 ≡ length (drop 32 l) = omega (arith, length-drop 32 l) in
        λ i. low i ∷ high i ∷ map length ls
    split_sizes (l ∷ ls) (suc i) w e = rw add-one (ap (λ ns. length l ∷ ns) (rw add-one at (split_sizes ls i (omega arith) e)))

  pub push_keeps : (a' : ℕ) (n : ℕ) (leaf : List A) (new_leaves : List (List A)) → length ls < 128 → n ≡ length leaf → new_leaves ≡ ls ++ leaf ∷ []
      → new.sizes ≡ row.sizes ++ n ∷ [] → new.room ≡ row.room → a ≤ a' → IsBlock new_leaves new a'
  push_keeps a' n leaf new_leaves few s is r q c = rw is record {
    sized = r ∙ ap (λ k. row.sizes ++ k ∷ []) s ∙ ap (λ ns. ns ++ length leaf ∷ []) p.sized ∙ sym (map-append length ls (leaf ∷ []));
    most = omega (arith, length-append ls (leaf ∷ []));
    room = omega (arith, c, p.room);
    room_sizes = omega (arith, q, p.room_sizes);
  }

  remove_set : (ns : List ℕ) (i n : ℕ) → remove (set ns i n) i ≡ remove ns i
  remove_set [] zero n = refl
  remove_set [] (suc i) n = refl
  remove_set (m ∷ ns) zero n = refl
  remove_set (m ∷ ns) (suc i) n = ap (λ ks. m ∷ ks) (remove_set ns i n)

  pub pull_keeps : (a' i n : ℕ) (mid : List ℕ) (new_leaves : List (List A)) → i < length ls → new_leaves ≡ remove ls i → mid ≡ set row.sizes i n
      → new.sizes ≡ remove mid i → new.room ≡ row.room → a ≤ a' → IsBlock new_leaves new a'
  pull_keeps a' i n mid new_leaves w is m r q c = rw is record {
    sized = r ∙ ap (λ ns. remove ns i) m ∙ remove_set row.sizes i n ∙ sizes_out ls row.sizes i p.sized;
    most = omega (arith, length-remove ls i w, p.most);
    room = omega (arith, c, p.room);
    room_sizes = omega (arith, q, p.room_sizes);
  }

module _ {K V : Type 0} where
  pub value_keeps : (ls : List (List (K × V))) (row : Row) (a : ℕ) → IsBlock ls row a → (i o : ℕ) (v : V) (l m : List (K × V)) → i < length ls → l ≡ leaf_at ls i
      → m ≡ with_value l o v → IsBlock (set ls i m) row a
  value_keeps ls row a p i o v l m w e b =
      let same : length m ≡ length (leaf_at ls i) = ap length b ∙ length_value l o v ∙ ap length e in
      set_keeps ls row row a p i (get_or row.sizes i 0) m w (block_size ls row a p i ∙ sym same) (sym (set-get_or row.sizes i 0)) refl

-- a leaf that goes to another block
module _ {A : Type 0} where
  drop_open : (i : ℕ) (ls : List (List A)) → i < length ls → drop i ls ≡ leaf_at ls i ∷ drop (suc i) ls
  drop_open i [] w = absurd (omega arith)
  drop_open zero (l ∷ ls) w = refl
  drop_open (suc i) (l ∷ ls) w = drop_open i ls (omega arith)

  drop_cut : (i : ℕ) (ls : List (List A)) → drop i (remove ls i) ≡ drop (suc i) ls
  drop_cut zero [] = refl
  drop_cut (suc i) [] = refl
  drop_cut zero (l ∷ ls) = refl
  drop_cut (suc i) (l ∷ ls) = drop_cut i ls

  take_cut : (i : ℕ) (ls : List (List A)) → take i (remove ls i) ≡ take i ls
  take_cut zero ls = refl
  take_cut (suc i) [] = refl
  take_cut (suc i) (l ∷ ls) = ap (λ ks. l ∷ ks) (take_cut i ls)

  items_cut : (ls : List (List A)) (i : ℕ) → i < length ls → length (joined (remove ls i)) + length (leaf_at ls i) ≡ length (joined ls)
  items_cut [] i w = absurd (omega arith)
  items_cut (l ∷ ls) zero w = omega (arith, length-append l (joined ls))
  items_cut (l ∷ ls) (suc i) w = omega (arith, items_cut ls i (omega arith), length-append l (joined ls), length-append l (joined (remove ls i)))

  items_more : (ls : List (List A)) (l : List A) → length (joined (ls ++ l ∷ [])) ≡ length (joined ls) + length l
  items_more [] l = omega (arith, length-append l [])
  items_more (k ∷ ls) l = omega (arith, items_more ls l, length-append k (joined ls), length-append k (joined (ls ++ l ∷ [])))

module _ {A : Type 0} (lower lower' upper upper' : List (List A)) (x : List A) (w : 64 < length lower) (t : x ≡ leaf_at lower 64) (l : lower' ≡ remove lower 64)
    (u : upper' ≡ upper ++ x ∷ []) where
  pub moved : (take 64 lower' ≡ take 64 lower) × (upper' ++ drop 64 lower' ≡ upper ++ drop 64 lower)
  moved = rw (l, u, t) (take_cut 64 lower, rw append_assoc (ap (λ ys. upper ++ ys) (ap (λ ys. leaf_at lower 64 ∷ ys) (drop_cut 64 lower) ∙ sym (drop_open 64 lower w))))

  pub moved_items : length (joined upper') + length (joined lower') ≡ length (joined upper) + length (joined lower)
  moved_items = rw (l, u, t) (omega (arith, items_more upper (leaf_at lower 64), items_cut lower 64 w))

pub moved_all : {A : Type 0} (lower upper : List (List A)) → length lower ≤ 64 → upper ++ drop 64 lower ≡ upper
moved_all lower upper h = ap (λ ys. upper ++ ys) (drop_all 64 lower h) ∙ append-nil upper
