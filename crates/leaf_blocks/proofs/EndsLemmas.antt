-- How much there is up to the end of each size.
--     end_at, ends_length, start_is     an end is the sum so far
--     sum_set, sum_kept, sum_at         sums where one size is another
--     ends_raised, ends_lowered         the ends where a size is more or less
--     ends_split, ends_without, ends_pushed       where a size is in two parts, one of nothing goes, one is behind the others
--     raise_keeps, lower_keeps, remove_keeps, split_keeps, push_keeps, room_keeps     what is kept of the sizes
--     seat_at, seat_start, seat_rest, seat_inner      the one of a place
use Rattle.std.proofs.Common.{◌≡◌, ℕ, zero, suc, ◌+◌, ◌-◌, ◌^◌, ◌<◌, ◌≤◌, ◌⊎◌, inl, inr, List, [], ◌∷◌, ◌++◌, length, take, set, get_or, insert, remove, sum, refl, sym, ap, ◌∙◌, zero-add, add-one, arith}
use Rattle.std.proofs.lemmas.List.{ext_get_or, length-set, get_or_read, take-set-le, get_or-take, length-take-le}
use Rattle.std.proofs.Math.Seq.{take-length, take-set-lt}
use Rattle.std.proofs.lemmas.List.Edits.{length-insert, length-remove}
use Rattle.std.proofs.lemmas.List.Sums.{sum_by-cons, sum_by-set, sum_by-insert, sum_by-remove, sum_by-take-le}
use Rattle.std.proofs.lemmas.Bool.{cases_lt}
use Rattle.leaf_blocks.specs.Leaves.{ends_from, AreEnds}

pub sum_more : (n : ℕ) (ns : List ℕ) → sum (n ∷ ns) ≡ n + sum ns
sum_more n ns = sum_by-cons (λ (m : ℕ). m) n ns

pub ends_length : (n : ℕ) (ns : List ℕ) → length (ends_from n ns) ≡ length ns
ends_length n [] = refl
ends_length n (m ∷ ns) = ap suc (ends_length (n + m) ns)

-- an end is the sum so far
end_at : (n : ℕ) (ns : List ℕ) (i : ℕ) → i < length ns → get_or (ends_from n ns) i 0 ≡ n + sum (take (suc i) ns)
end_at n [] i h = absurd (omega arith)
end_at n (m ∷ ns) zero h = omega (arith, sum_more m [])
end_at n (m ∷ ns) (suc i) h = omega (arith, end_at (n + m) ns i (omega arith), sum_more m (take (suc i) ns))

sum_changed : (ns : List ℕ) (i m : ℕ) → i < length ns → sum (set ns i m) + get_or ns i 0 ≡ sum ns + m
sum_changed ns i m w = sum_by-set (λ (n : ℕ). n) ns i m 0 w

sum_set : (ns : List ℕ) (i m k : ℕ) → i < k → k ≤ length ns → sum (take k (set ns i m)) + get_or ns i 0 ≡ sum (take k ns) + m
sum_set ns i m k h w =
    let long : length (take k ns) ≡ k = length-take-le k ns w in
    ap (λ (ms : List ℕ). sum ms + get_or ns i 0) (take-set-lt k ns i m h)
    ∙ ap (λ (g : ℕ). sum (set (take k ns) i m) + g) (sym (get_or-take k ns i 0 h))
    ∙ sum_changed (take k ns) i m (omega arith)

sum_kept : (ns : List ℕ) (i m k : ℕ) → k ≤ i → sum (take k (set ns i m)) ≡ sum (take k ns)
sum_kept ns i m k h = ap sum (take-set-le k ns i m h)

pub sum_part : (ns : List ℕ) (k : ℕ) → sum (take k ns) ≤ sum ns
sum_part ns k = sum_by-take-le (λ (n : ℕ). n) ns k

pub sum_has : (ns : List ℕ) (i : ℕ) → i < length ns → sum (take (suc i) ns) ≡ sum (take i ns) + get_or ns i 0
sum_has [] i h = absurd (omega arith)
sum_has (n ∷ ns) zero h = omega (arith, sum_more n [])
sum_has (n ∷ ns) (suc i) h = omega (arith, sum_has ns i (omega arith), sum_more n (take (suc i) ns), sum_more n (take i ns))

pub sum_at : (ns : List ℕ) (i at : ℕ) → at ≤ i → get_or ns at 0 ≤ sum (take (suc i) ns)
sum_at [] i at h = omega arith
sum_at (n ∷ ns) i zero h = omega (arith, sum_more n (take i ns))
sum_at (n ∷ ns) zero (suc at) h = absurd (omega arith)
sum_at (n ∷ ns) (suc i) (suc at) h = omega (arith, sum_at ns i at (omega arith), sum_more n (take (suc i) ns))

-- the ends where one size is another
ends_set : (ns new : List ℕ) (i m : ℕ) → length new ≡ length ns → ((j : ℕ) → j < length ns → get_or new j 0 ≡ sum (take (suc j) (set ns i m)))
    → new ≡ ends_from 0 (set ns i m)
ends_set ns new i m l h =
    ext_get_or 0 new (ends_from 0 (set ns i m)) (omega (arith, l, ends_length 0 (set ns i m), length-set ns i m))
    (λ j w. omega (arith, h j (omega (arith, w, l)), end_at 0 (set ns i m) j (omega (arith, w, l, length-set ns i m))))

module _ (ns es new : List ℕ) (i n : ℕ) (w : i < length ns) (e : es ≡ ends_from 0 ns) (l : length new ≡ length es)
    (b : (j : ℕ) → j < i → get_or new j 0 ≡ get_or es j 0) where
  all : length es ≡ length ns
  all = ap length e ∙ ends_length 0 ns

  was : (j : ℕ) → j < length ns → get_or es j 0 ≡ sum (take (suc j) ns)
  was j v = ap (λ (xs : List ℕ). get_or xs j 0) e ∙ end_at 0 ns j v ∙ zero-add _

  ends_raised : ((j : ℕ) → i ≤ j → j < length es → get_or new j 0 ≡ get_or es j 0 + n) → new ≡ ends_from 0 (set ns i (get_or ns i 0 + n))
  ends_raised r = ends_set ns new i (get_or ns i 0 + n) (omega (arith, l, all)) (λ j v.
      elim (cases_lt j i) [
        | inl k ↦ omega (arith, b j k, was j v, sum_kept ns i (get_or ns i 0 + n) (suc j) (omega arith))
        | inr k ↦ omega (arith, r j k (omega (arith, all)), was j v, sum_set ns i (get_or ns i 0 + n) (suc j) (omega arith) (omega arith))
      ])

  ends_lowered : n ≤ get_or ns i 0 → ((j : ℕ) → i ≤ j → j < length es → get_or new j 0 + n ≡ get_or es j 0) → new ≡ ends_from 0 (set ns i (get_or ns i 0 - n))
  ends_lowered p r = ends_set ns new i (get_or ns i 0 - n) (omega (arith, l, all)) (λ j v.
      elim (cases_lt j i) [
        | inl k ↦ omega (arith, b j k, was j v, sum_kept ns i (get_or ns i 0 - n) (suc j) (omega arith))
        | inr k ↦ omega (arith, r j k (omega (arith, all)), was j v, sum_set ns i (get_or ns i 0 - n) (suc j) (omega arith) (omega arith))
      ])

-- a size in two parts
ends_split : (n : ℕ) (ns : List ℕ) (i left : ℕ) → i < length ns → left ≤ get_or ns i 0
    → (end : ℕ) → end ≡ n + (sum (take i ns) + left) → insert (ends_from n ns) i end ≡ ends_from n (insert (set ns i left) (suc i) (get_or ns i 0 - left))
ends_split n [] i left h p end e = absurd (omega arith)
ends_split n (m ∷ ns) zero left h p end e =
    let at : end ≡ n + left = omega arith in
    let whole : n + m ≡ n + left + (m - left) = omega arith in
    λ i. at i ∷ whole i ∷ ends_from (whole i) ns
ends_split n (m ∷ ns) (suc i) left h p end e =
    ap (λ es. (n + m) ∷ es) (ends_split (n + m) ns i left (omega arith) p end (omega (arith, e, sum_more m (take i ns))))

-- a size of nothing
ends_without : (n : ℕ) (ns : List ℕ) (i : ℕ) → i < length ns → get_or ns i 0 ≡ 0 → remove (ends_from n ns) i ≡ ends_from n (remove ns i)
ends_without n [] i h z = absurd (omega arith)
ends_without n (m ∷ ns) zero h z =
    let same : n + m ≡ n = omega arith in
    ap (λ k. ends_from k ns) same
ends_without n (m ∷ ns) (suc i) h z = ap (λ es. (n + m) ∷ es) (ends_without (n + m) ns i (omega arith) z)

-- a size behind the others
ends_pushed : (n : ℕ) (ns : List ℕ) (m end : ℕ) → end ≡ n + (sum ns + m) → ends_from n (ns ++ m ∷ []) ≡ ends_from n ns ++ end ∷ []
ends_pushed n [] m end e =
    let at : n + m ≡ end = omega arith in
    ap (λ k. k ∷ []) at
ends_pushed n (k ∷ ns) m end e = ap (λ es. (n + k) ∷ es) (ends_pushed (n + k) ns m end (omega (arith, e, sum_more k ns)))

pub insert_last : {A : Type 0} (xs : List A) (x : A) → insert xs (length xs) x ≡ xs ++ x ∷ []
insert_last [] x = refl
insert_last (y ∷ xs) x = ap (λ ys. y ∷ ys) (insert_last xs x)

-- ---- what is kept of the sizes
pub all_ends : (ns es : List ℕ) (room a b : ℕ) → AreEnds ns es room a b → length es ≡ length ns
all_ends ns es room a b k = ap length k.ends_are ∙ ends_length 0 ns

pub end_is : (ns es : List ℕ) (room a b i : ℕ) → AreEnds ns es room a b → i < length ns → get_or es i 0 ≡ sum (take (suc i) ns)
end_is ns es room a b i k w = ap (λ (xs : List ℕ). get_or xs i 0) k.ends_are ∙ end_at 0 ns i w ∙ zero-add _

-- the end before one is where it starts
pub start_is : (ns es : List ℕ) (room a b at e : ℕ) → AreEnds ns es room a b → at ≤ length ns → 0 < at → e ≡ get_or es (at - 1) e → e ≡ sum (take at ns)
start_is ns es room a b zero e k w n r = absurd (omega arith)
start_is ns es room a b (suc at) e k w n r =
    let back : suc at - 1 ≡ at = omega arith in
    let there : at < length es = omega (arith, all_ends ns es room a b k) in
    get_or_read es at e there (rw back at r) 0 ∙ end_is ns es room a b at k (omega arith)

module _ (ns es new : List ℕ) (room a b b' i n m : ℕ) (k : AreEnds ns es room a b) (w : i < length ns) (r : m ≡ get_or ns i m)
    (l : length new ≡ length es) (c : b' ≡ b) (below : (j : ℕ) → j < i → get_or new j 0 ≡ get_or es j 0) where
  here : m ≡ get_or ns i 0
  here = get_or_read ns i m w r 0

  pub raise_keeps : sum ns + n < 2 ^ 64 → ((j : ℕ) → i ≤ j → j < length es → get_or new j 0 ≡ get_or es j 0 + n) → AreEnds (set ns i (m + n)) new room a b'
  raise_keeps small above = rw here record {
    ends_are = ends_raised ns es new i n w k.ends_are l below above;
    fits = omega (arith, small, sum_changed ns i (get_or ns i 0 + n) w);
    room_sizes = k.room_sizes;
    room_ends = omega (arith, c, k.room_ends);
    used = omega (arith, k.used, length-set ns i (get_or ns i 0 + n));
    limit = k.limit;
  }

  pub lower_keeps : n ≤ get_or ns i 0 → ((j : ℕ) → i ≤ j → j < length es → get_or new j 0 + n ≡ get_or es j 0) → AreEnds (set ns i (m - n)) new room a b'
  lower_keeps part above = rw here record {
    ends_are = ends_lowered ns es new i n w k.ends_are l below part above;
    fits = omega (arith, k.fits, sum_changed ns i (get_or ns i 0 - n) w);
    room_sizes = k.room_sizes;
    room_ends = omega (arith, c, k.room_ends);
    used = omega (arith, k.used, length-set ns i (get_or ns i 0 - n));
    limit = k.limit;
  }

pub remove_keeps : (ns es new sizes : List ℕ) (room a a' b b' i : ℕ) → AreEnds ns es room a b → i < length ns → get_or ns i 0 ≡ 0 → sizes ≡ remove ns i → new ≡ remove es i
    → a ≤ a' → b ≤ b' → AreEnds sizes new room a' b'
remove_keeps ns es new sizes room a a' b b' i k w z s r c d = rw s record {
  ends_are = r ∙ ap (λ (xs : List ℕ). remove xs i) k.ends_are ∙ ends_without 0 ns i w z;
  fits = omega (arith, k.fits, sum_by-remove (λ (n : ℕ). n) ns i 0 w);
  room_sizes = omega (arith, c, k.room_sizes);
  room_ends = omega (arith, d, k.room_ends);
  used = omega (arith, k.used, length-remove ns i w);
  limit = k.limit;
}

pub split_keeps : (ns es sizes new : List ℕ) (room a a' b b' i left m end : ℕ) → AreEnds ns es room a b → i < length ns → m ≡ get_or ns i m → left ≤ get_or ns i 0 → length ns < room
    → end ≡ sum (take i ns) + left → sizes ≡ insert (set ns i left) (i + 1) (m - left) → new ≡ insert es i end → a ≤ a' → b ≤ b' → AreEnds sizes new room a' b'
split_keeps ns es sizes new room a a' b b' i left m end k w r p l e s t c d =
    let there : m ≡ get_or ns i 0 = get_or_read ns i m w r 0 in
    let long : length (set ns i left) ≡ length ns = length-set ns i left in
    let is : sizes ≡ insert (set ns i left) (suc i) (get_or ns i 0 - left) = s ∙ ap (insert (set ns i left) (i + 1)) (ap (λ k. k - left) there) ∙ ap (λ j. insert (set ns i left) j (get_or ns i 0 - left)) (add-one i) in
    record {
      ends_are = t ∙ ap (λ (xs : List ℕ). insert xs i end) k.ends_are ∙ ends_split 0 ns i left w p end (omega (arith, e)) ∙ ap (ends_from 0) (sym is);
      fits = omega (arith, k.fits, ap sum is, sum_by-insert (λ (n : ℕ). n) (set ns i left) (suc i) (get_or ns i 0 - left), sum_changed ns i left w);
      room_sizes = omega (arith, c, k.room_sizes);
      room_ends = omega (arith, d, k.room_ends);
      used = omega (arith, ap length is, long, length-insert (set ns i left) (suc i) (get_or ns i 0 - left) (omega (arith, long)));
      limit = k.limit;
    }

pub push_keeps : (ns es sizes new : List ℕ) (room a a' b b' size end at : ℕ) → AreEnds ns es room a b → length ns < room → sum ns + size < 2 ^ 64 → end ≡ sum ns + size → at ≡ length ns
    → sizes ≡ insert ns at size → new ≡ insert es at end → a ≤ a' → b ≤ b' → AreEnds sizes new room a' b'
push_keeps ns es sizes new room a a' b b' size end at k l small e q s t c d =
    let all : at ≡ length es = q ∙ sym (all_ends ns es room a b k) in
    let is : sizes ≡ ns ++ size ∷ [] = s ∙ ap (λ j. insert ns j size) q ∙ insert_last ns size in
    record {
      ends_are = t ∙ ap (λ j. insert es j end) all ∙ insert_last es end ∙ ap (λ (xs : List ℕ). xs ++ end ∷ []) k.ends_are ∙ sym (ends_pushed 0 ns size end (omega (arith, e))) ∙ ap (ends_from 0) (sym is);
      fits = omega (arith, ap sum s, sum_by-insert (λ (n : ℕ). n) ns at size, small);
      room_sizes = omega (arith, c, k.room_sizes);
      room_ends = omega (arith, d, k.room_ends);
      used = omega (arith, ap length s, length-insert ns at size (omega arith), l);
      limit = k.limit;
    }

-- room for more
pub room_keeps : (ns es : List ℕ) (room a b n wanted a' b' : ℕ) → AreEnds ns es room a b → wanted ≡ length ns + n → length ns + n ≤ 2 ^ 41 → a ≤ a' → b ≤ b'
    → length ns + n ≤ a' → length es + n ≤ b' → AreEnds ns es wanted a' b'
room_keeps ns es room a b n wanted a' b' k e l c d f g = record {
  ends_are = k.ends_are;
  fits = k.fits;
  room_sizes = omega (arith, e, f);
  room_ends = omega (arith, e, g, all_ends ns es room a b k);
  used = omega (arith, e);
  limit = omega (arith, e, l);
}

-- the one of a place
module _ (ns es : List ℕ) (room a b at place : ℕ) (k : AreEnds ns es room a b) (w : at < length es) (before : 0 < at → get_or es (at - 1) 0 ≤ place)
    (behind : at + 1 < length es → place < get_or es at 0) (within : place ≤ sum ns) where
  pub seat_at : at < length ns
  seat_at = omega (arith, all_ends ns es room a b k)

  pub seat_start : sum (take at ns) ≤ place
  seat_start = start_below at w before where
    start_below : (i : ℕ) → i < length es → (0 < i → get_or es (i - 1) 0 ≤ place) → sum (take i ns) ≤ place
    start_below zero v f = omega arith
    start_below (suc i) v f =
        let back : suc i - 1 ≡ i = omega arith in
        let last : get_or es i 0 ≤ place = rw back at (f (omega arith)) in
        omega (arith, last, end_is ns es room a b i k (omega (arith, all_ends ns es room a b k)))

  last_or : (suc at ≡ length ns) ⊎ (suc at < length ns)
  last_or = elim (cases_lt (suc at) (length ns)) [ inl h ↦ inr h | inr h ↦ inl (omega (arith, seat_at)) ]

  pub seat_rest : place - sum (take at ns) ≤ get_or ns at 0
  seat_rest = elim last_or [
    | inl h ↦ omega (arith, within, seat_start, sum_has ns at seat_at, ap (λ j. sum (take j ns)) h, ap sum (take-length ns))
    | inr h ↦ omega (arith, behind (omega (arith, h, all_ends ns es room a b k)), seat_start, sum_has ns at seat_at, end_is ns es room a b at k seat_at)
  ]

  pub seat_inner : place < sum ns → place - sum (take at ns) < get_or ns at 0
  seat_inner l = elim last_or [
    | inl h ↦ omega (arith, l, seat_start, sum_has ns at seat_at, ap (λ j. sum (take j ns)) h, ap sum (take-length ns))
    | inr h ↦ omega (arith, behind (omega (arith, h, all_ends ns es room a b k)), seat_start, sum_has ns at seat_at, end_is ns es room a b at k seat_at)
  ]
