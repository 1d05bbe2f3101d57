-- A key, or a cut, sought in one leaf, or among the places that abbreviations leave.
--     near_below, near_above, near_split      on which side of these places a key or a cut has the others
--     leaf_sorted, leaf_has, leaf_belongs     what a leaf tells of a key
--     leaf_stays, leaf_split                  what it tells of a cut
--     leaf_length, run_is                     how long it is, and a run of it
use Rattle.std.proofs.Common.{◌≡◌, ℕ, ℤ, zero, suc, ◌+◌, ◌-◌, ◌<◌, ◌≤◌, inl, inr, T, Bool, true, false, Option, Some, List, [], ◌∷◌, ◌++◌, length, take, drop, slice_get, Ordering, Less, refl, sym, ap, ◌∙◌, subst, zero-add, add-one, arith, append_assoc}
use Rattle.std.specs.List.{AllByRecursion}
use Rattle.std.specs.Cmp.{IsTotalOrder}
use Rattle.std.specs.FinMap.Entries.{below_all}
use Rattle.std.proofs.lemmas.Option.{same_Some, slice_get_within}
use Rattle.std.proofs.lemmas.List.{take-append-le}
use Rattle.std.proofs.lemmas.Bool.{cases_lt}
use Rattle.sorted_table.specs.Orders.{precedes}
use Rattle.sorted_table.specs.Halves.{IsSplitBetween, IsSplitAt, StaysPassed}
use Rattle.sorted_table.specs.Tables.{IsSorted, AreBelow, AreAbove, HasKeyAt, BelongsAt}
use Rattle.sorted_table.proofs.Laws.{first, second, both, below_through, above_from}
use Rattle.leaf_blocks.specs.Leaves.{joined, before, leaf_at}
use Rattle.leaf_table.specs.Near.{IsNear}
use Rattle.leaf_blocks.proofs.Laws.{joined_get, leaf_within}

-- ---- lists in parts
module _ {A : Type 0} where
  pub all_both : (P : A → Type 0) (xs ys : List A) → AllByRecursion P xs → AllByRecursion P ys → AllByRecursion P (xs ++ ys)
  all_both P [] ys a b = b
  all_both P (x ∷ xs) ys a b = (a.0, all_both P xs ys a.1 b)

  all_take : (P : A → Type 0) (xs : List A) (i : ℕ) → AllByRecursion P (take (suc i) xs) → AllByRecursion P (take i xs)
  all_take P [] zero a = tt
  all_take P [] (suc i) a = tt
  all_take P (x ∷ xs) zero a = tt
  all_take P (x ∷ xs) (suc i) a = (a.0, all_take P xs i a.1)

  all_drop : (P : A → Type 0) (xs : List A) (i j : ℕ) → i ≤ j → AllByRecursion P (drop i xs) → AllByRecursion P (drop j xs)
  all_drop P [] i zero h a = a_none i a where
    a_none : (i : ℕ) → AllByRecursion P (drop i []) → AllByRecursion P []
    a_none zero a = a
    a_none (suc i) a = a
  all_drop P [] i (suc j) h a = tt
  all_drop P (x ∷ xs) zero zero h a = a
  all_drop P (x ∷ xs) zero (suc j) h a = all_drop P xs zero j (omega arith) a.1
  all_drop P (x ∷ xs) (suc i) zero h a = absurd (omega arith)
  all_drop P (x ∷ xs) (suc i) (suc j) h a = all_drop P xs i j (omega arith) a

  take_on : (xs ys : List A) (k : ℕ) → take (length xs + k) (xs ++ ys) ≡ xs ++ take k ys
  take_on [] ys k = rw zero-add refl
  take_on (x ∷ xs) ys k =
      let e : length (x ∷ xs) + k ≡ suc (length xs + k) = omega arith in
      rw e (ap (λ zs. x ∷ zs) (take_on xs ys k))

  drop_on : (xs ys : List A) (k : ℕ) → drop (length xs + k) (xs ++ ys) ≡ drop k ys
  drop_on [] ys k = rw zero-add refl
  drop_on (x ∷ xs) ys k =
      let e : length (x ∷ xs) + k ≡ suc (length xs + k) = omega arith in
      rw e (drop_on xs ys k)

  drop_in : (xs ys : List A) (k : ℕ) → k ≤ length xs → drop k (xs ++ ys) ≡ drop k xs ++ ys
  drop_in xs ys zero h = refl
  drop_in [] ys (suc k) h = absurd (omega arith)
  drop_in (x ∷ xs) ys (suc k) h = drop_in xs ys k (omega arith)

  take_front : (xs ys : List A) → take (length xs) (xs ++ ys) ≡ xs
  take_front [] ys = refl
  take_front (x ∷ xs) ys = ap (λ zs. x ∷ zs) (take_front xs ys)

  take_short : (n : ℕ) (xs : List A) → take n xs ≡ take (length (take n xs)) xs
  take_short zero xs = refl
  take_short (suc n) [] = refl
  take_short (suc n) (x ∷ xs) = ap (λ zs. x ∷ zs) (take_short n xs)

  -- all items are those before a leaf, those of it, and the rest
  parts : (ls : List (List A)) (i : ℕ) → i < length ls → joined ls ≡ joined (take i ls) ++ (leaf_at ls i ++ joined (drop (suc i) ls))
  parts [] i w = absurd (omega arith)
  parts (l ∷ ls) zero w = refl
  parts (l ∷ ls) (suc i) w = ap (λ zs. l ++ zs) (parts ls i (omega arith)) ∙ sym (append_assoc l (joined (take i ls)) (leaf_at ls i ++ joined (drop (suc i) ls)))

  pub leaf_length : (ls : List (List A)) (i : ℕ) → i < length ls → length (leaf_at ls i) ≤ length (joined ls)
  leaf_length ls i w = omega (arith, leaf_within ls i w)

  -- a run of a leaf is one of all items
  pub run_is : (ls : List (List A)) (i o place n : ℕ) (run : List A) → i < length ls → place ≡ before ls i + o → o ≤ length (leaf_at ls i) → run ≡ take n (drop o (leaf_at ls i))
      → run ≡ take (length run) (drop place (joined ls))
  run_is ls i o place n run w e v is =
      let rest : drop place (joined ls) ≡ drop o (leaf_at ls i) ++ joined (drop (suc i) ls) =
      ap (λ p. drop p (joined ls)) e ∙ ap (drop (before ls i + o)) (parts ls i w) ∙ drop_on (joined (take i ls)) (leaf_at ls i ++ joined (drop (suc i) ls)) o
      ∙ drop_in (leaf_at ls i) (joined (drop (suc i) ls)) o v in
      let own : run ≡ take (length run) (drop o (leaf_at ls i)) = is ∙ take_short n (drop o (leaf_at ls i)) ∙ ap (λ xs. take (length xs) (drop o (leaf_at ls i))) (sym is) in
      let few : length run ≤ length (drop o (leaf_at ls i)) = omega (arith, ap length is, take_few n (drop o (leaf_at ls i))) in
      own ∙ sym (ap (take (length run)) rest ∙ take-append-le (length run) (drop o (leaf_at ls i)) (joined (drop (suc i) ls)) few)
    where
      take_few : {A : Type 0} (n : ℕ) (xs : List A) → length (take n xs) ≤ length xs
      take_few zero xs = omega arith
      take_few (suc n) [] = omega arith
      take_few (suc n) (x ∷ xs) = omega (arith, take_few n xs)

-- ---- keys
module _ {K V : Type 0} (R : K → K → Ordering) where
  sorted_right : (xs ys : List (K × V)) → IsSorted R (xs ++ ys) → IsSorted R ys
  sorted_right [] ys h = h
  sorted_right (x ∷ xs) ys h = sorted_right xs ys (second _ _ h)

  below_left : (k : K) (xs ys : List (K × V)) → T (below_all R k (xs ++ ys)) → T (below_all R k xs)
  below_left k [] ys h = tt
  below_left k (x ∷ xs) ys h = both _ _ (first _ _ h) (below_left k xs ys (second _ _ h))

  sorted_left : (xs ys : List (K × V)) → IsSorted R (xs ++ ys) → IsSorted R xs
  sorted_left [] ys h = tt
  sorted_left (x ∷ xs) ys h = both _ _ (below_left x.0 xs ys (first _ _ h)) (sorted_left xs ys (second _ _ h))

  pub leaf_sorted : (ls : List (List (K × V))) (i : ℕ) → i < length ls → IsSorted R (joined ls) → IsSorted R (leaf_at ls i)
  leaf_sorted ls i w h = sorted_left (leaf_at ls i) (joined (drop (suc i) ls)) (sorted_right (joined (take i ls)) _ (subst (IsSorted R) (parts ls i w) h))

  module _ (ls : List (List (K × V))) (i low end : ℕ) (k : K) (w : i < length ls) (e : low ≡ before ls i) (l : end ≤ low + length (leaf_at ls i))
      (b : AreBelow R (take low (joined ls)) k) (a : AreAbove R (drop end (joined ls)) k) where
    abbrev front : List (K × V)
    front = joined (take i ls)

    abbrev rest : List (K × V)
    rest = joined (drop (suc i) ls)

    front_below : AreBelow R front k
    front_below = subst (λ xs. AreBelow R xs k) (ap (λ p. take p (joined ls)) e ∙ ap (take (before ls i)) (parts ls i w) ∙ take_front front (leaf_at ls i ++ rest)) b

    rest_above : AreAbove R rest k
    rest_above =
        let far : AreAbove R (drop (low + length (leaf_at ls i)) (joined ls)) k = all_drop (λ (x : K × V). R k x.0 ≡ Less) (joined ls) end (low + length (leaf_at ls i)) l a in
        subst (λ xs. AreAbove R xs k) (ap (λ p. drop (p + length (leaf_at ls i)) (joined ls)) e ∙ ap (drop (before ls i + length (leaf_at ls i))) (parts ls i w)
        ∙ drop_on front (leaf_at ls i ++ rest) (length (leaf_at ls i)) ∙ ap (λ p. drop p (leaf_at ls i ++ rest)) (sym plus_none) ∙ drop_on (leaf_at ls i) rest 0) far where
          plus_none : length (leaf_at ls i) + 0 ≡ length (leaf_at ls i)
          plus_none = omega arith

    take_of : (p : ℕ) → p ≤ length (leaf_at ls i) → take (low + p) (joined ls) ≡ front ++ take p (leaf_at ls i)
    take_of p v = ap (λ q. take (q + p) (joined ls)) e ∙ ap (take (before ls i + p)) (parts ls i w) ∙ take_on front (leaf_at ls i ++ rest) p ∙ ap (λ zs. front ++ zs) (take-append-le p (leaf_at ls i) rest v)

    drop_of : (p : ℕ) → p ≤ length (leaf_at ls i) → drop (low + p) (joined ls) ≡ drop p (leaf_at ls i) ++ rest
    drop_of p v = ap (λ q. drop (q + p) (joined ls)) e ∙ ap (drop (before ls i + p)) (parts ls i w) ∙ drop_on front (leaf_at ls i ++ rest) p ∙ drop_in (leaf_at ls i) rest p v

    below_of : (p : ℕ) → p ≤ length (leaf_at ls i) → AreBelow R (take p (leaf_at ls i)) k → AreBelow R (take (low + p) (joined ls)) k
    below_of p v h = subst (λ xs. AreBelow R xs k) (sym (take_of p v)) (all_both (λ (x : K × V). R x.0 k ≡ Less) front (take p (leaf_at ls i)) front_below h)

    above_of : (p : ℕ) → p ≤ length (leaf_at ls i) → AreAbove R (drop p (leaf_at ls i)) k → AreAbove R (drop (low + p) (joined ls)) k
    above_of p v h = subst (λ xs. AreAbove R xs k) (sym (drop_of p v)) (all_both (λ (x : K × V). R k x.0 ≡ Less) (drop p (leaf_at ls i)) rest h rest_above)

    pub leaf_has : (p : ℕ) → HasKeyAt R (leaf_at ls i) p k → HasKeyAt R (joined ls) (low + p) k
    leaf_has p h =
        let v : p < length (leaf_at ls i) = slice_get_within (leaf_at ls i) p (k, h.value) h.stands in
        let next : low + (p + 1) ≡ low + p + 1 = omega arith in
        record {
          value = h.value;
          stands = ap (λ q. slice_get (joined ls) (q + p)) e ∙ joined_get ls i p w v ∙ h.stands;
          before = below_of p (omega arith) h.before;
          behind = subst (λ q. AreAbove R (drop q (joined ls)) k) next (above_of (p + 1) (omega arith) h.behind);
        }

    pub leaf_belongs : (p : ℕ) → BelongsAt R (leaf_at ls i) p k → BelongsAt R (joined ls) (low + p) k
    leaf_belongs p h = record {
      within = omega (arith, h.within, e, leaf_within ls i w);
      before = below_of p h.within h.before;
      behind = above_of p h.within h.behind;
    }

module _ {K V : Type 0} (R : K → K → Ordering) (o : IsTotalOrder R) (abbreviated : K → Option ℤ) (tells : (x y : K) → precedes (abbreviated x) (abbreviated y) ≡ true → R x y ≡ Less)
    (es : List (K × V)) (k : K) (low end : ℕ) (h : IsSorted R es) (n : IsNear abbreviated es (abbreviated k) low end) where
  pub near_below : AreBelow R (take low es) k
  near_below = elim n.front [
    | inl z ↦ subst (λ p. AreBelow R (take p es) k) (sym z) tt
    | inr f ↦ all_take (λ (x : K × V). R x.0 k ≡ Less) es low (subst (λ p. AreBelow R (take p es) k) (add-one low) (below_through o es low f.0 k h f.1 (tells f.0.0 k f.2)))
  ]

  pub near_above : AreAbove R (drop end es) k
  near_above = elim n.behind [
    | inl z ↦ subst (λ p. AreAbove R (drop p es) k) (sym z) (none_left es)
    | inr f ↦ above_from o es end f.0 k h f.1 (tells k f.0.0 f.2)
  ] where
    none_left : (es : List (K × V)) → AreAbove R (drop (length es) es) k
    none_left [] = tt
    none_left (e ∷ es) = none_left es

-- ---- cuts
failed : (b : Bool) → (b ≡ true → false ≡ true) → b ≡ false
failed true f = sym (f refl)
failed false f = refl

module _ {K V : Type 0} (test : K → Bool) (abbreviated : K → Option ℤ) (cut : Option ℤ) (in_front : (k : K) → precedes (abbreviated k) cut ≡ true → test k ≡ false)
    (behind : (k : K) → precedes cut (abbreviated k) ≡ true → test k ≡ true) (es : List (K × V)) (low end : ℕ) (stays : StaysPassed (λ e. test e.0) es)
    (n : IsNear abbreviated es cut low end) where
  pub near_split : IsSplitBetween (λ e. test e.0) es low end
  near_split = record {
    ordered = n.ordered;
    within = n.within;
    before = λ i x lt at. elim n.front [
      | inl z ↦ absurd (omega (arith, z))
      | inr f ↦ failed (test x.0) (λ p. sym (in_front f.0.0 f.2) ∙ stays.later i low x f.0 lt at f.1 p)
    ];
    behind = λ i x le at. elim n.behind [
      | inl z ↦ absurd (omega (arith, z, slice_get_within es i x at))
      | inr f ↦ elim (cases_lt end i) [
        | inl lt ↦ stays.later end i f.0 x lt f.1 at (behind f.0.0 f.2)
        | inr ge ↦ (let same : i ≡ end = omega arith in
            let one : x ≡ f.0 = same_Some x f.0 (sym at ∙ ap (slice_get es) same ∙ f.1) in
            ap (λ (y : K × V). test y.0) one ∙ behind f.0.0 f.2)
      ]
    ];
  }

module _ {A : Type 0} (test : A → Bool) (ls : List (List A)) (i : ℕ) (w : i < length ls) (stays : StaysPassed test (joined ls)) where
  there : (j : ℕ) (x : A) → slice_get (leaf_at ls i) j ≡ Some x → slice_get (joined ls) (before ls i + j) ≡ Some x
  there j x at = joined_get ls i j w (slice_get_within (leaf_at ls i) j x at) ∙ at

  pub leaf_stays : StaysPassed test (leaf_at ls i)
  leaf_stays = record { later = λ j k x y lt at on passes. stays.later (before ls i + j) (before ls i + k) x y (omega arith) (there j x at) (there k y on) passes }

  pub leaf_split : (low end p : ℕ) → low ≡ before ls i → end ≤ low + length (leaf_at ls i) → IsSplitBetween test (joined ls) low end → IsSplitAt test (leaf_at ls i) p → IsSplitAt test (joined ls) (low + p)
  leaf_split low end p e l s q = record {
    ordered = omega arith;
    within = omega (arith, e, q.within, leaf_within ls i w);
    before = λ j x lt at. elim (cases_lt j low) [
      | inl k ↦ s.before j x k at
      | inr k ↦ (let place : before ls i + (j - low) ≡ j = omega (arith, e) in
          let own : slice_get (leaf_at ls i) (j - low) ≡ Some x = sym (joined_get ls i (j - low) w (omega (arith, e, q.within))) ∙ ap (slice_get (joined ls)) place ∙ at in
          q.before (j - low) x (omega arith) own)
    ];
    behind = λ j x le at. elim (cases_lt j (low + length (leaf_at ls i))) [
      | inl k ↦ (let place : before ls i + (j - low) ≡ j = omega (arith, e) in
          let own : slice_get (leaf_at ls i) (j - low) ≡ Some x = sym (joined_get ls i (j - low) w (omega (arith, e))) ∙ ap (slice_get (joined ls)) place ∙ at in
          q.behind (j - low) x (omega arith) own)
      | inr k ↦ s.behind j x (omega arith) at
    ];
  }
