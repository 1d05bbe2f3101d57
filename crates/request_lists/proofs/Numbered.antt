-- Where a number stands among cursors that stand by number.
use Rattle.std.proofs.Common.{◌≡◌, ◌≢◌, ℕ, zero, suc, ◌+◌, ◌<◌, ◌≤◌, Bool, true, false, List, [], ◌∷◌, ◌++◌, length, get_or, position, Some, None, cond, arith, refl, ap, sym, ◌∙◌, slice_get, inl, inr, ◌⊎◌, subst, set, Ok, Err, IfOk, OnErr}
use Rattle.std.specs.Prelude.{Result}
use Rattle.std.specs.List.{find, position_or_len}
use Rattle.std.specs.Option.{option_and_then}
use Rattle.std.proofs.lemmas.Bool.{ne_eqb, lt-ltb}
use Rattle.std.proofs.Math.Dec.{eqb, ltb}
use borrow.Author.Tests.{ltb-true, ltb-false}
use borrow.Author.Tests.{eq-eqb}
use Rattle.std.proofs.lemmas.Bool.Decides.{nat_tests, eqb_tells}
use Rattle.std.proofs.lemmas.Option.{cond_some, slice_get_past, slice_get_read}
use Rattle.std.proofs.lemmas.List.Folds.{find_at}
use Rattle.std.proofs.Math.Seq.{get_or-append_seam}
use Rattle.std.proofs.Math.ListN.{get_or-append}
use Rattle.std.proofs.Common.{length-append}
use Rattle.std.proofs.lemmas.List.{get_or-map, set-get_or}
use Rattle.request_lists.specs.declared.entries.FrontCursor.{FrontCursor}
use Rattle.request_lists.specs.Fronts.{is_cursor, requests_of, AreNumbered, cursor_changed, handler_of}

cases_le : (k m : ℕ) → k ≤ m → (k < m) ⊎ (k ≡ m)
cases_le k m h = grind arith

not_below_itself : (n : ℕ) → ltb n n ≡ false
not_below_itself n = grind (arith, nat_tests)

none_of : {A : Type 0} (b : Bool) (x : A) → cond b (Some x) None ≡ None → b ≡ false
none_of true x e = cc
none_of false x e = refl

module _ {D : Type 0} where
  pub count_of : (cs : List (FrontCursor D)) → length (requests_of cs) ≡ length cs
  count_of [] = refl
  count_of (c ∷ cs) = ap suc (count_of cs)

  pub number_at : (cs : List (FrontCursor D)) (i : ℕ) (d : FrontCursor D) → i < length cs → get_or (requests_of cs) i 0 ≡ (get_or cs i d).request
  number_at cs i d l = get_or-map (λ c. c.request) cs i d 0 l

  -- the first of this number is the one that stands there, since none before it has it
  stands_at : (n : ℕ) (cs : List (FrontCursor D)) (i : ℕ) → ((k : ℕ) → k < i → get_or (requests_of cs) k 0 ≢ n) → i < length cs → get_or (requests_of cs) i 0 ≡ n → position_or_len (is_cursor n) cs ≡ i
  stands_at n [] i h l e = absurd (omega arith)
  stands_at n (c ∷ cs) zero h l e = let same : eqb c.request n ≡ true = eq-eqb c.request n e in rw same refl
  stands_at n (c ∷ cs) (suc i) h l e =
      let other : eqb c.request n ≡ false = ne_eqb c.request n (h 0 (omega arith)) in
      rw other (omega (arith, stands_at n cs i (λ k m. h (suc k) (omega arith)) (omega arith) e))

  pub found_at : (n : ℕ) (cs : List (FrontCursor D)) (i next : ℕ) → AreNumbered (requests_of cs) next → i < length cs → get_or (requests_of cs) i 0 ≡ n → position (is_cursor n) cs ≡ Some i
  found_at n cs i next r l e =
      let within : i < length (requests_of cs) = omega (arith, count_of cs) in
      let at : position_or_len (is_cursor n) cs ≡ i = stands_at n cs i (λ k h d. omega (arith, r.rising k i h within, d, e)) l e in
      rw at (let less : ltb i (length cs) ≡ true = lt-ltb i (length cs) l in rw less refl)

  nowhere : (n : ℕ) (cs : List (FrontCursor D)) → ((k : ℕ) → k < length cs → get_or (requests_of cs) k 0 ≢ n) → position_or_len (is_cursor n) cs ≡ length cs
  nowhere n [] h = refl
  nowhere n (c ∷ cs) h =
      let other : eqb c.request n ≡ false = ne_eqb c.request n (h 0 (omega arith)) in
      rw other (omega (arith, nowhere n cs (λ k l. h (suc k) (omega arith))))

  pub found_nowhere : (n : ℕ) (cs : List (FrontCursor D)) → ((k : ℕ) → k < length cs → get_or (requests_of cs) k 0 ≢ n) → position (is_cursor n) cs ≡ None
  found_nowhere n cs h = rw (nowhere n cs h) (rw (not_below_itself (length cs)) refl)

  pub up_to : (cs : List (FrontCursor D)) (m next : ℕ) (d : FrontCursor D) → AreNumbered (requests_of cs) next → m < length cs → (k : ℕ) → k ≤ m → get_or (requests_of cs) k 0 ≤ (get_or cs m d).request
  up_to cs m next d r l k h =
      let at : get_or (requests_of cs) m 0 ≡ (get_or cs m d).request = number_at cs m d l in
      elim (cases_le k m h) [
        | inl less ↦ omega (arith, at, r.rising k m less (omega (arith, count_of cs)))
        | inr same ↦ let here : get_or (requests_of cs) k 0 ≡ get_or (requests_of cs) m 0 = ap (λ i. get_or (requests_of cs) i 0) same in omega (arith, at, here)
      ]

  pub from : (cs : List (FrontCursor D)) (m next : ℕ) (d : FrontCursor D) → AreNumbered (requests_of cs) next → m < length cs → (k : ℕ) → m ≤ k → k < length cs → (get_or cs m d).request ≤ get_or (requests_of cs) k 0
  from cs m next d r l k h w =
      let at : get_or (requests_of cs) m 0 ≡ (get_or cs m d).request = number_at cs m d l in
      elim (cases_le m k h) [
        | inl less ↦ omega (arith, at, r.rising m k less (omega (arith, count_of cs)))
        | inr same ↦ let here : get_or (requests_of cs) m 0 ≡ get_or (requests_of cs) k 0 = ap (λ i. get_or (requests_of cs) i 0) same in omega (arith, at, here)
      ]

  -- ---- the cursor of a number is changed
  pub place_some : (n : ℕ) (cs : List (FrontCursor D)) (i : ℕ) → position (is_cursor n) cs ≡ Some i → (position_or_len (is_cursor n) cs < length cs) × (position_or_len (is_cursor n) cs ≡ i)
  place_some n cs i e =
      let p = cond_some (ltb (position_or_len (is_cursor n) cs) (length cs)) (position_or_len (is_cursor n) cs) i e in
      (ltb-true _ _ p.0, p.1)

  changed_first : (change : FrontCursor D → FrontCursor D) (n : ℕ) (cs : List (FrontCursor D)) (i : ℕ) (c : FrontCursor D) → position_or_len (is_cursor n) cs ≡ i → i < length cs → c ≡ get_or cs i c → set cs i (change c) ≡ cursor_changed n change cs
  changed_first change n [] i c p l e = absurd (omega arith)
  changed_first change n (d ∷ cs) zero c p l e = elim (eqb_tells d.request n) [
    | inl h ↦ rw h.0 (ap (λ (x : FrontCursor D). change x ∷ cs) e)
    | inr h ↦ let later : 1 + position_or_len (is_cursor n) cs ≡ 0 = rw h.0 at p in absurd (omega (arith, later))
  ]
  changed_first change n (d ∷ cs) (suc i) c p l e = elim (eqb_tells d.request n) [
    | inl h ↦ let first : 0 ≡ suc i = rw h.0 at p in absurd (omega (arith, first))
    | inr h ↦ let later : 1 + position_or_len (is_cursor n) cs ≡ suc i = rw h.0 at p in rw h.0 (ap (λ ds. d ∷ ds) (changed_first change n cs i c (omega (arith, later)) (omega arith) e))
  ]

  pub changed_at : (change : FrontCursor D → FrontCursor D) (n : ℕ) (cs : List (FrontCursor D)) (i : ℕ) (c : FrontCursor D) → Some i ≡ position (is_cursor n) cs → c ≡ get_or cs i c → set cs i (change c) ≡ cursor_changed n change cs
  changed_at change n cs i c s e = let p = place_some n cs i (sym s) in changed_first change n cs i c p.1 (omega (arith, p.0, p.1)) e

  requests_changed : (change : FrontCursor D → FrontCursor D) → ((c : FrontCursor D) → (change c).request ≡ c.request) → (n : ℕ) (cs : List (FrontCursor D)) → requests_of (cursor_changed n change cs) ≡ requests_of cs
  requests_changed change same n [] = refl
  requests_changed change same n (c ∷ cs) = elim (eqb_tells c.request n) [ inl h ↦ rw h.0 (ap (λ m. m ∷ requests_of cs) (same c)) | inr h ↦ rw h.0 (ap (λ ns. c.request ∷ ns) (requests_changed change same n cs)) ]

  pub same_requests : (change : FrontCursor D → FrontCursor D) → ((c : FrontCursor D) → (change c).request ≡ c.request) → (n next : ℕ) (cs ds : List (FrontCursor D)) → ds ≡ cursor_changed n change cs → AreNumbered (requests_of cs) next → AreNumbered (requests_of ds) next
  same_requests change same n next cs ds e r = subst (λ ns. AreNumbered ns next) (sym (ap requests_of e ∙ requests_changed change same n cs)) r

  at_end : (n : ℕ) (cs : List (FrontCursor D)) → position_or_len (is_cursor n) cs ≤ length cs
  at_end n [] = omega arith
  at_end n (c ∷ cs) = elim (eqb_tells c.request n) [ inl p ↦ rw p.0 (omega arith) | inr p ↦ rw p.0 (omega (arith, at_end n cs)) ]

  pub place_none : (n : ℕ) (cs : List (FrontCursor D)) → position (is_cursor n) cs ≡ None → position_or_len (is_cursor n) cs ≡ length cs
  place_none n cs e =
      let l : length cs ≤ position_or_len (is_cursor n) cs = ltb-false _ _ (none_of (ltb (position_or_len (is_cursor n) cs) (length cs)) _ e) in
      omega (arith, at_end n cs, l)

  changed_none : (change : FrontCursor D → FrontCursor D) (n : ℕ) (cs : List (FrontCursor D)) → position_or_len (is_cursor n) cs ≡ length cs → cs ≡ cursor_changed n change cs
  changed_none change n [] e = refl
  changed_none change n (c ∷ cs) e = elim (eqb_tells c.request n) [
    | inl h ↦ let bad : 0 ≡ suc (length cs) = rw h.0 at e in absurd (omega (arith, bad))
    | inr h ↦ let rest : 1 + position_or_len (is_cursor n) cs ≡ suc (length cs) = rw h.0 at e in rw h.0 (ap (λ ds. c ∷ ds) (changed_none change n cs (omega (arith, rest))))
  ]

  pub changed_nowhere : (change : FrontCursor D → FrontCursor D) (n : ℕ) (cs : List (FrontCursor D)) → position (is_cursor n) cs ≡ None → cs ≡ cursor_changed n change cs
  changed_nowhere change n cs e = changed_none change n cs (place_none n cs e)

  -- ---- what stands at the place of a number
  pub found : (n i : ℕ) (cs : List (FrontCursor D)) → position (is_cursor n) cs ≡ Some i → slice_get cs i ≡ find (is_cursor n) cs
  found n i cs e = let p = place_some n cs i e in rw (← p.1) (sym (find_at (is_cursor n) cs))

  pub not_found : (n : ℕ) (cs : List (FrontCursor D)) → position (is_cursor n) cs ≡ None → find (is_cursor n) cs ≡ None
  not_found n cs e = find_at (is_cursor n) cs ∙ slice_get_past cs _ (omega (arith, place_none n cs e))

  pub cursor_there : (n : ℕ) (cs : List (FrontCursor D)) (i : ℕ) (c : FrontCursor D) → Some i ≡ position (is_cursor n) cs → c ≡ get_or cs i c → find (is_cursor n) cs ≡ Some c
  cursor_there n cs i c s e =
      let p = place_some n cs i (sym s) in
      sym (found n i cs (sym s)) ∙ slice_get_read cs (length cs) i c refl (omega (arith, p.0, p.1)) e

  pub handler_at : (n : ℕ) (cs : List (FrontCursor D)) (i : ℕ) (c : FrontCursor D) → Some i ≡ position (is_cursor n) cs → c ≡ get_or cs i c → handler_of cs n ≡ c.handler
  handler_at n cs i c s e = ap (λ o. option_and_then (λ d. d.handler) o) (cursor_there n cs i c s e)

  pub handler_nowhere : (n : ℕ) (cs : List (FrontCursor D)) → position (is_cursor n) cs ≡ None → handler_of cs n ≡ None
  handler_nowhere n cs e = ap (λ o. option_and_then (λ d. d.handler) o) (not_found n cs e)

  -- ---- where a call may refuse to change it
  pub changed_by : {X E : Type 0} (result : Result X E) (change : X → FrontCursor D → FrontCursor D) (n : ℕ) (cs : List (FrontCursor D)) (i : ℕ) (c d : FrontCursor D) → Some i ≡ position (is_cursor n) cs → c ≡ get_or cs i c → IfOk result (λ x. d ≡ change x c) → IfOk result (λ x. set cs i d ≡ cursor_changed n (change x) cs)
  changed_by (Ok x) change n cs i c d s e h = ap (λ y. set cs i y) h ∙ changed_at (change x) n cs i c s e
  changed_by (Err e) change n cs i c d s h k = tt

  keeps_request : {X E : Type 0} (result : Result X E) (change : X → FrontCursor D → FrontCursor D) → ((x : X) (c : FrontCursor D) → (change x c).request ≡ c.request) → (c d : FrontCursor D) → IfOk result (λ x. d ≡ change x c) → OnErr result (d ≡ c) → d.request ≡ c.request
  keeps_request (Ok x) change same c d h k = ap (λ (y : FrontCursor D). y.request) h ∙ same x c
  keeps_request (Err e) change same c d h k = ap (λ (y : FrontCursor D). y.request) k

  requests_set : (cs : List (FrontCursor D)) (i : ℕ) (c d : FrontCursor D) → i < length cs → c ≡ get_or cs i c → d.request ≡ c.request → requests_of (set cs i d) ≡ requests_of cs
  requests_set [] i c d l e h = absurd (omega arith)
  requests_set (b ∷ cs) zero c d l e h = ap (λ m. m ∷ requests_of cs) (h ∙ ap (λ (y : FrontCursor D). y.request) e)
  requests_set (b ∷ cs) (suc i) c d l e h = ap (λ ns. b.request ∷ ns) (requests_set cs i c d (omega arith) e h)

  pub numbered_by : {X E : Type 0} (result : Result X E) (change : X → FrontCursor D → FrontCursor D) → ((x : X) (c : FrontCursor D) → (change x c).request ≡ c.request) → (n next : ℕ) (cs : List (FrontCursor D)) (i : ℕ) (c d : FrontCursor D) → Some i ≡ position (is_cursor n) cs → c ≡ get_or cs i c → IfOk result (λ x. d ≡ change x c) → OnErr result (d ≡ c) → AreNumbered (requests_of cs) next → AreNumbered (requests_of (set cs i d)) next
  numbered_by result change same n next cs i c d s e h k r =
      let p = place_some n cs i (sym s) in
      subst (λ ns. AreNumbered ns next) (sym (requests_set cs i c d (omega (arith, p.0, p.1)) e (keeps_request result change same c d h k))) r

  pub same_by : {X E : Type 0} (result : Result X E) (cs : List (FrontCursor D)) (i : ℕ) (c d : FrontCursor D) → c ≡ get_or cs i c → OnErr result (d ≡ c) → OnErr result (set cs i d ≡ cs)
  same_by (Ok x) cs i c d e k = tt
  same_by (Err f) cs i c d e k = ap (λ y. set cs i y) (k ∙ e) ∙ set-get_or cs i c

-- ---- one more
pub numbered_next : (ns : List ℕ) (n : ℕ) → AreNumbered ns n → AreNumbered ns (n + 1)
numbered_next ns n r = record { rising = r.rising; below = λ i l. omega (arith, r.below i l) }

pub numbered_more : (ns : List ℕ) (n : ℕ) → AreNumbered ns n → AreNumbered (ns ++ n ∷ []) (n + 1)
numbered_more ns n r = record {
  rising = λ i j l m. rising_more ns n r i j l (omega (arith, length-append ns (n ∷ []), m));
  below = λ i l. below_more ns n r i (omega (arith, length-append ns (n ∷ []), l));
} where
  rising_more : (ns : List ℕ) (n : ℕ) → AreNumbered ns n → (i j : ℕ) → i < j → j ≤ length ns → get_or (ns ++ n ∷ []) i 0 < get_or (ns ++ n ∷ []) j 0
  rising_more ns n r i j l m = elim (cases_le j (length ns) m) [
    | inl less ↦ omega (arith, get_or-append ns (n ∷ []) 0 i (omega arith), get_or-append ns (n ∷ []) 0 j less, r.rising i j l less)
    | inr same ↦ omega (arith, get_or-append ns (n ∷ []) 0 i (omega arith), ap (λ k. get_or (ns ++ n ∷ []) k 0) same, get_or-append_seam ns n [] 0, r.below i (omega arith))
  ]

  below_more : (ns : List ℕ) (n : ℕ) → AreNumbered ns n → (i : ℕ) → i ≤ length ns → get_or (ns ++ n ∷ []) i 0 < n + 1
  below_more ns n r i m = elim (cases_le i (length ns) m) [
    | inl less ↦ omega (arith, get_or-append ns (n ∷ []) 0 i less, r.below i less)
    | inr same ↦ omega (arith, ap (λ k. get_or (ns ++ n ∷ []) k 0) same, get_or-append_seam ns n [] 0)
  ]

pub requests_more : {D : Type 0} (cs : List (FrontCursor D)) (c : FrontCursor D) → requests_of (cs ++ c ∷ []) ≡ requests_of cs ++ c.request ∷ []
requests_more [] c = refl
requests_more (d ∷ cs) c = ap (λ ns. d.request ∷ ns) (requests_more cs c)

pub numbered_with : {D : Type 0} (cs : List (FrontCursor D)) (c : FrontCursor D) (n : ℕ) → c.request ≡ n → AreNumbered (requests_of cs) n → AreNumbered (requests_of (cs ++ c ∷ [])) (n + 1)
numbered_with cs c n e r = subst (λ ns. AreNumbered ns (n + 1)) (sym (requests_more cs c ∙ ap (λ m. requests_of cs ++ m ∷ []) e)) (numbered_more (requests_of cs) n r)
