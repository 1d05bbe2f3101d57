-- Requests that aren't answered, sorted by inserting each: what a stable sort makes.
--     is_behind             the order
--     sort_inserts          a list that ascends, where what ties stands as in the other list, is the other list sorted
use Rattle.std.proofs.Common.{◌≡◌, ℕ, suc, ◌<◌, ◌≤◌, Bool, true, false, not, ◌&&◌, cond, List, [], ◌∷◌, length, get_or, true≢false, refl, ap, sym, subst, ◌∙◌, arith}
use Rattle.std.specs.Cmp.{IsStrictWeakOrder}
use Rattle.std.specs.Bool.{⊤}
use Rattle.std.specs.List.{All, filter}
use Rattle.std.specs.List.Sorted.{IsSortedBy, IsStableBy, ties}
use Rattle.std.specs.Ordering.{is_lt}
use Rattle.std.proofs.lemmas.List.Elements.{All-nil, All-cons, All-head, All-tail, All-weaker, All-from_get_or}
use Rattle.std.proofs.lemmas.List.Sorted.{ranks_by, sorted_far}
use Rattle.name_queues.specs.Ids.{by_id_order, by_id_order_total}
use Rattle.idb_calls.specs.declared.orders.Pending.{Pending}
use Rattle.desk_steps.specs.Waiting.{pending_id, put_pending, sorted_pending}

abbrev pub is_behind : Pending → Pending → Bool
is_behind p q = is_lt (by_id_order (pending_id p) (pending_id q))

weak : IsStrictWeakOrder is_behind
weak = ranks_by by_id_order_total pending_id

abbrev tied : Pending → Pending → Bool
tied = ties is_behind

-- each is no less than those before it
abbrev IsNoLess : Pending → Pending → Type 0
IsNoLess p q = is_behind q p ≡ false

abbrev IsLeast : Pending → List Pending → Type 0
IsLeast p = All (IsNoLess p)

abbrev Rises : List Pending → Type 0
Rises [] = ⊤
Rises (p ∷ ps) = IsLeast p ps × Rises ps

rises_by_places : (qs : List Pending) → ((i j : ℕ) (d : Pending) → i ≤ j → j < length qs → is_behind (get_or qs j d) (get_or qs i d) ≡ false) → Rises qs
rises_by_places [] far = tt
rises_by_places (q ∷ qs) far = (
  All-from_get_or (IsNoLess q) qs q (λ i few. far 0 (suc i) q (omega arith) (omega arith)),
  rises_by_places qs (λ i j d no_later few. far (suc i) (suc j) d (omega arith) (omega arith)),
)

rises_from : (ps : List Pending) → IsSortedBy is_behind ps → Rises ps
rises_from ps sorted = rises_by_places ps (sorted_far is_behind weak ps sorted)

head_same : {p q : Pending} {ps qs : List Pending} → p ∷ ps ≡ q ∷ qs → p ≡ q
head_same e = cc

tail_same : {p q : Pending} {ps qs : List Pending} → p ∷ ps ≡ q ∷ qs → ps ≡ qs
tail_same e = cc

none_some : {p : Pending} {ps : List Pending} → [] ≡ p ∷ ps → ⊥
none_some e = cc

-- what ties
not_both : (b c : Bool) → not b && not c ≡ true → (b ≡ false) × (c ≡ false)
not_both true c h = absurd (true≢false (sym h))
not_both false true h = absurd (true≢false (sym h))
not_both false false h = (refl, refl)

both_not : (b c : Bool) → b ≡ false → c ≡ false → not b && not c ≡ true
both_not b c h k = rw (h, k) refl

irreflexive : (p : Pending) → is_behind p p ≡ false
irreflexive p = elim (is_behind p p) as (λ b. is_behind p p ≡ b → is_behind p p ≡ false) [
  | true ↦ λ h. weak.one_way p p h
  | false ↦ λ h. h
] refl

tied_itself : (p : Pending) → tied p p ≡ true
tied_itself p = both_not _ _ (irreflexive p) (irreflexive p)

-- those tied with one tie
tied_through : (r q p : Pending) → tied r q ≡ true → tied r p ≡ true → is_behind q p ≡ false
tied_through r q p h k = weak.chain q r p (not_both (is_behind r q) (is_behind q r) h).1 (not_both (is_behind r p) (is_behind p r) k).0

-- inserting keeps what ties as it stands
exchanged : (p q : Pending) (rest : List Pending) (b c : Bool) → (b ≡ true → c ≡ true → ⊥)
    → cond b (q ∷ cond c (p ∷ rest) rest) (cond c (p ∷ rest) rest) ≡ cond c (p ∷ cond b (q ∷ rest) rest) (cond b (q ∷ rest) rest)
exchanged p q rest true true h = absurd (h refl refl)
exchanged p q rest true false h = refl
exchanged p q rest false true h = refl
exchanged p q rest false false h = refl

put_keeps_at : (r p q : Pending) (qs : List Pending) (b : Bool) → is_behind q p ≡ b
    → filter (tied r) (put_pending p qs) ≡ filter (tied r) (p ∷ qs)
    → filter (tied r) (cond b (q ∷ put_pending p qs) (p ∷ q ∷ qs)) ≡ filter (tied r) (p ∷ q ∷ qs)
put_keeps_at r p q qs true h kept = ap (λ l. cond (tied r q) (q ∷ l) l) kept
    ∙ exchanged p q (filter (tied r) qs) (tied r q) (tied r p) (λ a b. true≢false (sym h ∙ tied_through r q p a b))
put_keeps_at r p q qs false h kept = refl

put_keeps : (r p : Pending) (qs : List Pending) → filter (tied r) (put_pending p qs) ≡ filter (tied r) (p ∷ qs)
put_keeps r p [] = refl
put_keeps r p (q ∷ qs) = put_keeps_at r p q qs (is_behind q p) refl (put_keeps r p qs)

sorted_keeps : (r : Pending) (ps : List Pending) → filter (tied r) (sorted_pending ps) ≡ filter (tied r) ps
sorted_keeps r [] = refl
sorted_keeps r (p ∷ ps) = put_keeps r p (sorted_pending ps) ∙ ap (λ l. cond (tied r p) (p ∷ l) l) (sorted_keeps r ps)

-- inserting keeps the order
all_put : (P : Pending → Type 0) (p : Pending) (qs : List Pending) → P p → All P qs → All P (put_pending p qs)
all_put P p [] here all = All-cons P p [] here all
all_put P p (q ∷ qs) here all = elim (is_behind q p) as (λ b. All P (cond b (q ∷ put_pending p qs) (p ∷ q ∷ qs))) [
  | true ↦ All-cons P q (put_pending p qs) (All-head P q qs all) (all_put P p qs here (All-tail P q qs all))
  | false ↦ All-cons P p (q ∷ qs) here all
]

put_rises : (p : Pending) (qs : List Pending) → Rises qs → Rises (put_pending p qs)
put_rises p [] rises = (All-nil (IsNoLess p), tt)
put_rises p (q ∷ qs) rises = elim (is_behind q p) as (λ b. is_behind q p ≡ b → Rises (cond b (q ∷ put_pending p qs) (p ∷ q ∷ qs))) [
  | true ↦ λ h. (all_put (IsNoLess q) p qs (weak.one_way q p h) rises.0, put_rises p qs rises.1)
  | false ↦ λ h. (All-cons (IsNoLess p) q qs h (All-weaker (IsNoLess q) (IsNoLess p) (λ r least. weak.chain r q p least h) qs rises.0), rises)
] refl

sorted_rises : (ps : List Pending) → Rises (sorted_pending ps)
sorted_rises [] = tt
sorted_rises (p ∷ ps) = put_rises p (sorted_pending ps) (sorted_rises ps)

-- the first that passes a test is one of the list
first_kept_at : (r p q s : Pending) (qs rest : List Pending) (b : Bool) → tied r q ≡ b → is_behind q p ≡ false
    → cond b (q ∷ filter (tied r) qs) (filter (tied r) qs) ≡ s ∷ rest
    → (filter (tied r) qs ≡ s ∷ rest → (tied r s ≡ true) × (is_behind s p ≡ false))
    → (tied r s ≡ true) × (is_behind s p ≡ false)
first_kept_at r p q s qs rest true t h e next = subst (λ (x : Pending). (tied r x ≡ true) × (is_behind x p ≡ false)) (head_same e) (t, h)
first_kept_at r p q s qs rest false t h e next = next e

first_kept : (r p s : Pending) (qs rest : List Pending) → IsLeast p qs → filter (tied r) qs ≡ s ∷ rest → (tied r s ≡ true) × (is_behind s p ≡ false)
first_kept r p s [] rest above e = absurd (none_some e)
first_kept r p s (q ∷ qs) rest above e = first_kept_at r p q s qs rest (tied r q) refl (All-head (IsNoLess p) q qs above) e (first_kept r p s qs rest (All-tail (IsNoLess p) q qs above))

kept_itself : (p : Pending) (ps : List Pending) → filter (tied p) (p ∷ ps) ≡ p ∷ filter (tied p) ps
kept_itself p ps = ap (λ b. cond b (p ∷ filter (tied p) ps) (filter (tied p) ps)) (tied_itself p)

-- the first of the one isn't behind the first of the other
not_behind : (p q : Pending) (ps qs : List Pending) → IsLeast p ps → filter (tied q) (p ∷ ps) ≡ filter (tied q) (q ∷ qs) → is_behind q p ≡ false
not_behind p q ps qs above e =
    let first = first_kept q p q (p ∷ ps) (filter (tied q) qs) (All-cons (IsNoLess p) p ps (irreflexive p) above) (e ∙ kept_itself q qs) in
    weak.chain q q p (irreflexive q) first.1

rest_same : (b : Bool) (p : Pending) (xs ys : List Pending) → cond b (p ∷ xs) xs ≡ cond b (p ∷ ys) ys → xs ≡ ys
rest_same true p xs ys e = tail_same e
rest_same false p xs ys e = e

-- two lists that ascend are one where what ties stands in the same order in both
same : (ps qs : List Pending) → Rises ps → Rises qs → ((r : Pending) → filter (tied r) ps ≡ filter (tied r) qs) → ps ≡ qs
same [] [] up above f = refl
same [] (q ∷ qs) up above f = absurd (none_some (f q ∙ kept_itself q qs))
same (p ∷ ps) [] up above f = absurd (none_some (sym (f p) ∙ kept_itself p ps))
same (p ∷ ps) (q ∷ qs) up above f =
    let ties : tied p q ≡ true = both_not _ _ (not_behind q p qs ps above.0 (sym (f p))) (not_behind p q ps qs up.0 (f q)) in
    let first : p ≡ q = head_same (sym (kept_itself p ps) ∙ f p ∙ ap (λ b. cond b (q ∷ filter (tied p) qs) (filter (tied p) qs)) ties) in
    let rest : ps ≡ qs = same ps qs up.1 above.1 (λ r. rest_same (tied r p) p _ _ (f r ∙ ap (λ x. cond (tied r x) (x ∷ filter (tied r) qs) (filter (tied r) qs)) (sym first))) in
    ap (λ x. x ∷ ps) first ∙ ap (λ l. q ∷ l) rest

pub sort_inserts : (ps qs : List Pending) → IsSortedBy is_behind qs → IsStableBy is_behind ps qs → qs ≡ sorted_pending ps
sort_inserts ps qs up stable = same qs (sorted_pending ps) (rises_from qs up) (sorted_rises ps) (λ r. stable r ∙ sym (sorted_keeps r ps))
