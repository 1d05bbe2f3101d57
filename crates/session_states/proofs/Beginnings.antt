-- The transactions that began, by their numbers and clients.
--     begun_more            a client's acts go on
--     txs_more, txs_still   one client's transactions among those that wait, and those of others
--     drawn_parts           of those that drew numbers, the first and the others
--     apart_before, apart_behind    a number among others that rise
--     all_below             each number is below the next
use Rattle.std.proofs.Common.{◌≡◌, ◌≢◌, ℕ, zero, suc, ◌+◌, ◌≤◌, ◌<◌, true, false, List, [], ◌∷◌, ◌++◌, map, slice_get, slice_set, if◌then◌else◌, Some, inl, inr, refl, sym, ◌∙◌, ap, subst, arith}
use Rattle.std.specs.Prelude.{◌==◌}
use Rattle.std.specs.List.{AllByRecursion}
use Rattle.std.specs.List.Sorted.{IsPermutation}
use Rattle.std.proofs.lemmas.Bool.Decides.{eqb_tells}
use Rattle.std.proofs.lemmas.List.{append-nil, append_assoc, map-append}
use Rattle.std.proofs.lemmas.List.Concat.{flat_map-append}
use Rattle.std.proofs.lemmas.List.Sorted.{IsPermutation-append_right, IsPermutation-append_comm}
use Rattle.client_ties.specs.Acts.{Act, tx_of_act, txs_begun}
use Rattle.client_ties.specs.ClientStates.{ClientTx}
use Rattle.client_ties.specs.Unfinished.{UnfinishedTx, AreDrawn}
use Rattle.session_states.specs.Telling.{BegunAt, begun_at, begun_from, txs_at, shown_begun}

pub some_same : {X : Type 0} {x y : X} → Some x ≡ Some y → x ≡ y
some_same e = cc

pub equal : (a b : ℕ) → (a == b) ≡ true → a ≡ b
equal a b e = elim (eqb_tells a b) [ inl p ↦ p.1 | inr p ↦ absurd (no (sym e ∙ p.0)) ]
  where
    no : true ≡ false → ⊥
    no k = cc

pub equal_self : (n : ℕ) → (n == n) ≡ true
equal_self n = elim (eqb_tells n n) [ inl p ↦ p.0 | inr p ↦ absurd (p.1 refl) ]

pub unequal : (a b : ℕ) → a ≢ b → (a == b) ≡ false
unequal a b out = elim (eqb_tells a b) [ inl p ↦ absurd (out p.1) | inr p ↦ p.0 ]

-- ---- a client's acts go on
swap_last : {X : Type 0} (xs ys zs : List X) → IsPermutation ((xs ++ ys) ++ zs) ((xs ++ zs) ++ ys)
swap_last xs ys zs = subst (λ l. IsPermutation l ((xs ++ zs) ++ ys)) (sym (append_assoc xs ys zs))
    (subst (λ l. IsPermutation (xs ++ (ys ++ zs)) l) (sym (append_assoc xs zs ys)) (IsPermutation-append_right xs (ys ++ zs) (zs ++ ys) (IsPermutation-append_comm ys zs)))

begun_both : (place : ℕ) (acts more : List Act) → map (begun_at place) (txs_begun (acts ++ more)) ≡ map (begun_at place) (txs_begun acts) ++ map (begun_at place) (txs_begun more)
begun_both place acts more = ap (map (begun_at place)) (flat_map-append tx_of_act acts more) ∙ map-append (begun_at place) (txs_begun acts) (txs_begun more)

pub begun_more : (first place : ℕ) (acts : List (List Act)) (own more : List Act) → slice_get acts place ≡ Some own
    → IsPermutation (begun_from first (slice_set acts place (own ++ more))) (begun_from first acts ++ map (begun_at (first + place)) (txs_begun more))
begun_more first place [] own more e = cc
begun_more first zero (a ∷ rest) own more e =
    let M = map (begun_at first) (txs_begun more) in
    let R = begun_from (first + 1) rest in
    let here : first ≡ first + 0 = omega arith in
    let front : map (begun_at first) (txs_begun (own ++ more)) ++ R ≡ (map (begun_at first) (txs_begun own) ++ M) ++ R = ap (λ l. l ++ R) (begun_both first own more) in
    subst (λ n. IsPermutation (map (begun_at first) (txs_begun (own ++ more)) ++ R) ((map (begun_at first) (txs_begun a) ++ R) ++ map (begun_at n) (txs_begun more))) here
    (subst (λ x. IsPermutation (map (begun_at first) (txs_begun (own ++ more)) ++ R) ((map (begun_at first) (txs_begun x) ++ R) ++ M)) (sym (some_same e))
    (subst (λ l. IsPermutation l ((map (begun_at first) (txs_begun own) ++ R) ++ M)) (sym front) (swap_last (map (begun_at first) (txs_begun own)) M R)))
begun_more first (suc place) (a ∷ rest) own more e =
    let A = map (begun_at first) (txs_begun a) in
    let there : (first + 1) + place ≡ first + suc place = omega arith in
    subst (λ n. IsPermutation (A ++ begun_from (first + 1) (slice_set rest place (own ++ more))) ((A ++ begun_from (first + 1) rest) ++ map (begun_at n) (txs_begun more))) there
    (subst (λ l. IsPermutation (A ++ begun_from (first + 1) (slice_set rest place (own ++ more))) l) (sym (append_assoc A (begun_from (first + 1) rest) (map (begun_at ((first + 1) + place)) (txs_begun more))))
    (IsPermutation-append_right A (begun_from (first + 1) (slice_set rest place (own ++ more))) (begun_from (first + 1) rest ++ map (begun_at ((first + 1) + place)) (txs_begun more)) (begun_more (first + 1) place rest own more e)))

-- ---- one client's transactions
pub txs_both : (place : ℕ) (bs cs : List BegunAt) → txs_at place (bs ++ cs) ≡ txs_at place bs ++ txs_at place cs
txs_both place [] cs = refl
txs_both place (b ∷ bs) cs = elim (b.place == place) as (λ t. (if t then b.tx ∷ txs_at place (bs ++ cs) else txs_at place (bs ++ cs)) ≡ (if t then b.tx ∷ txs_at place bs else txs_at place bs) ++ txs_at place cs) [
  | true ↦ ap (λ l. b.tx ∷ l) (txs_both place bs cs)
  | false ↦ txs_both place bs cs
]

txs_own : (place : ℕ) (txs : List ClientTx) → txs_at place (map (begun_at place) txs) ≡ txs
txs_own place [] = refl
txs_own place (tx ∷ txs) = ap (λ t. if t then tx ∷ txs_at place (map (begun_at place) txs) else txs_at place (map (begun_at place) txs)) (equal_self place) ∙ ap (λ l. tx ∷ l) (txs_own place txs)

txs_of_other : (place other : ℕ) (txs : List ClientTx) → other ≢ place → txs_at other (map (begun_at place) txs) ≡ []
txs_of_other place other [] out = refl
txs_of_other place other (tx ∷ txs) out = ap (λ t. if t then tx ∷ txs_at other (map (begun_at place) txs) else txs_at other (map (begun_at place) txs)) (unequal place other (λ e. out (sym e))) ∙ txs_of_other place other txs out

pub txs_more : (place : ℕ) (bs : List BegunAt) (txs : List ClientTx) → txs_at place (bs ++ map (begun_at place) txs) ≡ txs_at place bs ++ txs
txs_more place bs txs = txs_both place bs (map (begun_at place) txs) ∙ ap (λ l. txs_at place bs ++ l) (txs_own place txs)

pub txs_still : (place other : ℕ) (bs : List BegunAt) (txs : List ClientTx) → other ≢ place → txs_at other (bs ++ map (begun_at place) txs) ≡ txs_at other bs
txs_still place other bs txs out = txs_both other bs (map (begun_at place) txs) ∙ ap (λ l. txs_at other bs ++ l) (txs_of_other place other txs out) ∙ append-nil (txs_at other bs)

-- ---- numbers
pub drawn_join : (first mid last : ℕ) (us vs : List UnfinishedTx) → AreDrawn first us mid → AreDrawn mid vs last → AreDrawn first (us ++ vs) last
drawn_join first mid last [] vs a b = subst (λ n. AreDrawn n vs last) a b
drawn_join first mid last (u ∷ us) vs a b = (a.0, drawn_join (first + 1) mid last us vs a.1 b)

abbrev Drawn : ℕ → List BegunAt → ℕ → Type 0
Drawn first bs next = AreDrawn first (map shown_begun bs) next

pub drawn_from : (first next : ℕ) (bs : List BegunAt) → Drawn first bs next → first ≤ next
drawn_from first next [] d = omega (arith, d)
drawn_from first next (b ∷ bs) d = let h = drawn_from (first + 1) next bs d.1 in omega (arith, h)

pub all_below : (first next : ℕ) (bs : List BegunAt) → Drawn first bs next → AllByRecursion (λ (b : BegunAt). (first ≤ b.tx.number) × (b.tx.number < next)) bs
all_below first next [] d = tt
all_below first next (b ∷ bs) d =
    let h = drawn_from (first + 1) next bs d.1 in
    let is : b.tx.number ≡ first = d.0 in
    ((omega (arith, is), omega (arith, is, h)), lower bs (all_below (first + 1) next bs d.1))
  where
    lower : (cs : List BegunAt) → AllByRecursion (λ (c : BegunAt). (first + 1 ≤ c.tx.number) × (c.tx.number < next)) cs → AllByRecursion (λ (c : BegunAt). (first ≤ c.tx.number) × (c.tx.number < next)) cs
    lower [] all = tt
    lower (c ∷ cs) all = ((let k = all.0.0 in omega (arith, k), all.0.1), lower cs all.1)

pub drawn_both : (first next : ℕ) (bs cs : List BegunAt) → Drawn first (bs ++ cs) next → (mid : ℕ) × ((Drawn first bs mid) × (Drawn mid cs next))
drawn_both first next [] cs d = (first, (refl, d))
drawn_both first next (b ∷ bs) cs d = let h = drawn_both (first + 1) next bs cs d.1 in (h.0, ((d.0, h.1.0), h.1.1))

-- all of them have another number
abbrev pub AreApart : ℕ → List BegunAt → Type 0
AreApart number bs = AllByRecursion (λ (b : BegunAt). (b.tx.number == number) ≡ false) bs

pub apart_behind : (first next : ℕ) (b : BegunAt) (bs : List BegunAt) → Drawn first (b ∷ bs) next → AreApart b.tx.number bs
apart_behind first next b bs d = each bs (all_below (first + 1) next bs d.1)
  where
    is : b.tx.number ≡ first
    is = d.0

    each : (cs : List BegunAt) → AllByRecursion (λ (c : BegunAt). (first + 1 ≤ c.tx.number) × (c.tx.number < next)) cs → AreApart b.tx.number cs
    each [] all = tt
    each (c ∷ cs) all = (unequal c.tx.number b.tx.number (λ e. no c.tx.number b.tx.number all.0.0 is e), each cs all.1)
      where
        no : (m n : ℕ) → first + 1 ≤ m → n ≡ first → m ≡ n → ⊥
        no m n le same e = omega (arith, le, same, e)

pub apart_before : (first mid next : ℕ) (b : BegunAt) (bs cs : List BegunAt) → Drawn first bs mid → Drawn mid (b ∷ cs) next → AreApart b.tx.number bs
apart_before first mid next b bs cs d e = each bs (all_below first mid bs d)
  where
    is : b.tx.number ≡ mid
    is = e.0

    each : (ds : List BegunAt) → AllByRecursion (λ (c : BegunAt). (first ≤ c.tx.number) × (c.tx.number < mid)) ds → AreApart b.tx.number ds
    each [] all = tt
    each (c ∷ ds) all = (unequal c.tx.number b.tx.number (λ k. no c.tx.number b.tx.number all.0.1 is k), each ds all.1)
      where
        no : (m n : ℕ) → m < mid → n ≡ mid → m ≡ n → ⊥
        no m n less same k = omega (arith, less, same, k)

-- the first that waits, among all
pub first_apart : (next : ℕ) (done : List BegunAt) (b : BegunAt) (rest : List BegunAt) → Drawn 1 (done ++ b ∷ rest) next → (AreApart b.tx.number done) × (AreApart b.tx.number rest)
first_apart next done b rest d =
    let h = drawn_both 1 next done (b ∷ rest) d in
    (apart_before 1 h.0 next b done rest h.1.0 h.1.1, apart_behind h.0 next b rest h.1.1)
