-- What a change of one transaction makes of the unfinished ones.
--     one_more              one is drawn
--     one_starts, one_ends  the one of a place is started, or is finished
--     for_others            other clients' stay as they are
--     first_shown           the first of them
use Rattle.std.proofs.Common.{◌≡◌, ◌≢◌, ℕ, zero, suc, ◌+◌, ◌-◌, ◌<◌, Bool, true, false, not, List, [], ◌∷◌, ◌++◌, filter, length, slice_get, slice_set, if◌then◌else◌, Some, None, inl, inr, refl, sym, ◌∙◌, ap, subst, arith}
use Rattle.std.specs.Prelude.{◌==◌}
use Rattle.std.proofs.lemmas.Bool.Decides.{eqb_tells}
use Rattle.std.proofs.lemmas.List.{append-nil, append_assoc}
use Rattle.desk_steps.specs.declared.stands.DrawnTx.{DrawnTx}
use Rattle.desk_steps.specs.declared.stands.TxStage.{TxStage}
use Rattle.desk_steps.specs.declared.stands.TxStage.TheVariants as stage
use Rattle.idb_desk.specs.Refusals.{is_created_stage}
use Rattle.idb_desk.specs.Desks.{drawn_at}
use Rattle.client_ties.specs.Unfinished.{UnfinishedTx, shown_at, unfinished_from, is_made_by, started_where, other_drawn}

abbrev pub staged : TxStage → DrawnTx → DrawnTx
staged s t = record { who = t.who; kind = t.kind; stage = s }

pub some_same : {X : Type 0} {x y : X} → Some x ≡ Some y → x ≡ y
some_same e = cc

pub same_number : (n : ℕ) → (n == n) ≡ true
same_number n = elim (eqb_tells n n) [ inl p ↦ p.0 | inr p ↦ absurd (p.1 refl) ]

pub above : (n m : ℕ) → m < n → (n == m) ≡ false
above n m less = elim (eqb_tells n m) [ inl p ↦ absurd (no m (subst (λ k. m < k) p.1 less)) | inr p ↦ p.0 ]
  where
    no : (m : ℕ) → m < m → ⊥
    no m less = omega (arith, less)

pub below : (n m : ℕ) → n < m → (n == m) ≡ false
below n m less = elim (eqb_tells n m) [ inl p ↦ absurd (no n (subst (λ k. n < k) (sym p.1) less)) | inr p ↦ p.0 ]
  where
    no : (m : ℕ) → m < m → ⊥
    no m less = omega (arith, less)

-- ---- one is drawn
pub one_more : (n : ℕ) (ts : List DrawnTx) (t : DrawnTx) → unfinished_from n (ts ++ t ∷ []) ≡ unfinished_from n ts ++ shown_at (n + length ts) t.who.client t.stage
one_more n [] t = append-nil (shown_at n t.who.client t.stage) ∙ ap (λ m. shown_at m t.who.client t.stage) (let e : n ≡ n + 0 = omega arith in e)
one_more n (x ∷ xs) t =
    ap (λ us. shown_at n x.who.client x.stage ++ us) (one_more (n + 1) xs t ∙ ap (λ m. unfinished_from (n + 1) xs ++ shown_at m t.who.client t.stage) (let e : (n + 1) + length xs ≡ n + length (x ∷ xs) = omega arith in e))
    ∙ sym (append_assoc (shown_at n x.who.client x.stage) (unfinished_from (n + 1) xs) (shown_at (n + length (x ∷ xs)) t.who.client t.stage))

-- ---- none has a number below the first
pub none_starts : (m n : ℕ) (ts : List DrawnTx) → m < n → started_where m (unfinished_from n ts) ≡ unfinished_from n ts
none_starts m n [] less = refl
none_starts m n (t ∷ ts) less =
    let rest = none_starts m (n + 1) ts (omega (arith, less)) in
    elim t.stage as (λ s. started_where m (shown_at n t.who.client s ++ unfinished_from (n + 1) ts) ≡ shown_at n t.who.client s ++ unfinished_from (n + 1) ts) [
      | stage.Created ↦ rw (above n m less) (ap (λ us. record { number = n; client = t.who.client; started = false } ∷ us) rest)
      | stage.Started ↦ rw (above n m less) (ap (λ us. record { number = n; client = t.who.client; started = true } ∷ us) rest)
      | stage.Finished ↦ rest
    ]

pub none_ends : (m n : ℕ) (ts : List DrawnTx) → m < n → other_drawn m (unfinished_from n ts) ≡ unfinished_from n ts
none_ends m n [] less = refl
none_ends m n (t ∷ ts) less =
    let rest = none_ends m (n + 1) ts (omega (arith, less)) in
    elim t.stage as (λ s. other_drawn m (shown_at n t.who.client s ++ unfinished_from (n + 1) ts) ≡ shown_at n t.who.client s ++ unfinished_from (n + 1) ts) [
      | stage.Created ↦ rw (above n m less) (ap (λ us. record { number = n; client = t.who.client; started = false } ∷ us) rest)
      | stage.Started ↦ rw (above n m less) (ap (λ us. record { number = n; client = t.who.client; started = true } ∷ us) rest)
      | stage.Finished ↦ rest
    ]

-- ---- the one of a place is started
starts_here : (n client : ℕ) (s : TxStage) (us : List UnfinishedTx) → is_created_stage s ≡ true → started_where n us ≡ us → shown_at n client stage.Started ++ us ≡ started_where n (shown_at n client s ++ us)
starts_here n client stage.Created us is rest = rw (same_number n) (ap (λ vs. record { number = n; client = client; started = true } ∷ vs) (sym rest))
starts_here n client stage.Started us is rest = cc
starts_here n client stage.Finished us is rest = cc

pub one_starts : (n i : ℕ) (ts : List DrawnTx) (t : DrawnTx) → slice_get ts i ≡ Some t → is_created_stage t.stage ≡ true → unfinished_from n (slice_set ts i (staged stage.Started t)) ≡ started_where (n + i) (unfinished_from n ts)
one_starts n i [] t e is = cc
one_starts n zero (x ∷ xs) t e is =
    let same : x ≡ t = some_same e in
    let here : shown_at n t.who.client stage.Started ++ unfinished_from (n + 1) xs ≡ started_where n (shown_at n t.who.client t.stage ++ unfinished_from (n + 1) xs)
    = starts_here n t.who.client t.stage (unfinished_from (n + 1) xs) is (none_starts n (n + 1) xs (omega arith)) in
    here ∙ ap (λ (y : DrawnTx). started_where n (shown_at n y.who.client y.stage ++ unfinished_from (n + 1) xs)) (sym same)
    ∙ ap (λ m. started_where m (shown_at n x.who.client x.stage ++ unfinished_from (n + 1) xs)) (let e : n ≡ n + 0 = omega arith in e)
one_starts n (suc i) (x ∷ xs) t e is =
    let rest = one_starts (n + 1) i xs t e is ∙ ap (λ m. started_where m (unfinished_from (n + 1) xs)) (let e : (n + 1) + i ≡ n + suc i = omega arith in e) in
    elim x.stage as (λ s. shown_at n x.who.client s ++ unfinished_from (n + 1) (slice_set xs i (staged stage.Started t)) ≡ started_where (n + suc i) (shown_at n x.who.client s ++ unfinished_from (n + 1) xs)) [
      | stage.Created ↦ rw (below n (n + suc i) (omega arith)) (ap (λ us. record { number = n; client = x.who.client; started = false } ∷ us) rest)
      | stage.Started ↦ rw (below n (n + suc i) (omega arith)) (ap (λ us. record { number = n; client = x.who.client; started = true } ∷ us) rest)
      | stage.Finished ↦ rest
    ]

-- ---- the one of a place is finished
ends_here : (n client : ℕ) (s : TxStage) (us : List UnfinishedTx) → other_drawn n us ≡ us → us ≡ other_drawn n (shown_at n client s ++ us)
ends_here n client stage.Created us rest = rw (same_number n) (sym rest)
ends_here n client stage.Started us rest = rw (same_number n) (sym rest)
ends_here n client stage.Finished us rest = sym rest

pub one_ends : (n i : ℕ) (ts : List DrawnTx) (t : DrawnTx) → slice_get ts i ≡ Some t → unfinished_from n (slice_set ts i (staged stage.Finished t)) ≡ other_drawn (n + i) (unfinished_from n ts)
one_ends n i [] t e = cc
one_ends n zero (x ∷ xs) t e =
    ends_here n x.who.client x.stage (unfinished_from (n + 1) xs) (none_ends n (n + 1) xs (omega arith))
    ∙ ap (λ m. other_drawn m (shown_at n x.who.client x.stage ++ unfinished_from (n + 1) xs)) (let e : n ≡ n + 0 = omega arith in e)
one_ends n (suc i) (x ∷ xs) t e =
    let rest = one_ends (n + 1) i xs t e ∙ ap (λ m. other_drawn m (unfinished_from (n + 1) xs)) (let e : (n + 1) + i ≡ n + suc i = omega arith in e) in
    elim x.stage as (λ s. shown_at n x.who.client s ++ unfinished_from (n + 1) (slice_set xs i (staged stage.Finished t)) ≡ other_drawn (n + suc i) (shown_at n x.who.client s ++ unfinished_from (n + 1) xs)) [
      | stage.Created ↦ rw (below n (n + suc i) (omega arith)) (ap (λ us. record { number = n; client = x.who.client; started = false } ∷ us) rest)
      | stage.Started ↦ rw (below n (n + suc i) (omega arith)) (ap (λ us. record { number = n; client = x.who.client; started = true } ∷ us) rest)
      | stage.Finished ↦ rest
    ]

-- ---- other clients' transactions
hidden : (client n other : ℕ) (s : TxStage) (us : List UnfinishedTx) → (other == client) ≡ false → filter (is_made_by client) (shown_at n other s ++ us) ≡ filter (is_made_by client) us
hidden client n other stage.Created us out = rw out refl
hidden client n other stage.Started us out = rw out refl
hidden client n other stage.Finished us out = refl

filter_on : (client : ℕ) (u : UnfinishedTx) (us vs : List UnfinishedTx) → filter (is_made_by client) us ≡ filter (is_made_by client) vs → filter (is_made_by client) (u ∷ us) ≡ filter (is_made_by client) (u ∷ vs)
filter_on client u us vs e = ap (λ ws. if is_made_by client u then u ∷ ws else ws) e

pub for_others : (client n i : ℕ) (ts : List DrawnTx) (t : DrawnTx) (s : TxStage) → slice_get ts i ≡ Some t → (t.who.client == client) ≡ false
    → filter (is_made_by client) (unfinished_from n (slice_set ts i (staged s t))) ≡ filter (is_made_by client) (unfinished_from n ts)
for_others client n i [] t s e out = cc
for_others client n zero (x ∷ xs) t s e out =
    let same : x ≡ t = some_same e in
    hidden client n t.who.client s (unfinished_from (n + 1) xs) out
    ∙ sym (hidden client n x.who.client x.stage (unfinished_from (n + 1) xs) (ap (λ (y : DrawnTx). y.who.client == client) same ∙ out))
for_others client n (suc i) (x ∷ xs) t s e out =
    let rest = for_others client (n + 1) i xs t s e out in
    elim x.stage as (λ st. filter (is_made_by client) (shown_at n x.who.client st ++ unfinished_from (n + 1) (slice_set xs i (staged s t))) ≡ filter (is_made_by client) (shown_at n x.who.client st ++ unfinished_from (n + 1) xs)) [
      | stage.Created ↦ filter_on client (record { number = n; client = x.who.client; started = false }) (unfinished_from (n + 1) (slice_set xs i (staged s t))) (unfinished_from (n + 1) xs) rest
      | stage.Started ↦ filter_on client (record { number = n; client = x.who.client; started = true }) (unfinished_from (n + 1) (slice_set xs i (staged s t))) (unfinished_from (n + 1) xs) rest
      | stage.Finished ↦ rest
    ]

-- ---- the first
pub record IsShownFrom (n : ℕ) (ts : List DrawnTx) (u : UnfinishedTx) : Type 0 where
  pub place : ℕ
  pub tx : DrawnTx
  pub found : slice_get ts place ≡ Some tx
  pub number : u.number ≡ n + place
  pub client : tx.who.client ≡ u.client
  pub stage_is : is_created_stage tx.stage ≡ not u.started

pub first_shown : (n : ℕ) (ts : List DrawnTx) (u : UnfinishedTx) (us : List UnfinishedTx) → unfinished_from n ts ≡ u ∷ us → IsShownFrom n ts u
first_shown n [] u us e = cc
first_shown n (t ∷ ts) u us e = by_stage (λ k. first_shown (n + 1) ts u us k) t.stage refl e
  where
    heads : {X : Type 0} {x y : X} {xs ys : List X} → x ∷ xs ≡ y ∷ ys → x ≡ y
    heads k = cc

    further : IsShownFrom (n + 1) ts u → IsShownFrom n (t ∷ ts) u
    further f = record { place = suc f.place; tx = f.tx; found = f.found; number = f.number ∙ (let e : (n + 1) + f.place ≡ n + suc f.place = omega arith in e); client = f.client; stage_is = f.stage_is }

    here : (st : Bool) → record { number = n; client = t.who.client; started = st } ≡ u → is_created_stage t.stage ≡ not st → IsShownFrom n (t ∷ ts) u
    here st same is = record {
      place = 0;
      tx = t;
      found = refl;
      number = ap (λ (x : UnfinishedTx). x.number) (sym same) ∙ (let e : n ≡ n + 0 = omega arith in e);
      client = ap (λ (x : UnfinishedTx). x.client) same;
      stage_is = is ∙ ap (λ (x : UnfinishedTx). not x.started) same;
    }

    by_stage : (unfinished_from (n + 1) ts ≡ u ∷ us → IsShownFrom (n + 1) ts u) → (s : TxStage) → t.stage ≡ s → shown_at n t.who.client s ++ unfinished_from (n + 1) ts ≡ u ∷ us → IsShownFrom n (t ∷ ts) u
    by_stage behind stage.Created is k = here false (heads k) (ap is_created_stage is)
    by_stage behind stage.Started is k = here true (heads k) (ap is_created_stage is)
    by_stage behind stage.Finished is k = further (behind k)

-- ---- a transaction of a number
pub found_at : (ts : List DrawnTx) (number : ℕ) (t : DrawnTx) → drawn_at ts number ≡ Some t → (slice_get ts (number - 1) ≡ Some t) × (1 + (number - 1) ≡ number)
found_at ts number t e = elim (eqb_tells number 0) [
  | inl p ↦ absurd (none p.0)
  | inr p ↦ (sym (ap (λ b. if b then None else slice_get ts (number - 1)) p.0) ∙ e, (let some = p.1 in positive number some))
]
  where
    none : (number == 0) ≡ true → ⊥
    none is = no (sym (ap (λ b. if b then None else slice_get ts (number - 1)) is) ∙ e)
      where
        no : None ≡ Some t → ⊥
        no k = cc

    positive : (n : ℕ) → n ≢ 0 → 1 + (n - 1) ≡ n
    positive zero out = absurd (out refl)
    positive (suc n) out = omega arith

pub drawn_there : (ts : List DrawnTx) (place : ℕ) (t : DrawnTx) → slice_get ts place ≡ Some t → drawn_at ts (1 + place) ≡ Some t
drawn_there ts place t e = ap (λ b. if b then None else slice_get ts ((1 + place) - 1)) (above (1 + place) 0 (omega arith)) ∙ ap (λ i. slice_get ts i) (let same : (1 + place) - 1 ≡ place = omega arith in same) ∙ e
