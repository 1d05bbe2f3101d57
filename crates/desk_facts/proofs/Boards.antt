-- The board after a step.
--     same_asks, stood_asks, stood_given, asks_more     what clients asked, and how it stands
--     drawn_more, drawn_set     the transactions, with one more or one changed
use Rattle.std.proofs.Common.{◌≡◌, ℕ, zero, suc, ◌+◌, ◌-◌, true, false, cond, List, [], ◌∷◌, ◌++◌, slice_get, slice_set, Option, Some, None, option_map, inl, inr, ◌⊎◌, refl, ap, sym, ◌∙◌, arith}
use Rattle.std.proofs.Math.Dec.{eqb}
use Rattle.std.specs.List.{find}
use Rattle.std.proofs.lemmas.Bool.{eqb-true}
use Rattle.std.proofs.lemmas.Option.{none-some}
use Rattle.name_queues.specs.declared.ids.ConnId.{ConnId}
use Rattle.desk_steps.specs.declared.stands.DeskRequest.{DeskRequest}
use Rattle.desk_steps.specs.declared.stands.DrawnTx.{DrawnTx}
use Rattle.desk_steps.specs.declared.stands.Stand.{Stand}
use Rattle.desk_steps.specs.declared.stands.TxStage.{TxStage}
use Rattle.idb_desk.specs.Desks.{ClientStand, is_client, or_new_client, asks_of, at_desk_client, request_in, request_at, name_asked_by, stand_where, stand_of, stands_where, with_stand, stood, drawn_at, stages_where, with_stage}
use Rattle.idb_desk.specs.Refusals.{is_given}
use Rattle.queue_facts.specs.Counts.{tally}
use Rattle.queue_facts.proofs.Laws.{tally_both}

-- ---- a client is changed
client_first : (c y : ℕ) (f : ClientStand → ClientStand) (cs : List ClientStand) → ((x : ClientStand) → (f x).client ≡ x.client) → (find (is_client y) (at_desk_client c f cs) ≡ find (is_client y) cs) ⊎ ((y ≡ c) × (find (is_client y) (at_desk_client c f cs) ≡ option_map f (find (is_client y) cs)))
client_first c y f [] h = inl refl
client_first c y f (x ∷ xs) h = elim (eqb x.client c) as (λ b. eqb x.client c ≡ b → (find (is_client y) (cond b (f x ∷ xs) (x ∷ at_desk_client c f xs)) ≡ find (is_client y) (x ∷ xs)) ⊎ ((y ≡ c) × (find (is_client y) (cond b (f x ∷ xs) (x ∷ at_desk_client c f xs)) ≡ option_map f (find (is_client y) (x ∷ xs))))) [
  | true ↦ λ e. elim (eqb x.client y) as (λ t. eqb x.client y ≡ t → (find (is_client y) (f x ∷ xs) ≡ cond t (Some x) (find (is_client y) xs)) ⊎ ((y ≡ c) × (find (is_client y) (f x ∷ xs) ≡ option_map f (cond t (Some x) (find (is_client y) xs))))) [
    | true ↦ λ t. inr (sym (eqb-true x.client y t) ∙ eqb-true x.client c e, ap (λ b. cond b (Some (f x)) (find (is_client y) xs)) (ap (λ w. eqb w y) (h x) ∙ t))
    | false ↦ λ t. inl (ap (λ b. cond b (Some (f x)) (find (is_client y) xs)) (ap (λ w. eqb w y) (h x) ∙ t))
  ] refl
  | false ↦ λ e. elim (eqb x.client y) as (λ t. (cond t (Some x) (find (is_client y) (at_desk_client c f xs)) ≡ cond t (Some x) (find (is_client y) xs)) ⊎ ((y ≡ c) × (cond t (Some x) (find (is_client y) (at_desk_client c f xs)) ≡ option_map f (cond t (Some x) (find (is_client y) xs))))) [
    | true ↦ inl refl
    | false ↦ client_first c y f xs h
  ]
] refl

-- the requests of a client after a change: as before, or the changed ones of that client
pub asks_first : (c y : ℕ) (f : ClientStand → ClientStand) (cs : List ClientStand) → ((x : ClientStand) → (f x).client ≡ x.client) → (asks_of (at_desk_client c f cs) y ≡ asks_of cs y) ⊎ ((x : ClientStand) × (y ≡ c) × (find (is_client y) cs ≡ Some x) × (asks_of (at_desk_client c f cs) y ≡ (f x).requests))
asks_first c y f cs h = elim (client_first c y f cs h) [
  | inl e ↦ inl (ap (λ o. (or_new_client y o).requests) e)
  | inr e ↦ by_find (find (is_client y) cs) refl e.0 e.1
]
  where
    by_find : (o : Option ClientStand) → find (is_client y) cs ≡ o → y ≡ c → find (is_client y) (at_desk_client c f cs) ≡ option_map f (find (is_client y) cs) → (asks_of (at_desk_client c f cs) y ≡ asks_of cs y) ⊎ ((x : ClientStand) × (y ≡ c) × (find (is_client y) cs ≡ Some x) × (asks_of (at_desk_client c f cs) y ≡ (f x).requests))
    by_find None e s g = inl (ap (λ o. (or_new_client y o).requests) (g ∙ ap (option_map f) e ∙ sym e))
    by_find (Some x) e s g = inr (x, s, e, ap (λ o. (or_new_client y o).requests) (g ∙ ap (option_map f) e))

-- a change that leaves the requests
pub same_asks : (c y : ℕ) (f : ClientStand → ClientStand) (cs : List ClientStand) → ((x : ClientStand) → (f x).client ≡ x.client) → ((x : ClientStand) → (f x).requests ≡ x.requests) → asks_of (at_desk_client c f cs) y ≡ asks_of cs y
same_asks c y f cs h k = elim (asks_first c y f cs h) [
  | inl e ↦ e
  | inr e ↦ e.3 ∙ k e.0 ∙ sym (ap (λ o. (or_new_client y o).requests) e.2)
]

-- ---- how an open or a delete stands
pub nth_set : {A : Type 0} (xs : List A) (i j : ℕ) (x y : A) → slice_get xs i ≡ Some x → (slice_get (slice_set xs i y) j ≡ slice_get xs j) ⊎ ((j ≡ i) × (slice_get (slice_set xs i y) j ≡ Some y))
nth_set [] i j x y h = absurd (none-some x h)
nth_set (z ∷ zs) zero zero x y h = inr (refl, refl)
nth_set (z ∷ zs) zero (suc j) x y h = inl refl
nth_set (z ∷ zs) (suc i) zero x y h = inl refl
nth_set (z ∷ zs) (suc i) (suc j) x y h = elim (nth_set zs i j x y h) [ inl e ↦ inl e | inr e ↦ inr (ap suc e.0, e.1) ]

request_set : (rs : List DeskRequest) (n m : ℕ) (s : Stand) (r : DeskRequest) → request_in rs n ≡ Some r → (request_in (stands_where rs n s (Some r)) m ≡ request_in rs m) ⊎ ((m ≡ n) × (request_in (stands_where rs n s (Some r)) m ≡ Some (record { name = r.name; stand = s })))
request_set rs n m s r = elim (eqb n 0) as (λ b. eqb n 0 ≡ b → cond b None (slice_get rs (n - 1)) ≡ Some r → (request_in (slice_set rs (n - 1) (record { name = r.name; stand = s })) m ≡ request_in rs m) ⊎ ((m ≡ n) × (request_in (slice_set rs (n - 1) (record { name = r.name; stand = s })) m ≡ Some (record { name = r.name; stand = s })))) [
  | true ↦ λ e h. absurd (none-some r h)
  | false ↦ λ e h. elim (eqb m 0) as (λ b. eqb m 0 ≡ b → (cond b None (slice_get (slice_set rs (n - 1) (record { name = r.name; stand = s })) (m - 1)) ≡ cond b None (slice_get rs (m - 1))) ⊎ ((m ≡ n) × (cond b None (slice_get (slice_set rs (n - 1) (record { name = r.name; stand = s })) (m - 1)) ≡ Some (record { name = r.name; stand = s })))) [
    | true ↦ λ g. inl refl
    | false ↦ λ g. elim (nth_set rs (n - 1) (m - 1) r (record { name = r.name; stand = s }) h) [ inl k ↦ inl k | inr k ↦ inr (back n m e g k.0, k.1) ]
  ] refl
] refl
  where
    back : (n m : ℕ) → eqb n 0 ≡ false → eqb m 0 ≡ false → m - 1 ≡ n - 1 → m ≡ n
    back zero m e g k = cc
    back (suc n) zero e g k = cc
    back (suc n) (suc m) e g k = omega arith

-- the open or delete of a number, after one now stands so: as before, or it is that one
stood_at : (s : Stand) (who x : ConnId) (cs : List ClientStand) → (request_at (stood s who cs) x ≡ request_at cs x) ⊎ ((r : DeskRequest) × (x ≡ who) × (request_at cs x ≡ Some r) × (request_at (stood s who cs) x ≡ Some (record { name = r.name; stand = s })))
stood_at s who x cs = elim (asks_first who.client x.client (with_stand s who) cs (λ c. refl)) [
  | inl e ↦ inl (ap (λ rs. request_in rs x.request) e)
  | inr e ↦ by_request e.0 (request_in e.0.requests who.request) refl e.1 (ap (λ o. (or_new_client x.client o).requests) e.2) e.3
]
  where
    by_request : (c : ClientStand) (o : Option DeskRequest) → request_in c.requests who.request ≡ o → x.client ≡ who.client → asks_of cs x.client ≡ c.requests → asks_of (stood s who cs) x.client ≡ stands_where c.requests who.request s (request_in c.requests who.request) → (request_at (stood s who cs) x ≡ request_at cs x) ⊎ ((r : DeskRequest) × (x ≡ who) × (request_at cs x ≡ Some r) × (request_at (stood s who cs) x ≡ Some (record { name = r.name; stand = s })))
    by_request c None e same old new = inl (ap (λ rs. request_in rs x.request) (new ∙ ap (stands_where c.requests who.request s) e ∙ sym old))
    by_request c (Some r) e same old new =
        let now : request_at (stood s who cs) x ≡ request_in (stands_where c.requests who.request s (Some r)) x.request = ap (λ rs. request_in rs x.request) (new ∙ ap (stands_where c.requests who.request s) e) in
        let was : request_at cs x ≡ request_in c.requests x.request = ap (λ rs. request_in rs x.request) old in
        elim (request_set c.requests who.request x.request s r e) [
          | inl k ↦ inl (now ∙ k ∙ sym was)
          | inr k ↦ inr (r, (λ i. record { client = same i; request = k.0 i }), was ∙ ap (request_in c.requests) k.0 ∙ e, now ∙ k.1)
        ]

pub stood_asks : (s : Stand) (who x : ConnId) (cs : List ClientStand) → name_asked_by (stood s who cs) x ≡ name_asked_by cs x
stood_asks s who x cs = elim (stood_at s who x cs) [
  | inl e ↦ ap (option_map (λ r. r.name)) e
  | inr e ↦ ap (option_map (λ r. r.name)) e.3 ∙ sym (ap (option_map (λ r. r.name)) e.2)
]

pub stood_given : (s : Stand) (who x : ConnId) (cs : List ClientStand) → is_given (stand_of (stood s who cs) x) ≡ true → (is_given (stand_of cs x) ≡ true) ⊎ ((x ≡ who) × (is_given s ≡ true))
stood_given s who x cs h = elim (stood_at s who x cs) [
  | inl e ↦ inl (sym (ap (λ o. is_given (stand_where o)) e) ∙ h)
  | inr e ↦ inr (e.1, sym (ap (λ o. is_given (stand_where o)) e.3) ∙ h)
]

-- ---- transactions
pub drawn_more : (count : DrawnTx → ℕ) (ds : List DrawnTx) (t : DrawnTx) → tally count (ds ++ t ∷ []) ≡ tally count ds + count t
drawn_more count ds t = let p = tally_both count ds (t ∷ []) in omega arith

tally_set : {A : Type 0} (count : A → ℕ) (xs : List A) (i : ℕ) (x y : A) → slice_get xs i ≡ Some x → tally count (slice_set xs i y) + count x ≡ tally count xs + count y
tally_set count [] i x y h = absurd (none-some x h)
tally_set count (z ∷ zs) zero x y h = let s : z ≡ x = cc in let p = ap count s in omega arith
tally_set count (z ∷ zs) (suc i) x y h = let r = tally_set count zs i x y h in omega arith

pub drawn_set : (count : DrawnTx → ℕ) (s : TxStage) (number : ℕ) (ds : List DrawnTx) (t : DrawnTx) → drawn_at ds number ≡ Some t → tally count (with_stage s number ds) + count t ≡ tally count ds + count (record { who = t.who; kind = t.kind; stage = s })
drawn_set count s number ds t h =
    let at : slice_get ds (number - 1) ≡ Some t = there number h in
    let p = tally_set count ds (number - 1) t (record { who = t.who; kind = t.kind; stage = s }) at in
    let e : tally count (with_stage s number ds) ≡ tally count (slice_set ds (number - 1) (record { who = t.who; kind = t.kind; stage = s })) = ap (λ o. tally count (stages_where ds number s o)) h in
    omega arith
  where
    there : (n : ℕ) → drawn_at ds n ≡ Some t → slice_get ds (n - 1) ≡ Some t
    there n = elim (eqb n 0) as (λ b. cond b None (slice_get ds (n - 1)) ≡ Some t → slice_get ds (n - 1) ≡ Some t) [ true ↦ λ e. absurd (none-some t e) | false ↦ λ e. e ]
