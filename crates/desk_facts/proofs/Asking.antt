-- The clients after one asked an open or a delete more.
--     AsksOne               the opens and deletes are those of before, and this one, which is new
--     asks_one              it is so
use Rattle.std.proofs.Common.{◌≡◌, ◌≢◌, ℕ, zero, suc, ◌+◌, ◌-◌, true, false, cond, List, [], ◌∷◌, ◌++◌, length, slice_get, Some, None, inl, inr, ◌⊎◌, refl, ap, sym, ◌∙◌, arith}
use Rattle.std.proofs.Math.Dec.{eqb}
use Rattle.std.specs.List.{find, list_any}
use Rattle.std.proofs.lemmas.Bool.{eq-eqb, ne_eqb, cases_eq}
use Rattle.std.proofs.lemmas.Option.{none-some}
use Rattle.name_queues.specs.declared.ids.ConnId.{ConnId}
use Rattle.desk_steps.specs.declared.stands.DeskRequest.{DeskRequest}
use Rattle.desk_steps.specs.declared.stands.Stand.TheVariants as stand
use Rattle.idb_desk.specs.Desks.{ClientStand, is_client, or_new_client, new_client, asks_of, with_desk_client, at_desk_client, request_in, request_at}
use Rattle.idb_desk.specs.Steps.{asked_more}
use Rattle.desk_facts.proofs.Asks.{any_found}
use Rattle.desk_facts.proofs.Boards.{asks_first}

-- ---- lists with one more at the end
pub nth_kept : {A : Type 0} (xs : List A) (y : A) (i : ℕ) (x : A) → slice_get xs i ≡ Some x → slice_get (xs ++ y ∷ []) i ≡ Some x
nth_kept [] y i x h = absurd (none-some x h)
nth_kept (z ∷ zs) y zero x h = h
nth_kept (z ∷ zs) y (suc i) x h = nth_kept zs y i x h

nth_last : {A : Type 0} (xs : List A) (y : A) → slice_get (xs ++ y ∷ []) (length xs) ≡ Some y
nth_last [] y = refl
nth_last (z ∷ zs) y = nth_last zs y

nth_past : {A : Type 0} (xs : List A) → slice_get xs (length xs) ≡ None
nth_past [] = refl
nth_past (z ∷ zs) = nth_past zs

nth_either : {A : Type 0} (xs : List A) (y : A) (i : ℕ) (x : A) → slice_get (xs ++ y ∷ []) i ≡ Some x → (slice_get xs i ≡ Some x) ⊎ ((i ≡ length xs) × (x ≡ y))
nth_either [] y zero x h = inr (refl, cc)
nth_either [] y (suc i) x h = absurd (none-some x h)
nth_either (z ∷ zs) y zero x h = inl h
nth_either (z ∷ zs) y (suc i) x h = elim (nth_either zs y i x h) [ inl e ↦ inl e | inr e ↦ inr (ap suc e.0, e.1) ]

request_kept : (rs : List DeskRequest) (r : DeskRequest) (m : ℕ) (q : DeskRequest) → request_in rs m ≡ Some q → request_in (rs ++ r ∷ []) m ≡ Some q
request_kept rs r m q = elim (eqb m 0) as (λ b. cond b None (slice_get rs (m - 1)) ≡ Some q → cond b None (slice_get (rs ++ r ∷ []) (m - 1)) ≡ Some q) [ true ↦ λ h. h | false ↦ λ h. nth_kept rs r (m - 1) q h ]

request_either : (rs : List DeskRequest) (r : DeskRequest) (m : ℕ) (q : DeskRequest) → request_in (rs ++ r ∷ []) m ≡ Some q → (request_in rs m ≡ Some q) ⊎ ((m ≡ length rs + 1) × (q ≡ r))
request_either rs r m q = elim (eqb m 0) as (λ b. eqb m 0 ≡ b → cond b None (slice_get (rs ++ r ∷ []) (m - 1)) ≡ Some q → (cond b None (slice_get rs (m - 1)) ≡ Some q) ⊎ ((m ≡ length rs + 1) × (q ≡ r))) [
  | true ↦ λ e h. absurd (none-some q h)
  | false ↦ λ e h. elim (nth_either rs r (m - 1) q h) [ inl k ↦ inl k | inr k ↦ inr (back m (length rs) e k.0, k.1) ]
] refl
  where
    back : (m n : ℕ) → eqb m 0 ≡ false → m - 1 ≡ n → m ≡ n + 1
    back zero n e k = cc
    back (suc m) n e k = omega arith

last_place : (n : ℕ) → eqb (n + 1) 0 ≡ false
last_place n = ne_eqb (n + 1) 0 (λ e. omega arith)

less_one : (n : ℕ) → (n + 1) - 1 ≡ n
less_one n = omega arith

request_last : (rs : List DeskRequest) (r : DeskRequest) → request_in (rs ++ r ∷ []) (length rs + 1) ≡ Some r
request_last rs r = ap (λ b. cond b None (slice_get (rs ++ r ∷ []) ((length rs + 1) - 1))) (last_place (length rs)) ∙ ap (slice_get (rs ++ r ∷ [])) (less_one (length rs)) ∙ nth_last rs r

request_past : (rs : List DeskRequest) → request_in rs (length rs + 1) ≡ None
request_past rs = ap (λ b. cond b None (slice_get rs ((length rs + 1) - 1))) (last_place (length rs)) ∙ ap (slice_get rs) (less_one (length rs)) ∙ nth_past rs

-- ---- the client among the others
find_end : (y : ℕ) (cs : List ClientStand) (x : ClientStand) → x.requests ≡ [] → (or_new_client y (find (is_client y) (cs ++ x ∷ []))).requests ≡ (or_new_client y (find (is_client y) cs)).requests
find_end y [] x e = elim (is_client y x) as (λ b. (or_new_client y (cond b (Some x) None)).requests ≡ []) [ true ↦ e | false ↦ refl ]
find_end y (c ∷ cs) x e = elim (is_client y c) as (λ b. (or_new_client y (cond b (Some c) (find (is_client y) (cs ++ x ∷ [])))).requests ≡ (or_new_client y (cond b (Some c) (find (is_client y) cs))).requests) [ true ↦ refl | false ↦ find_end y cs x e ]

with_asks : (client y : ℕ) (cs : List ClientStand) → asks_of (with_desk_client client cs) y ≡ asks_of cs y
with_asks client y cs = elim (list_any (is_client client) cs) as (λ b. asks_of (cond b cs (cs ++ new_client client ∷ [])) y ≡ asks_of cs y) [ true ↦ refl | false ↦ find_end y cs (new_client client) refl ]

last_found : (client : ℕ) (cs : List ClientStand) (x : ClientStand) → is_client client x ≡ true → (c : ClientStand) × (find (is_client client) (cs ++ x ∷ []) ≡ Some c)
last_found client [] x e = (x, ap (λ b. cond b (Some x) None) e)
last_found client (c ∷ cs) x e = elim (is_client client c) as (λ b. (k : ClientStand) × (cond b (Some c) (find (is_client client) (cs ++ x ∷ [])) ≡ Some k)) [ true ↦ (c, refl) | false ↦ last_found client cs x e ]

with_found : (client : ℕ) (cs : List ClientStand) → (c : ClientStand) × (find (is_client client) (with_desk_client client cs) ≡ Some c)
with_found client cs = elim (list_any (is_client client) cs) as (λ b. list_any (is_client client) cs ≡ b → (c : ClientStand) × (find (is_client client) (cond b cs (cs ++ new_client client ∷ [])) ≡ Some c)) [
  | true ↦ λ e. any_found (is_client client) cs e
  | false ↦ λ e. last_found client cs (new_client client) (eq-eqb client client refl)
] refl

hit : (client : ℕ) (name : List ℕ) (cs : List ClientStand) (x : ClientStand) → find (is_client client) cs ≡ Some x → find (is_client client) (at_desk_client client (asked_more name) cs) ≡ Some (asked_more name x)
hit client name [] x = λ h. absurd (none-some x h)
hit client name (c ∷ cs) x = elim (is_client client c) as (λ b. is_client client c ≡ b → cond b (Some c) (find (is_client client) cs) ≡ Some x → find (is_client client) (cond b (asked_more name c ∷ cs) (c ∷ at_desk_client client (asked_more name) cs)) ≡ Some (asked_more name x)) [
  | true ↦ λ e h. (let s : c ≡ x = cc in ap (λ b. cond b (Some (asked_more name c)) (find (is_client client) cs)) e ∙ ap (λ k. Some (asked_more name k)) s)
  | false ↦ λ e h. ap (λ b. cond b (Some c) (find (is_client client) (at_desk_client client (asked_more name) cs))) e ∙ hit client name cs x h
] refl

asked_own : (client : ℕ) (name : List ℕ) (cs : List ClientStand) → asks_of (at_desk_client client (asked_more name) (with_desk_client client cs)) client ≡ asks_of cs client ++ record { name = name; stand = stand.Asked } ∷ []
asked_own client name cs =
    let f = with_found client cs in
    let was : asks_of cs client ≡ f.0.requests = sym (with_asks client client cs) ∙ ap (λ o. (or_new_client client o).requests) f.1 in
    ap (λ o. (or_new_client client o).requests) (hit client name (with_desk_client client cs) f.0 f.1) ∙ ap (λ (rs : List DeskRequest). rs ++ record { name = name; stand = stand.Asked } ∷ []) (sym was)

asked_other : (client y : ℕ) (name : List ℕ) (cs : List ClientStand) → y ≢ client → asks_of (at_desk_client client (asked_more name) (with_desk_client client cs)) y ≡ asks_of cs y
asked_other client y name cs apart = elim (asks_first client y (asked_more name) (with_desk_client client cs) (λ c. refl)) [
  | inl e ↦ e ∙ with_asks client y cs
  | inr e ↦ absurd (apart e.1)
]

-- ---- the opens and deletes
abbrev pub new_request : List ℕ → DeskRequest
new_request name = record { name = name; stand = stand.Asked }

abbrev pub with_ask : ConnId → List ℕ → List ClientStand → List ClientStand
with_ask who name cs = at_desk_client who.client (asked_more name) (with_desk_client who.client cs)

pub record AsksOne (who : ConnId) (name : List ℕ) (cs : List ClientStand) : Type 0 where
  pub here : request_at (with_ask who name cs) who ≡ Some (new_request name)
  pub nowhere : request_at cs who ≡ None
  pub kept : (x : ConnId) (q : DeskRequest) → request_at cs x ≡ Some q → request_at (with_ask who name cs) x ≡ Some q
  pub either : (x : ConnId) (q : DeskRequest) → request_at (with_ask who name cs) x ≡ Some q → (request_at cs x ≡ Some q) ⊎ ((x ≡ who) × (q ≡ new_request name))

pub asks_one : (who : ConnId) (name : List ℕ) (cs : List ClientStand) → who.request ≡ length (asks_of cs who.client) + 1 → AsksOne who name cs
asks_one who name cs number = record {
  here = ap (λ rs. request_in rs who.request) (asked_own who.client name cs) ∙ ap (request_in (asks_of cs who.client ++ new_request name ∷ [])) number ∙ request_last (asks_of cs who.client) (new_request name);
  nowhere = ap (request_in (asks_of cs who.client)) number ∙ request_past (asks_of cs who.client);
  kept = λ x q h. kept_at x q h;
  either = λ x q h. either_at x q h;
}
  where
    own_list : (x : ConnId) → x.client ≡ who.client → asks_of (with_ask who name cs) x.client ≡ asks_of cs x.client ++ new_request name ∷ []
    own_list x e = ap (asks_of (with_ask who name cs)) e ∙ asked_own who.client name cs ∙ ap (λ c. asks_of cs c ++ new_request name ∷ []) (sym e)

    kept_at : (x : ConnId) (q : DeskRequest) → request_at cs x ≡ Some q → request_at (with_ask who name cs) x ≡ Some q
    kept_at x q h = elim (cases_eq x.client who.client) [
      | inl e ↦ ap (λ rs. request_in rs x.request) (own_list x e) ∙ request_kept (asks_of cs x.client) (new_request name) x.request q h
      | inr e ↦ ap (λ rs. request_in rs x.request) (asked_other who.client x.client name cs e) ∙ h
    ]

    either_at : (x : ConnId) (q : DeskRequest) → request_at (with_ask who name cs) x ≡ Some q → (request_at cs x ≡ Some q) ⊎ ((x ≡ who) × (q ≡ new_request name))
    either_at x q h = elim (cases_eq x.client who.client) [
      | inl e ↦ elim (request_either (asks_of cs x.client) (new_request name) x.request q (sym (ap (λ rs. request_in rs x.request) (own_list x e)) ∙ h)) [
        | inl k ↦ inl k
        | inr k ↦ (let n : x.request ≡ who.request = k.0 ∙ ap (λ c. length (asks_of cs c) + 1) e ∙ sym number in inr ((λ i. record { client = e i; request = n i }), k.1))
      ]
      | inr e ↦ inl (sym (ap (λ rs. request_in rs x.request) (asked_other who.client x.client name cs e)) ∙ h)
    ]
