-- What is kept of a client, where it stands and where it doesn't.
use Rattle.std.proofs.Common.{◌≡◌, ◌∙◌, ℕ, ◌-◌, get_or, slice_get, drop, position, Some, None, option_map, true, false, cond, List, [], ◌∷◌, ◌++◌, ap, sym, refl}
use Rattle.std.proofs.Math.Dec.{eqb}
use Rattle.std.specs.Prelude.{unwrap_or}
use Rattle.std.proofs.lemmas.Option.{none-some}
use Rattle.connection_queues.specs.Machine.{QueueState, handled}
use Rattle.name_queues.specs.declared.ids.ConnId.{ConnId}
use Rattle.desk_steps.specs.Queueing.{settled_where}
use Rattle.std.specs.List.{find}
use Rattle.std.specs.Cmp.{nat_eq_equiv}
use Rattle.name_queues.proofs.Laws.{place_of, nowhere, any_there, any_nowhere}
use Rattle.desk_steps.specs.Desks.{ClientStand, is_client, client_in, or_new_client, new_client, request_in, asks_of, name_asked_by, at_desk_client, with_desk_client, DeskState}
use Rattle.desk_steps.specs.Steps.{asked_more, changes_left, handled_where, after_handled, with_clients}
use Rattle.desk_steps.proofs.Placed.{end_then}
use Rattle.desk_steps.specs.declared.stands.DeskRequest.{DeskRequest}

pub client_there : (client : ℕ) (cs : List ClientStand) (i : ℕ) (x : ClientStand) → Some i ≡ position (is_client client) cs → x ≡ get_or cs i x → client_in cs client ≡ x
client_there client cs i x e h = ap (or_new_client client) (place_of (is_client client) cs i x e h).found

pub client_nowhere : (client : ℕ) (cs : List ClientStand) → None ≡ position (is_client client) cs → client_in cs client ≡ new_client client
client_nowhere client cs e = ap (or_new_client client) (nowhere (is_client client) cs e).found

abbrev no_requests : List DeskRequest
no_requests = []

pub none_in : (number : ℕ) → request_in [] number ≡ None
none_in number = elim (eqb number 0) as (λ b. cond b None (slice_get no_requests (number - 1)) ≡ None) [ true ↦ refl | false ↦ refl ]

-- the same where the list was read through a lent one
pub client_there_in : (client : ℕ) (cs ds : List ClientStand) (i : ℕ) (x : ClientStand) → ds ≡ cs → Some i ≡ position (is_client client) ds → x ≡ get_or ds i x → client_in cs client ≡ x
client_there_in client cs ds i x s e h = ap (λ es. client_in es client) (sym s) ∙ client_there client ds i x e h

pub client_nowhere_in : (client : ℕ) (cs ds : List ClientStand) → ds ≡ cs → None ≡ position (is_client client) ds → client_in cs client ≡ new_client client
client_nowhere_in client cs ds s e = ap (λ es. client_in es client) (sym s) ∙ client_nowhere client ds e

-- ---- a client that asks
pub asked_there : (client : ℕ) (name : List ℕ) (cs : List ClientStand) (x : ClientStand) → find (is_client client) cs ≡ Some x → at_desk_client client (asked_more name) (with_desk_client client cs) ≡ at_desk_client client (asked_more name) cs
asked_there client name cs x e = rw (any_there (is_client client) cs x e) refl

eqb_self : (n : ℕ) → eqb n n ≡ true
eqb_self n = nat_eq_equiv.refl n

pub asked_first : (client : ℕ) (name : List ℕ) (cs : List ClientStand) → find (is_client client) cs ≡ None → at_desk_client client (asked_more name) (with_desk_client client cs) ≡ cs ++ asked_more name (new_client client) ∷ []
asked_first client name cs e =
    let none = any_nowhere (is_client client) cs e in
    rw none (end_then (is_client client) (asked_more name) (new_client client) cs (eqb_self client) none)

-- ---- a client whose versionchange events were handled
asks_kept : (client : ℕ) (ws : List ConnId) (other : ℕ) (cs : List ClientStand) → asks_of (at_desk_client client (changes_left ws) cs) other ≡ asks_of cs other
asks_kept client ws other [] = refl
asks_kept client ws other (c ∷ cs) = elim (is_client client c) as (λ b. asks_of (cond b (changes_left ws c ∷ cs) (c ∷ at_desk_client client (changes_left ws) cs)) other ≡ asks_of (c ∷ cs) other) [
  | true ↦ elim (is_client other c) as (λ b. (or_new_client other (cond b (Some (changes_left ws c)) (find (is_client other) cs))).requests ≡ (or_new_client other (cond b (Some c) (find (is_client other) cs))).requests) [ true ↦ refl | false ↦ refl ]
  | false ↦ elim (is_client other c) as (λ b. (or_new_client other (cond b (Some c) (find (is_client other) (at_desk_client client (changes_left ws) cs)))).requests ≡ (or_new_client other (cond b (Some c) (find (is_client other) cs))).requests) [ true ↦ refl | false ↦ asks_kept client ws other cs ]
]

head_is : {A : Type 0} (x : A) (xs : List A) → Some x ≡ slice_get xs 0 → xs ≡ x ∷ drop 1 xs
head_is x [] e = absurd (none-some x (sym e))
head_is x (y ∷ ys) e = ap (λ z. z ∷ ys) (sym (ap (λ o. unwrap_or o x) e))

pub handled_there : (d : DeskState) (client : ℕ) (who : ConnId) (whos : List ConnId) (cs ds : List ClientStand) (q r : QueueState)
    → Some who ≡ slice_get whos 0 → cs ≡ at_desk_client client (changes_left (drop 1 whos)) d.board.clients → ds ≡ cs
    → q ≡ handled d.queues client → r ≡ settled_where q (name_asked_by ds who)
    → record { queues = r; board = with_clients d.board cs } ≡ after_handled d client whos
handled_there d client who whos cs ds q r e h s p g =
    let names : name_asked_by ds who ≡ name_asked_by d.board.clients who = ap (λ es. name_asked_by es who) (s ∙ h) ∙ ap (λ rs. option_map (λ (x : DeskRequest). x.name) (request_in rs who.request)) (asks_kept client (drop 1 whos) who.client d.board.clients) in
    let moves : r ≡ handled_where d client whos = g ∙ ap (λ x. settled_where x (name_asked_by ds who)) p ∙ ap (settled_where (handled d.queues client)) names ∙ sym (ap (handled_where d client) (head_is who whos e)) in
    λ i. record { queues = moves i; board = with_clients d.board (h i) }
