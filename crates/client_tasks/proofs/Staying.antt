-- A client stays seated at each part of its steps.
--     later_seated, same_seated     it made a step that is no ask;  the client is as it was
--     posted_seated         it made a step that is no ask, and posts came
--     take_allowed          an event that is there may be taken
--     taken_seated          behind an event, and what it makes of its open
--     started_seated, left_seated           a transaction starts;  it is taken out
--     drew_seated           a transaction begins, of the number that was drawn
--     none_left             a list of length 0
use Rattle.std.proofs.Common.{◌≡◌, ℕ, ◌-◌, Bool, true, false, List, [], ◌∷◌, ◌++◌, map, filter, slice_get, slice_set, Option, Some, None, refl, sym, ap, ◌∙◌, subst}
use Rattle.std.specs.Prelude.{not, is_some, length, ◌==◌}
use Rattle.std.proofs.lemmas.Bool.{eqb-true}
use Rattle.std.proofs.lemmas.List.{nil_from_length}
use Rattle.name_queues.specs.Mails.{conn_of}
use Rattle.name_queues.specs.declared.events.ClientEvent.{ClientEvent}
use Rattle.desk_steps.specs.declared.steps.DeskStep.{DeskStep}
use Rattle.desk_steps.specs.declared.steps.DeskStep.TheVariants as step
use Rattle.idb_desk.specs.Desks.{DeskState}
use Rattle.idb_desk.specs.Refusals.{is_allowed, has_some}
use Rattle.idb_desk.specs.Steps.{DeskRun, desk_run, with_step, event_for, answer_of}
use Rattle.name_queues.specs.Mails.{events_of}
use Rattle.client_machine.specs.ClientStates.{OpenAsked, ClientTx, ClientState, open_at, is_tx, started_if, with_tx, with_started, without_tx}
use Rattle.client_machine.specs.ClientSteps.{given_by_event, after_event_of}
use Rattle.client_seats.specs.Seating.{IsSeated, SitsAlike, is_ask_of}
use Rattle.client_seats.proofs.Laws.{seat_later, seat_drew, seat_given, seat_started, seat_finished, seat_alike}

pub later_seated : (c : ClientState) (r last : DeskRun) (t : DeskStep) → IsSeated c r → is_ask_of c.number t ≡ false → last ≡ with_step r t → IsSeated c last
later_seated c r last t s other made = subst (λ q. IsSeated c q) (sym made) (seat_later c r t s other)

pub same_seated : (c d : ClientState) (r : DeskRun) → IsSeated c r → d ≡ c → IsSeated d r
same_seated c d r s same = subst (λ x. IsSeated x r) (sym same) s

pub posted_seated : (c d : ClientState) (r last : DeskRun) (t : DeskStep) → IsSeated c r → is_ask_of c.number t ≡ false → last ≡ with_step r t → SitsAlike c d → IsSeated d last
posted_seated c d r last t s other made alike = seat_alike c d last (later_seated c r last t s other made) alike

-- ---- events
pub take_allowed : (d : DeskState) (client : ℕ) (e : ClientEvent) → event_for d client ≡ Some e → is_allowed d (step.Takes client) ≡ true
take_allowed d client e is = there (events_of d.queues.mails client) is
  where
    there : (es : List ClientEvent) → slice_get es 0 ≡ Some e → has_some es ≡ true
    there [] k = cc
    there (x ∷ es) k = refl

pub some_there : {A : Type 0} (o : Option A) → is_some o ≡ true → (x : A) × (o ≡ Some x)
some_there None e = cc
some_there (Some x) e = (x, refl)

pub taken_seated : (c : ClientState) (r last : DeskRun) (e : ClientEvent) (opens : List OpenAsked) → IsSeated c r → is_some (open_at c (conn_of e).request) ≡ true
    → ((o : OpenAsked) → open_at c (conn_of e).request ≡ Some o → opens ≡ slice_set c.opens ((conn_of e).request - 1) (given_by_event e o))
    → last ≡ with_step r (step.Takes c.number) → IsSeated (record c { opens = opens }) last
taken_seated c r last e opens s own put made =
    let w = some_there (open_at c (conn_of e).request) own in
    let is : record c { opens = opens } ≡ after_event_of c w.0 e = ap (λ (os : List OpenAsked). record c { opens = os }) (put w.0 w.1) in
    subst (λ x. IsSeated x last) (sym is) (later_seated (after_event_of c w.0 e) r last (step.Takes c.number) (seat_given c r e w.0 s w.1) refl made)

-- ---- transactions
pub started_seated : (c : ClientState) (r last : DeskRun) (number : ℕ) (txs : List ClientTx) → IsSeated c r → txs ≡ map (started_if number) c.txs
    → last ≡ with_step r (step.Starts c.number number) → IsSeated (record c { txs = txs }) last
started_seated c r last number txs s put made =
    let is : record c { txs = txs } ≡ with_started c number = ap (λ (ts : List ClientTx). record c { txs = ts }) put in
    subst (λ x. IsSeated x last) (sym is) (later_seated (with_started c number) r last (step.Starts c.number number) (seat_started c r number s) refl made)

pub out_seated : (c : ClientState) (r : DeskRun) (number : ℕ) (txs : List ClientTx) → IsSeated c r → txs ≡ filter (λ tx. not (is_tx number tx)) c.txs → IsSeated (record c { txs = txs }) r
out_seated c r number txs s put =
    let is : record c { txs = txs } ≡ without_tx c number = ap (λ (ts : List ClientTx). record c { txs = ts }) put in
    subst (λ x. IsSeated x r) (sym is) (seat_finished c r number s)

pub left_seated : (c : ClientState) (r last : DeskRun) (number : ℕ) (t : DeskStep) (txs : List ClientTx) → IsSeated c r → is_ask_of c.number t ≡ false → last ≡ with_step r t
    → txs ≡ filter (λ tx. not (is_tx number tx)) c.txs → IsSeated (record c { txs = txs }) last
left_seated c r last number t txs s other made put = out_seated c last number txs (later_seated c r last t s other made) put

-- d: the client once it has room
pub drew_seated : (c d : ClientState) (r last : DeskRun) (t : DeskStep) (number : ℕ) (tx : ClientTx) (txs : List ClientTx) → IsSeated c r → is_allowed (desk_run r) t ≡ true → (answer_of (desk_run r) t).number ≡ Some number
    → tx.number ≡ number → d ≡ c → txs ≡ d.txs ++ tx ∷ [] → last ≡ with_step r t → IsSeated (record d { txs = txs }) last
drew_seated c d r last t number tx txs s allowed drawn is same put made =
    let whole : record d { txs = txs } ≡ with_tx c tx = ap (λ (ts : List ClientTx). record d { txs = ts }) put ∙ ap (λ (x : ClientState). with_tx x tx) same in
    subst (λ x. IsSeated x last) (sym whole) (subst (λ q. IsSeated (with_tx c tx) q) (sym made) (seat_drew c r t tx s allowed (drawn ∙ ap Some (sym is))))

pub none_left : {A : Type 0} (xs : List A) (n : ℕ) (empty : Bool) → n ≡ length xs → empty ≡ (n == 0) → empty ≡ true → xs ≡ []
none_left xs n empty long is e = nil_from_length xs (sym long ∙ eqb-true n 0 (sym is ∙ e))
