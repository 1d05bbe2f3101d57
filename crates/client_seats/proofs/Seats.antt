-- A client sits at a desk.
--     seat_begins           at the beginning
--     seat_counted          as many opens and deletes on both sides
--     seat_taken, seat_asked        an ask that isn't refused is allowed;  behind an ask
--     seat_later, seat_others       behind a step that is no ask of it;  behind what another client does
--     seat_drew             with a transaction of the number that a step draws
--     seat_given, seat_started, seat_finished, seat_alike       behind a change of the client alone
use Rattle.std.proofs.Common.{◌≡◌, ◌≢◌, ℕ, suc, ◌+◌, ◌≤◌, Bool, true, false, List, [], ◌∷◌, ◌++◌, length, map, Some, None, if◌then◌else◌, inl, inr, refl, sym, ◌∙◌, ap, subst, arith, length-append}
use Rattle.std.specs.Prelude.{◌==◌, ◌&&◌, not, is_none, nat_le}
use Rattle.std.proofs.lemmas.Bool.{and_parts}
use Rattle.std.proofs.lemmas.Bool.Decides.{eqb_tells, nat_tests}
use Rattle.idb_keys.specs.declared.names.ErrorName.{ErrorName}
use Rattle.idb_schema.specs.Schemas.{SchemaData}
use Rattle.name_queues.specs.declared.asks.Wants.{Wants}
use Rattle.name_queues.specs.declared.events.ClientEvent.{ClientEvent}
use Rattle.name_queues.specs.Mails.{conn_of}
use Rattle.scope_desk.specs.Rising.{IsRising, AreAllBelow}
use Rattle.desk_steps.specs.declared.steps.DeskStep.{DeskStep}
use Rattle.desk_steps.specs.declared.steps.DeskStep.TheVariants as step
use Rattle.desk_steps.specs.declared.stands.DeskRequest.{DeskRequest}
use Rattle.idb_desk.specs.Desks.{DeskState, asks_of}
use Rattle.idb_desk.specs.Refusals.{is_allowed, refusal_of_step, has_version, is_at_limit, refusal_of_ask}
use Rattle.idb_desk.specs.Steps.{after, after_all, new_desk, DeskRun, desk_run, with_step, answer_of}
use Rattle.idb_desk.specs.Tokens.{client_of}
use Rattle.client_machine.specs.Acts.{Act, Noted, Makes, Fails, Begins, TakesTurn}
use Rattle.client_machine.specs.Answering.{MadeAtOnce}
use Rattle.client_machine.specs.ClientStates.{OpenAsked, ClientTx, ClientState, fresh_client, id_of, next_request, open_at, with_open, with_tx, without_tx, with_started, is_tx}
use Rattle.client_machine.specs.ClientSteps.{given_by_event, after_event_of}
use Rattle.client_seats.specs.Seating.{open_names, asked_names, tx_numbers, IsSeated, SitsAlike, ask_step, is_ask_of}
use Rattle.client_seats.proofs.Keeping.{same_names, names_stay, names_grow}
use Rattle.idb_desk.proofs.Laws.{next_grows}
use Rattle.client_seats.proofs.Numbers.{next_drawn, below_more, below_end, rising_end, numbers_end, numbers_started, rising_without, below_without}

all_snoc : (d : DeskState) (ts : List DeskStep) (t : DeskStep) → after_all d (ts ++ t ∷ []) ≡ after (after_all d ts) t
all_snoc d [] t = refl
all_snoc d (s ∷ ss) t = all_snoc (after d s) ss t

run_snoc : (r : DeskRun) (t : DeskStep) → desk_run (with_step r t) ≡ after (desk_run r) t
unfolding desk_run
run_snoc r t = all_snoc (new_desk r.opening) r.order t

-- ---- at the beginning
pub seat_begins : (number main : ℕ) (opening : List SchemaData) → IsSeated (fresh_client number main) (record { opening = opening; order = [] })
unfolding desk_run
seat_begins number main opening = record { few = omega arith; asked = refl; rising = tt; below = tt }

-- ---- both sides
length_names : {A : Type 0} (name : A → List ℕ) (xs : List A) → length (map name xs) ≡ length xs
length_names name [] = refl
length_names name (x ∷ xs) = ap suc (length_names name xs)

pub seat_counted : (c : ClientState) (r : DeskRun) → IsSeated c r → length (asks_of (desk_run r).board.clients c.number) ≡ length c.opens
seat_counted c r s = sym (length_names (λ (x : DeskRequest). x.name) _) ∙ ap length (sym s.asked) ∙ length_names (λ (o : OpenAsked). o.name) c.opens

same_number : (n m : ℕ) → n ≡ m → (n == m) ≡ true
same_number n m e = elim (eqb_tells n m) [ inl p ↦ p.0 | inr p ↦ absurd (p.1 e) ]

both_true : (a b : Bool) → a ≡ true → b ≡ true → a && b ≡ true
both_true a b e k = rw (e, k) refl

-- ---- asks
pub seat_taken : (c : ClientState) (r : DeskRun) (o : OpenAsked) (wants : Wants) → IsSeated c r → refusal_of_step (desk_run r) (ask_step c o wants) ≡ None → is_allowed (desk_run r) (ask_step c o wants) ≡ true
seat_taken c r o wants s e = both_true _ _ (ap is_none e) (same_number _ _ (ap (λ n. n + 1) (sym (seat_counted c r s))))

not_at_limit : (version limit : Bool) (e f : ErrorName) → is_none (if not version then Some e else if limit then Some f else None) ≡ true → limit ≡ false
not_at_limit false limit e f k = cc
not_at_limit true true e f k = cc
not_at_limit true false e f k = refl

within_limit : (asks created : ℕ) → nat_le 10000 (asks + created) ≡ false → asks + 1 ≤ 10000
within_limit asks created e = grind (arith, nat_tests)

open_names_end : (opens : List OpenAsked) (o : OpenAsked) → open_names (opens ++ o ∷ []) ≡ open_names opens ++ o.name ∷ []
open_names_end [] o = refl
open_names_end (p ∷ opens) o = ap (λ ns. p.name ∷ ns) (open_names_end opens o)

pub seat_asked : (c : ClientState) (r : DeskRun) (o : OpenAsked) (wants : Wants) → IsSeated c r → is_allowed (desk_run r) (ask_step c o wants) ≡ true → IsSeated (with_open c o) (with_step r (ask_step c o wants))
seat_asked c r o wants s a =
    let t = ask_step c o wants in
    let d = desk_run r in
    let same : desk_run (with_step r t) ≡ after d t = run_snoc r t in
    let not_refused : is_none (refusal_of_ask d (id_of c (next_request c)) wants) ≡ true = (and_parts _ _ a).0 in
    let limit : is_at_limit d c.number ≡ false = not_at_limit (has_version wants) (is_at_limit d c.number) _ _ not_refused in
    let room : length (asks_of d.board.clients c.number) + 1 ≤ 10000 = within_limit _ _ limit in
    record {
      few = omega (arith, room, seat_counted c r s, length-append c.opens (o ∷ []));
      asked = open_names_end c.opens o ∙ ap (λ ns. ns ++ o.name ∷ []) s.asked ∙ sym (names_grow d (id_of c (next_request c)) o.name wants) ∙ ap (λ e. asked_names e c.number) (sym same);
      rising = s.rising;
      below = below_more d.board.scopes.next _ (tx_numbers c.txs) (subst (λ (e : DeskState). d.board.scopes.next ≤ e.board.scopes.next) (sym same) (next_grows d t)) s.below;
    }

-- ---- other steps
pub seat_later : (c : ClientState) (r : DeskRun) (t : DeskStep) → IsSeated c r → is_ask_of c.number t ≡ false → IsSeated c (with_step r t)
seat_later c r t s other =
    let d = desk_run r in
    let same : desk_run (with_step r t) ≡ after d t = run_snoc r t in
    record {
      few = s.few;
      asked = s.asked ∙ sym (names_stay c.number d t other) ∙ ap (λ e. asked_names e c.number) (sym same);
      rising = s.rising;
      below = below_more d.board.scopes.next _ (tx_numbers c.txs) (subst (λ (e : DeskState). d.board.scopes.next ≤ e.board.scopes.next) (sym same) (next_grows d t)) s.below;
    }

other_ask : (number client : ℕ) (t : DeskStep) → number ≢ client → client_of t ≡ Some client → is_ask_of number t ≡ false
other_ask number client (step.Asks who name want) apart e = elim (eqb_tells who.client number) [ inl p ↦ let same : who.client ≡ client = cc in absurd (apart (sym p.1 ∙ same)) | inr p ↦ p.0 ]
other_ask number client (step.Takes other) apart e = refl
other_ask number client (step.Handles other) apart e = refl
other_ask number client (step.Closes who) apart e = refl
other_ask number client (step.Creates n who scope m durability) apart e = refl
other_ask number client (step.Starts other n) apart e = refl
other_ask number client (step.Leaves other n ended kept) apart e = refl
other_ask number client step.Faults apart e = refl

pub seat_others : (c : ClientState) (client : ℕ) (r last : DeskRun) (acts : List Act) → c.number ≢ client → IsSeated c r → MadeAtOnce client r acts last → IsSeated c last
seat_others c client r last [] apart s m = subst (λ q. IsSeated c q) (sym m) s
seat_others c client r last (Makes t told ∷ acts) apart s m = seat_others c client (with_step r t) last acts apart (seat_later c r t s (other_ask c.number client t apart m.0)) m.1.1
seat_others c client r last (Fails t name ∷ acts) apart s m = seat_others c client r last acts apart s m.1.1
seat_others c client r last (Noted note ∷ acts) apart s m = seat_others c client r last acts apart s m
seat_others c client r last (Begins tx ∷ acts) apart s m = seat_others c client r last acts apart s m
seat_others c client r last (TakesTurn number notes ∷ acts) apart s m = seat_others c client r last acts apart s m

-- ---- numbers
not_asked : (number n : ℕ) (d : DeskState) (t : DeskStep) → (answer_of d t).number ≡ Some n → is_ask_of number t ≡ false
not_asked number n d (step.Asks who name want) e = cc
not_asked number n d (step.Takes other) e = refl
not_asked number n d (step.Handles other) e = refl
not_asked number n d (step.Closes who) e = refl
not_asked number n d (step.Creates m who scope mode durability) e = refl
not_asked number n d (step.Starts other m) e = refl
not_asked number n d (step.Leaves other m ended kept) e = refl
not_asked number n d step.Faults e = refl

pub seat_drew : (c : ClientState) (r : DeskRun) (t : DeskStep) (tx : ClientTx) → IsSeated c r → is_allowed (desk_run r) t ≡ true → (answer_of (desk_run r) t).number ≡ Some tx.number → IsSeated (with_tx c tx) (with_step r t)
seat_drew c r t tx s a e =
    let d = desk_run r in
    let same : desk_run (with_step r t) ≡ after d t = run_snoc r t in
    let drawn = next_drawn d t tx.number a e in
    let later = seat_later c r t s (not_asked c.number tx.number d t e) in
    let next : (desk_run (with_step r t)).board.scopes.next ≡ d.board.scopes.next + 1 = ap (λ (x : DeskState). x.board.scopes.next) same ∙ drawn.is in
    let was : tx.number ≡ d.board.scopes.next = drawn.was in
    record {
      few = later.few;
      asked = later.asked;
      rising = subst IsRising (sym (numbers_end c.txs tx)) (rising_end 0 (tx_numbers c.txs) tx.number s.rising (subst (λ n. AreAllBelow n (tx_numbers c.txs)) (sym was) s.below) (omega arith));
      below = subst (AreAllBelow (desk_run (with_step r t)).board.scopes.next) (sym (numbers_end c.txs tx)) (below_end _ (tx_numbers c.txs) tx.number later.below (omega (arith, next, was)));
    }

-- ---- changes of the client alone
pub seat_given : (c : ClientState) (r : DeskRun) (e : ClientEvent) (o : OpenAsked) → IsSeated c r → open_at c (conn_of e).request ≡ Some o → IsSeated (after_event_of c o e) r
seat_given c r e o s is =
    let same : open_names (after_event_of c o e).opens ≡ open_names c.opens = same_names (λ (p : OpenAsked). p.name) c.opens (conn_of e).request o (given_by_event e o) is refl in
    record {
      few = omega (arith, s.few, sym (length_names (λ (p : OpenAsked). p.name) (after_event_of c o e).opens) ∙ ap length same ∙ length_names (λ (p : OpenAsked). p.name) c.opens);
      asked = same ∙ s.asked;
      rising = s.rising;
      below = s.below;
    }

pub seat_started : (c : ClientState) (r : DeskRun) (number : ℕ) → IsSeated c r → IsSeated (with_started c number) r
seat_started c r number s = record {
  few = s.few;
  asked = s.asked;
  rising = subst IsRising (sym (numbers_started number c.txs)) s.rising;
  below = subst (AreAllBelow (desk_run r).board.scopes.next) (sym (numbers_started number c.txs)) s.below;
}

pub seat_finished : (c : ClientState) (r : DeskRun) (number : ℕ) → IsSeated c r → IsSeated (without_tx c number) r
seat_finished c r number s = record {
  few = s.few;
  asked = s.asked;
  rising = rising_without (λ tx. not (is_tx number tx)) 0 c.txs s.rising;
  below = below_without (λ tx. not (is_tx number tx)) (desk_run r).board.scopes.next c.txs s.below;
}

pub seat_alike : (c d : ClientState) (r : DeskRun) → IsSeated c r → SitsAlike c d → IsSeated d r
seat_alike c d r s a = record {
  few = subst (λ (os : List OpenAsked). length os ≤ 10000) (sym a.opens) s.few;
  asked = ap open_names a.opens ∙ s.asked ∙ ap (asked_names (desk_run r)) (sym a.number);
  rising = subst (λ (txs : List ClientTx). IsRising (tx_numbers txs)) (sym a.txs) s.rising;
  below = subst (λ (txs : List ClientTx). AreAllBelow (desk_run r).board.scopes.next (tx_numbers txs)) (sym a.txs) s.below;
}
