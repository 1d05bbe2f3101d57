-- Numbers that the desk draws, and those of a client's transactions.
--     next_drawn            the next number rises where one is drawn, which is the one before it
--     below_more            what is below a number is below a greater one
--     rising_end            one more that is above all others
--     numbers_end, numbers_started, rising_without, below_without       of the transactions
use Rattle.std.proofs.Common.{◌≡◌, ℕ, ◌+◌, ◌<◌, ◌≤◌, Bool, true, false, cond, List, [], ◌∷◌, ◌++◌, map, filter, Option, Some, None, if◌then◌else◌, inl, inr, refl, sym, ◌∙◌, ap, arith}
use Rattle.std.specs.Prelude.{◌==◌, ◌&&◌, not, is_none, option_map}
use Rattle.std.proofs.lemmas.Bool.{and_parts}
use Rattle.std.proofs.lemmas.Bool.Decides.{eqb_tells}
use Rattle.idb_keys.specs.declared.names.ErrorName.{ErrorName}
use Rattle.idb_keys.specs.declared.names.ErrorName.TheVariants as error
use Rattle.idb_keys.specs.declared.names.Mode.{Mode}
use Rattle.idb_schema.specs.Schemas.{SchemaData}
use Rattle.name_queues.specs.declared.ids.ConnId.{ConnId}
use Rattle.name_queues.specs.Names.{conn_in}
use Rattle.name_queues.specs.declared.events.ClientEvent.{ClientEvent}
use Rattle.name_queues.specs.declared.events.ClientEvent.TheVariants as event
use Rattle.connection_queues.specs.Machine.{schema_of}
use Rattle.scope_desk.specs.Rising.{IsRisingFrom, AreAllBelow}
use Rattle.desk_steps.specs.declared.stands.DrawnTx.{DrawnTx}
use Rattle.desk_steps.specs.declared.stands.DeskRequest.{DeskRequest}
use Rattle.desk_steps.specs.declared.stands.TxKind.{TxKind}
use Rattle.desk_steps.specs.declared.stands.TxKind.TheVariants as kind
use Rattle.desk_steps.specs.declared.steps.DeskStep.{DeskStep}
use Rattle.desk_steps.specs.declared.steps.DeskStep.TheVariants as step
use Rattle.idb_desk.specs.Desks.{DeskState, DeskBoard, name_asked_by, request_at, stand_where, drawn_at}
use Rattle.idb_desk.specs.Refusals.{is_allowed, is_committed, is_given, is_usable, refusal_of_create, has_stores, is_open_conn, is_empty_scope, is_version_change, is_at_limit}
use Rattle.idb_desk.specs.Steps.{after, after_event, after_take, event_for, drawn_whole, after_created, after_left, answer_of, number_of_event}
use Rattle.client_machine.specs.ClientStates.{ClientTx, started_if}
use Rattle.client_seats.specs.Seating.{tx_numbers}

-- ---- a number is drawn
pub record Drew (before after number : ℕ) : Type 0 where
  pub was : number ≡ before
  pub is : after ≡ before + 1

drew_whole : (b : DeskBoard) (who : ConnId) (k : TxKind) (name : Option (List ℕ)) (n : ℕ) → option_map (λ (x : List ℕ). b.scopes.next) name ≡ Some n → Drew b.scopes.next (drawn_whole b who k name).scopes.next n
drew_whole b who k None n e = cc
drew_whole b who k (Some name) n e = record { was = (let same : b.scopes.next ≡ n = cc in sym same); is = refl }

drew_event : (d : DeskState) (o : Option ClientEvent) (client n : ℕ) → number_of_event d o ≡ Some n → Drew d.board.scopes.next (after_take d client o).board.scopes.next n
drew_event d None client n e = cc
drew_event d (Some (event.Upgrade who old new)) client n e = drew_whole d.board who (kind.Upgrade new) (name_asked_by d.board.clients who) n e
drew_event d (Some (event.Blocked who old new)) client n e = cc
drew_event d (Some (event.Success who version)) client n e = cc
drew_event d (Some (event.Error who name)) client n e = cc
drew_event d (Some (event.VersionChange who old new)) client n e = cc
drew_event d (Some (event.Closed who)) client n e = cc
drew_event d (Some (event.DeleteReady who old)) client n e = drew_whole d.board who kind.Deletion (name_asked_by d.board.clients who) n e

-- the connection of one that may be created was asked, and has a schema
name_there : (o : Option DeskRequest) (b : Bool) → is_given (stand_where o) && b ≡ true → (name : Option (List ℕ)) → name ≡ option_map (λ (r : DeskRequest). r.name) o → is_none name ≡ false
name_there None b e name is = cc
name_there (Some r) b e name is = rw is refl

create_drew : (d : DeskState) (who : ConnId) (scope : List (List ℕ)) (m : Mode) (name : Option (List ℕ)) (schema : Option SchemaData) (n : ℕ) → is_none name ≡ false → has_stores scope schema ≡ true → n ≡ d.board.scopes.next → Drew d.board.scopes.next (after_created d who scope m name schema).board.scopes.next n
create_drew d who scope m None schema n e k is = cc
create_drew d who scope m (Some name) None n e k is = cc
create_drew d who scope m (Some name) (Some schema) n e k is = record { was = is; is = refl }

-- which of the refusals didn't come
refusals : (usable stores empty change limit : Bool) (e f g h i : ErrorName) → is_none (if not usable then Some e else if not stores then Some f else if empty then Some g else if change then Some h else if limit then Some i else None) ≡ true → (usable ≡ true) × (stores ≡ true)
refusals false stores empty change limit e f g h i k = cc
refusals true false empty change limit e f g h i k = cc
refusals true true empty change limit e f g h i k = (refl, refl)

number_is : (n m : ℕ) → (n == m) ≡ true → n ≡ m
number_is n m e = elim (eqb_tells n m) [ inl p ↦ p.1 | inr p ↦ let bad : true ≡ false = sym e ∙ p.0 in cc ]

pub next_drawn : (d : DeskState) (t : DeskStep) (n : ℕ) → is_allowed d t ≡ true → (answer_of d t).number ≡ Some n → Drew d.board.scopes.next (after d t).board.scopes.next n
unfolding after
next_drawn d (step.Asks who name want) n a e = cc
next_drawn d (step.Takes client) n a e = drew_event d (event_for d client) client n e
next_drawn d (step.Handles client) n a e = cc
next_drawn d (step.Closes who) n a e = cc
next_drawn d (step.Creates number who scope m durability) n a e =
    let parts : (is_none (refusal_of_create d who scope m) ≡ true) × ((number == d.board.scopes.next) ≡ true) = and_parts _ _ a in
    let allows : (is_usable d who ≡ true) × (has_stores scope (schema_of d.queues who) ≡ true) = refusals (is_usable d who) (has_stores scope (schema_of d.queues who)) (is_empty_scope scope) (is_version_change m) (is_at_limit d who.client) error.InvalidStateError error.NotFoundError error.InvalidAccessError error.TypeError error.QuotaExceededError parts.0 in
    let same : number ≡ n = cc in
    create_drew d who scope m (name_asked_by d.board.clients who) (schema_of d.queues who) n (name_there (request_at d.board.clients who) (is_open_conn (conn_in d.queues.names who)) allows.0 (name_asked_by d.board.clients who) refl) allows.1 (sym same ∙ number_is number d.board.scopes.next parts.1)
next_drawn d (step.Starts client number) n a e = cc
next_drawn d (step.Leaves client number ended kept) n a e = cc
next_drawn d step.Faults n a e = cc

-- ---- numbers of transactions
pub below_more : (low high : ℕ) (ns : List ℕ) → low ≤ high → AreAllBelow low ns → AreAllBelow high ns
below_more low high [] l b = tt
below_more low high (n ∷ ns) l b = (let here = b.0 in omega arith, below_more low high ns l b.1)

pub below_end : (high : ℕ) (ns : List ℕ) (n : ℕ) → AreAllBelow high ns → n < high → AreAllBelow high (ns ++ n ∷ [])
below_end high [] n b l = (l, tt)
below_end high (m ∷ ns) n b l = (b.0, below_end high ns n b.1 l)

pub rising_end : (low : ℕ) (ns : List ℕ) (n : ℕ) → IsRisingFrom low ns → AreAllBelow n ns → low ≤ n → IsRisingFrom low (ns ++ n ∷ [])
rising_end low [] n r b l = (l, tt)
rising_end low (m ∷ ns) n r b l = (r.0, rising_end (m + 1) ns n r.1 b.1 (let here = b.0 in omega arith))

pub numbers_end : (txs : List ClientTx) (tx : ClientTx) → tx_numbers (txs ++ tx ∷ []) ≡ tx_numbers txs ++ tx.number ∷ []
numbers_end [] tx = refl
numbers_end (t ∷ txs) tx = ap (λ ns. t.number ∷ ns) (numbers_end txs tx)

pub numbers_started : (n : ℕ) (txs : List ClientTx) → tx_numbers (map (started_if n) txs) ≡ tx_numbers txs
numbers_started n [] = refl
numbers_started n (t ∷ txs) = elim (t.number == n) as (λ b. (if b then record t { started = true } else t).number ∷ tx_numbers (map (started_if n) txs) ≡ t.number ∷ tx_numbers txs) [
  | true ↦ ap (λ ns. t.number ∷ ns) (numbers_started n txs)
  | false ↦ ap (λ ns. t.number ∷ ns) (numbers_started n txs)
]

lower : (low less : ℕ) (ns : List ℕ) → less ≤ low → IsRisingFrom low ns → IsRisingFrom less ns
lower low less [] l r = tt
lower low less (n ∷ ns) l r = (let here = r.0 in omega arith, r.1)

pub rising_without : (p : ClientTx → Bool) (low : ℕ) (txs : List ClientTx) → IsRisingFrom low (tx_numbers txs) → IsRisingFrom low (tx_numbers (filter p txs))
rising_without p low [] r = tt
rising_without p low (t ∷ txs) r =
    let rest : IsRisingFrom (t.number + 1) (tx_numbers (filter p txs)) = rising_without p (t.number + 1) txs r.1 in
    elim (p t) as (λ b. IsRisingFrom low (tx_numbers (cond b (t ∷ filter p txs) (filter p txs)))) [ true ↦ (r.0, rest) | false ↦ lower (t.number + 1) low _ (let here = r.0 in omega arith) rest ]

pub below_without : (p : ClientTx → Bool) (high : ℕ) (txs : List ClientTx) → AreAllBelow high (tx_numbers txs) → AreAllBelow high (tx_numbers (filter p txs))
below_without p high [] b = tt
below_without p high (t ∷ txs) b =
    let rest : AreAllBelow high (tx_numbers (filter p txs)) = below_without p high txs b.1 in
    elim (p t) as (λ x. AreAllBelow high (tx_numbers (cond x (t ∷ filter p txs) (filter p txs)))) [ true ↦ (b.0, rest) | false ↦ rest ]
