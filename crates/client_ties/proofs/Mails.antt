-- A client's mail has the events of its own opens and deletes alone.
--     AreOwn                each mail does
--     own_after             after a step of the desk
--     own_first             so has the event that it takes
use Rattle.std.proofs.Common.{◌≡◌, ℕ, Bool, true, false, not, List, [], ◌∷◌, ◌++◌, map, filter, flat_map, slice_get, if◌then◌else◌, Option, Some, None, inl, inr, sym, ◌∙◌, ap, subst}
use Rattle.std.specs.Prelude.{◌==◌, ◌&&◌}
use Rattle.std.specs.List.{list_any, AllByRecursion}
use Rattle.std.proofs.lemmas.Bool.{cases_Bool}
use Rattle.std.proofs.lemmas.Bool.Decides.{eqb_tells}
use Rattle.idb_schema.specs.Schemas.{SchemaData}
use Rattle.idb_keys.specs.declared.names.ErrorName.{ErrorName}
use Rattle.idb_keys.specs.declared.names.ErrorName.TheVariants as error
use Rattle.idb_keys.specs.declared.names.Mode.{Mode}
use Rattle.name_queues.specs.declared.asks.Wants.{Wants}
use Rattle.name_queues.specs.declared.connections.Conn.{Conn}
use Rattle.name_queues.specs.declared.events.ClientEvent.{ClientEvent}
use Rattle.name_queues.specs.declared.events.ClientEvent.TheVariants as event
use Rattle.name_queues.specs.declared.ids.ConnId.{ConnId}
use Rattle.name_queues.specs.declared.names.Named.{Named}
use Rattle.name_queues.specs.Names.{at_first, is_name, is_sent, holds, conn_in}
use Rattle.name_queues.specs.Moves.{Moved, closed_conn, tx_ended, upgrade_ended, deletion_ended, faulted_name}
use Rattle.name_queues.specs.Mails.{Mail, conn_of, is_mail, posted, sent, sent_all, events_of, taken_of, without_oldest, taken_mail, lost_change, lost_changes, with_taken, with_mail, is_change_of, is_change}
use Rattle.connection_queues.specs.Machine.{QueueState, sent_at, moved_at, is_admitted, enqueued, refused, after_ask, lose_where, closed, taken_event, handled, handled_first, unhandled, schema_of}
use Rattle.connection_queues.specs.Runs.{settled_name}
use Rattle.desk_steps.specs.declared.stands.DrawnTx.{DrawnTx}
use Rattle.desk_steps.specs.declared.stands.TxKind.{TxKind}
use Rattle.desk_steps.specs.declared.stands.TxKind.TheVariants as kind
use Rattle.desk_steps.specs.declared.steps.DeskStep.{DeskStep}
use Rattle.desk_steps.specs.declared.steps.DeskStep.TheVariants as step
use Rattle.idb_desk.specs.Desks.{DeskState, changes_in, name_asked_by, drawn_at}
use Rattle.idb_desk.specs.Refusals.{is_committed}
use Rattle.idb_desk.specs.Queueing.{settled_where}
use Rattle.idb_desk.specs.Steps.{after, after_take, after_created, after_left, handled_where, queues_left, ended_in, event_for}

abbrev IsOwn : ℕ → ClientEvent → Type 0
IsOwn client e = (conn_of e).client ≡ client

abbrev HasOwn : Mail → Type 0
HasOwn m = AllByRecursion (IsOwn m.client) m.events

abbrev pub AreOwn : List Mail → Type 0
AreOwn ms = AllByRecursion HasOwn ms

-- ---- lists
all_end : {X : Type 0} (P : X → Type 0) (xs : List X) (x : X) → AllByRecursion P xs → P x → AllByRecursion P (xs ++ x ∷ [])
all_end P [] x all p = (p, tt)
all_end P (y ∷ ys) x all p = (all.0, all_end P ys x all.1 p)

all_kept : {X : Type 0} (P : X → Type 0) (test : X → Bool) (xs : List X) → AllByRecursion P xs → AllByRecursion P (filter test xs)
all_kept P test [] all = tt
all_kept P test (x ∷ xs) all = elim (test x) as (λ b. AllByRecursion P (if b then x ∷ filter test xs else filter test xs)) [
  | true ↦ (all.0, all_kept P test xs all.1)
  | false ↦ all_kept P test xs all.1
]

own_first_changed : (test : Mail → Bool) (f : Mail → Mail) → ((m : Mail) → test m ≡ true → HasOwn m → HasOwn (f m)) → (ms : List Mail) → AreOwn ms → AreOwn (at_first test f ms)
own_first_changed test f keeps [] all = tt
own_first_changed test f keeps (m ∷ ms) all = elim (cases_Bool (test m)) [
  | inl is ↦ subst (λ b. AreOwn (if b then f m ∷ ms else m ∷ at_first test f ms)) (sym is) (keeps m is all.0, all.1)
  | inr out ↦ subst (λ b. AreOwn (if b then f m ∷ ms else m ∷ at_first test f ms)) (sym out) (all.0, own_first_changed test f keeps ms all.1)
]

-- ---- what is sent
equal : (a b : ℕ) → (a == b) ≡ true → a ≡ b
equal a b e = elim (eqb_tells a b) [ inl p ↦ p.1 | inr p ↦ absurd (no (sym e ∙ p.0)) ]
  where
    no : true ≡ false → ⊥
    no k = cc

own_posted : (e : ClientEvent) (m : Mail) → is_mail (conn_of e).client m ≡ true → HasOwn m → HasOwn (posted e m)
own_posted e m is all = all_end (IsOwn m.client) m.events e all (sym (equal m.client (conn_of e).client is))

own_sent : (e : ClientEvent) (ms : List Mail) → AreOwn ms → AreOwn (sent e ms)
own_sent e ms all = own_first_changed (is_mail (conn_of e).client) (posted e) (own_posted e) ms all

own_sent_all : (es : List ClientEvent) (ms : List Mail) → AreOwn ms → AreOwn (sent_all es ms)
own_sent_all [] ms all = all
own_sent_all (e ∷ es) ms all = own_sent_all es (sent e ms) (own_sent e ms all)

own_moved : (test : Named → Bool) (f : Named → Moved) (q : QueueState) → AreOwn q.mails → AreOwn (moved_at test f q).mails
own_moved test f q all = own_sent_all (sent_at test f q.names) q.mails all

own_settled : (q : QueueState) (o : Option (List ℕ)) → AreOwn q.mails → AreOwn (settled_where q o).mails
own_settled q None all = all
own_settled q (Some name) all = own_moved (is_name name) settled_name q all

-- ---- the calls of the queues
own_with_mail : (client : ℕ) (ms : List Mail) → AreOwn ms → AreOwn (with_mail client ms)
own_with_mail client ms all = elim (list_any (is_mail client) ms) as (λ b. AreOwn (if b then ms else ms ++ record { client = client; events = []; taken = [] } ∷ [])) [
  | true ↦ all
  | false ↦ all_end HasOwn ms (record { client = client; events = []; taken = [] }) all tt
]

own_refused : (q : QueueState) (who : ConnId) (name : ErrorName) → AreOwn q.mails → AreOwn (refused q who name).mails
own_refused q who name all = own_sent (event.Error who name) (with_mail who.client q.mails) (own_with_mail who.client q.mails all)

own_asked : (q : QueueState) (who : ConnId) (name : List ℕ) (want : Wants) → AreOwn q.mails → AreOwn (after_ask q who name want).mails
own_asked q who name want all = elim q.is_faulted as (λ b. AreOwn (if b then refused q who error.UnknownError else if is_admitted name q.names then record q { names = enqueued name (record { who = who; wants = want }) q.names; mails = with_mail who.client q.mails } else refused q who error.QuotaExceededError).mails) [
  | true ↦ own_refused q who error.UnknownError all
  | false ↦ elim (is_admitted name q.names) as (λ b. AreOwn (if b then record q { names = enqueued name (record { who = who; wants = want }) q.names; mails = with_mail who.client q.mails } else refused q who error.QuotaExceededError).mails) [
    | true ↦ own_with_mail who.client q.mails all
    | false ↦ own_refused q who error.QuotaExceededError all
  ]
]

own_lose : (who : ConnId) (o : Option Conn) (ms : List Mail) → AreOwn ms → AreOwn (lose_where who o ms)
own_lose who None ms all = all
own_lose who (Some k) ms all = elim (not k.is_closing && is_sent k.change) as (λ b. AreOwn (if b then at_first (is_mail who.client) (lost_change who) ms else ms)) [
  | true ↦ own_first_changed (is_mail who.client) (lost_change who) (λ m is h. all_kept (IsOwn m.client) (λ e. not (is_change_of who e)) m.events h) ms all
  | false ↦ all
]

own_closed : (q : QueueState) (who : ConnId) → AreOwn q.mails → AreOwn (closed q who).mails
own_closed q who all = own_moved (holds who) (closed_conn who) (record q { mails = lose_where who (conn_in q.names who) q.mails }) (own_lose who (conn_in q.names who) q.mails all)

own_oldest : (m : Mail) (es : List ClientEvent) → AllByRecursion (IsOwn m.client) m.events → AllByRecursion (IsOwn m.client) es → HasOwn (without_oldest m es)
own_oldest m [] all these = all
own_oldest m (e ∷ es) all these = these.1

own_taken : (q : QueueState) (client : ℕ) (es : List ClientEvent) → AreOwn q.mails → AreOwn (taken_event q client es).mails
own_taken q client [] all = all
own_taken q client (e ∷ es) all = own_first_changed (is_mail client) taken_mail (λ m is h. own_oldest m m.events h h) q.mails all

own_handled : (q : QueueState) (client : ℕ) (whos : List ConnId) → AreOwn q.mails → AreOwn (handled_first q client whos).mails
own_handled q client [] all = own_first_changed (is_mail client) (with_taken []) (λ m is h. h) q.mails all
own_handled q client (who ∷ whos) all = own_first_changed (is_mail client) (with_taken whos) (λ m is h. h) q.mails all

own_lost_all : (ms : List Mail) → AreOwn ms → AreOwn (map lost_changes ms)
own_lost_all [] all = tt
own_lost_all (m ∷ ms) all = (all_kept (IsOwn m.client) (λ e. not (is_change e)) m.events all.0, own_lost_all ms all.1)

-- ---- a step of the desk
own_event : (d : DeskState) (client : ℕ) (o : Option ClientEvent) → AreOwn d.queues.mails → AreOwn (after_take d client o).queues.mails
own_event d client None all = all
own_event d client (Some e) all = own_taken d.queues client (events_of d.queues.mails client) all

own_change : (d : DeskState) (client : ℕ) (whos : List ConnId) → AreOwn d.queues.mails → AreOwn (handled_where d client whos).mails
own_change d client [] all = all
own_change d client (who ∷ whos) all = own_settled (handled d.queues client) (name_asked_by d.board.clients who) (own_handled d.queues client (unhandled d.queues.names (taken_of d.queues.mails client)) all)

own_created : (d : DeskState) (who : ConnId) (scope : List (List ℕ)) (m : Mode) (name : Option (List ℕ)) (schema : Option SchemaData) → AreOwn d.queues.mails → AreOwn (after_created d who scope m name schema).queues.mails
own_created d who scope m None schema all = all
own_created d who scope m (Some name) None all = all
own_created d who scope m (Some name) (Some schema) all = all

own_ended : (q : QueueState) (name : List ℕ) (who : ConnId) (k : TxKind) (committed : Bool) (kept : Option SchemaData) → AreOwn q.mails → AreOwn (ended_in q name who k committed kept).mails
own_ended q name who kind.Plain committed kept all = own_moved (holds who) (tx_ended who) q all
own_ended q name who (kind.Upgrade version) committed kept all = own_moved (is_name name) (upgrade_ended kept) q all
own_ended q name who kind.Deletion committed kept all = own_moved (is_name name) (deletion_ended committed) q all

own_queues_left : (q : QueueState) (o : Option (List ℕ)) (who : ConnId) (k : TxKind) (committed : Bool) (kept : Option SchemaData) → AreOwn q.mails → AreOwn (queues_left q o who k committed kept).mails
own_queues_left q None who k committed kept all = all
own_queues_left q (Some name) who k committed kept all = own_moved (is_name name) settled_name (ended_in q name who k committed kept) (own_ended q name who k committed kept all)

own_left : (d : DeskState) (number : ℕ) (committed : Bool) (kept : Option SchemaData) (o : Option DrawnTx) → AreOwn d.queues.mails → AreOwn (after_left d number committed kept o).queues.mails
own_left d number committed kept None all = all
own_left d number committed kept (Some t) all = own_queues_left d.queues (name_asked_by d.board.clients t.who) t.who t.kind committed kept all

pub own_after : (d : DeskState) (t : DeskStep) → AreOwn d.queues.mails → AreOwn (after d t).queues.mails
unfolding after
own_after d (step.Asks who name want) all = own_moved (is_name name) settled_name (after_ask d.queues who name want) (own_asked d.queues who name want all)
own_after d (step.Takes client) all = own_event d client (event_for d client) all
own_after d (step.Handles client) all = own_change d client (unhandled d.queues.names (changes_in d.board.clients client)) all
own_after d (step.Closes who) all = own_settled (closed d.queues who) (name_asked_by d.board.clients who) (own_closed d.queues who all)
own_after d (step.Creates number who scope m durability) all = own_created d who scope m (name_asked_by d.board.clients who) (schema_of d.queues who) all
own_after d (step.Starts client number) all = all
own_after d (step.Leaves client number ended kept) all = own_left d number (is_committed ended) kept (drawn_at d.board.drawn number) all
own_after d step.Faults all = own_sent_all (flat_map (λ n. (faulted_name n).sent) d.queues.names) (map lost_changes d.queues.mails) (own_lost_all d.queues.mails all)

-- ---- the event that is taken
own_of : (ms : List Mail) (client : ℕ) → AreOwn ms → AllByRecursion (IsOwn client) (events_of ms client)
own_of [] client all = tt
own_of (m ∷ ms) client all = elim (cases_Bool (is_mail client m)) [
  | inl is ↦ subst (λ b. AllByRecursion (IsOwn client) (if b then m.events else events_of ms client)) (sym is) (subst (λ n. AllByRecursion (IsOwn n) m.events) (equal m.client client is) all.0)
  | inr out ↦ subst (λ b. AllByRecursion (IsOwn client) (if b then m.events else events_of ms client)) (sym out) (own_of ms client all.1)
]

first_own : (client : ℕ) (es : List ClientEvent) (e : ClientEvent) → AllByRecursion (IsOwn client) es → slice_get es 0 ≡ Some e → (conn_of e).client ≡ client
first_own client [] e all k = cc
first_own client (x ∷ xs) e all k = ap (λ y. (conn_of y).client) (sym (some k)) ∙ all.0
  where
    some : {x y : ClientEvent} → Some x ≡ Some y → x ≡ y
    some k = cc

pub own_first : (d : DeskState) (client : ℕ) (e : ClientEvent) → AreOwn d.queues.mails → event_for d client ≡ Some e → (conn_of e).client ≡ client
own_first d client e all k = first_own client (events_of d.queues.mails client) e (own_of d.queues.mails client all) k
