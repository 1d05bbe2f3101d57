-- Every step keeps an orderly desk orderly.
--     after_steps, after_taken      where queues, board and inboxes change
--     open_conn             a connection without close pending stands with its name
--     find_running          the name of what runs
--     orderly_step          each allowed step
use Rattle.std.proofs.Common.{◌≡◌, ◌≢◌, ◌≤◌, ℕ, ◌+◌, Bool, true, false, cond, List, [], ◌∷◌, length, slice_get, Option, Some, None, option_map, is_some, inl, inr, ◌⊎◌, refl, ap, sym, ◌∙◌, subst, arith}
use Rattle.std.specs.Prelude.{not, drop}
use Rattle.std.specs.List.{AllByRecursion, find}
use Rattle.std.proofs.lemmas.Bool.{cases_lt}
use Rattle.std.proofs.lemmas.Option.{none-some}
use Rattle.idb_keys.specs.declared.names.Mode.{Mode}
use Rattle.idb_schema.specs.Schemas.{SchemaData}
use Rattle.name_queues.specs.Names.{at_first, name_of, holds, conn_at, conn_in, with_conn, one_tx_more, version_of, is_id}
use Rattle.name_queues.specs.Mails.{Mail, conn_of, is_mail, events_of, taken_of, taken_mail}
use Rattle.name_queues.specs.declared.ids.ConnId.{ConnId}
use Rattle.name_queues.specs.declared.asks.Ask.{Ask}
use Rattle.name_queues.specs.declared.asks.Wants.{Wants}
use Rattle.name_queues.specs.declared.connections.Conn.{Conn}
use Rattle.name_queues.specs.declared.events.ClientEvent.{ClientEvent}
use Rattle.name_queues.specs.declared.events.ClientEvent.TheVariants as event
use Rattle.name_queues.specs.declared.names.Named.{Named}
use Rattle.connection_queues.specs.Machine.{QueueState, taken_event, names_after_event, handled, unhandled, closed, tx_begun, faulted_state, after_ask}
use Rattle.desk_steps.specs.declared.stands.DrawnTx.{DrawnTx}
use Rattle.desk_steps.specs.declared.stands.DeskRequest.{DeskRequest}
use Rattle.desk_steps.specs.declared.stands.Stand.{Stand}
use Rattle.desk_steps.specs.declared.stands.Stand.TheVariants as stand
use Rattle.desk_steps.specs.declared.stands.TxKind.{TxKind}
use Rattle.desk_steps.specs.declared.stands.TxKind.TheVariants as kind
use Rattle.desk_steps.specs.declared.stands.TxStage.{TxStage}
use Rattle.desk_steps.specs.declared.stands.TxStage.TheVariants as stage
use Rattle.idb_desk.specs.Desks.{DeskState, DeskBoard, ClientStand, name_asked_by, request_at, stand_of, stand_where, stood, at_desk_client, asks_of, request_in, drawn_at, with_stage}
use Rattle.idb_desk.specs.Queueing.{settled_at, settled_where}
use Rattle.idb_desk.specs.Refusals.{is_given, is_open_conn, is_finished_stage}
use Rattle.idb_desk.specs.Steps.{after_event, after_take, event_for, drawn_whole, with_clients, change_taken, changes_left, created_more, after_asked, handled_where, after_handled, after_closed, after_created, with_drawn_list}
use Rattle.queue_facts.specs.Counts.{one_if, Whole, tally, wait_count_of, runs_by, runs_where, of_request, txs_of, stands_of, one_end, one_begin, one_told}
use Rattle.queue_facts.specs.Shapes.{IsShaped, IsVersioned, StandsBy}
use Rattle.queue_facts.specs.Queued.{waiting, running, held_txs, ending, telling, IsOwned, IsQueued}
use Rattle.desk_facts.specs.Drawn.{whole_of_kind, plain_of_kind, unfinished_count, one_whole, one_plain, whole_by, plain_of}
use Rattle.desk_facts.specs.Orderly.{asked_at, IsOrderly}
use Rattle.queue_facts.proofs.Laws.{counts_itself, is_same, one_true, no_less, not_over, begun_changes, one_more, alone_held, tally_first, all_find}
use Rattle.desk_facts.proofs.States.{Steps, steps_on, steps_nowhere, settled_steps}
use Rattle.desk_facts.proofs.Calls.{quiet_steps, taken_names, taken_count, taken_box, taken_addressed, handled_steps, closed_steps, fault_steps}
use Rattle.desk_facts.proofs.Asks.{Asked, ask_steps}
use Rattle.desk_facts.proofs.Boards.{same_asks, stood_asks, stood_given, drawn_more, drawn_set}
use Rattle.desk_facts.proofs.Asking.{AsksOne, asks_one, with_ask, new_request}

-- ---- queues and board
pub after_steps : (d : DeskState) (less : ConnId → ℕ) (over : (ConnId → Whole → Bool) → ℕ) (r : QueueState) (b : DeskBoard) → IsOrderly d → Steps (asked_at d) less over d.queues r
    → ((x : ConnId) → name_asked_by b.clients x ≡ asked_at d x)
    → ((test : ConnId → Whole → Bool) → whole_by test b.drawn + over test ≡ whole_by test d.board.drawn)
    → ((x : ConnId) → plain_of x b.drawn + less x ≤ plain_of x d.board.drawn)
    → ((x : ConnId) → is_given (stand_of b.clients x) ≡ true → (is_given (stand_of d.board.clients x) ≡ true) ⊎ (waiting x r.names + running x r.names ≡ 0))
    → IsOrderly (record { queues = r; board = b })
after_steps d less over r b o s asks whole plain given = record {
  queued = subst (λ a. IsQueued a r.names r.mails) (λ i x. sym (asks x) i) s.queued;
  once = λ x. let p = s.once x in let q = o.once x in omega arith;
  begun = λ test. let p = s.begins test in let q = o.begun test in let w = whole test in omega arith;
  counted = λ x. let p = s.txs x in let q = o.counted x in let w = plain x in omega arith;
  given = λ x h. elim (given x h) [ inl g ↦ (let p = s.waits x in let q = o.given x g in omega arith) | inr g ↦ g ];
}

-- the queue of a name moves, where there is one
where_steps : (asked : ConnId → Option (List ℕ)) (less : ConnId → ℕ) (over : (ConnId → Whole → Bool) → ℕ) (q r : QueueState) (name : Option (List ℕ)) → Steps asked less over q r → Steps asked less over q (settled_where r name)
where_steps asked less over q r None s = s
where_steps asked less over q r (Some name) s = steps_on asked less over q r (settled_at r name) s (settled_steps asked name r s.queued)

-- ---- a client has handled an event, or closes a connection; the host is faulted
pub handled_orderly : (d : DeskState) (client : ℕ) (whos : List ConnId) → IsOrderly d → IsOrderly (after_handled d client whos)
handled_orderly d client whos o = after_steps d no_less not_over (handled_where d client whos) (with_clients d.board (at_desk_client client (changes_left (drop 1 whos)) d.board.clients)) o (queue whos) (λ x. ap (λ rs. option_map (λ r. r.name) (request_in rs x.request)) (asks x)) (λ test. omega arith) (λ x. omega arith) (λ x h. inl (sym (ap (λ rs. is_given (stand_where (request_in rs x.request))) (asks x)) ∙ h))
  where
    asks : (x : ConnId) → asks_of (at_desk_client client (changes_left (drop 1 whos)) d.board.clients) x.client ≡ asks_of d.board.clients x.client
    asks x = same_asks client x.client (changes_left (drop 1 whos)) d.board.clients (λ c. refl) (λ c. refl)

    queue : (ws : List ConnId) → Steps (asked_at d) no_less not_over d.queues (handled_where d client ws)
    queue [] = steps_nowhere (asked_at d) d.queues o.queued
    queue (who ∷ ws) = where_steps (asked_at d) no_less not_over d.queues (handled d.queues client) (name_asked_by d.board.clients who) (handled_steps (asked_at d) client (unhandled d.queues.names (taken_of d.queues.mails client)) d.queues o.queued)

given_but : (d : DeskState) (s : Stand) (who x : ConnId) → is_given s ≡ false → is_given (stand_of (stood s who d.board.clients) x) ≡ true → is_given (stand_of d.board.clients x) ≡ true
given_but d s who x n h = elim (stood_given s who x d.board.clients h) [ inl g ↦ g | inr g ↦ (let z : false ≡ true = sym n ∙ g.1 in cc) ]

pub closed_orderly : (d : DeskState) (who : ConnId) → IsOrderly d → IsOrderly (after_closed d who)
closed_orderly d who o = after_steps d no_less not_over (settled_where (closed d.queues who) (name_asked_by d.board.clients who)) (with_clients d.board (stood stand.Shut who d.board.clients)) o (where_steps (asked_at d) no_less not_over d.queues (closed d.queues who) (name_asked_by d.board.clients who) (closed_steps (asked_at d) who d.queues o.queued)) (λ x. stood_asks stand.Shut who x d.board.clients) (λ test. omega arith) (λ x. omega arith) (λ x h. inl (given_but d stand.Shut who x refl h))

pub faulted_orderly : (d : DeskState) → IsOrderly d → IsOrderly (record { queues = faulted_state d.queues; board = record d.board { is_faulted = true } })
faulted_orderly d o = after_steps d no_less not_over (faulted_state d.queues) (record d.board { is_faulted = true }) o (fault_steps (asked_at d) d.queues o.queued) (λ x. refl) (λ test. omega arith) (λ x. omega arith) (λ x h. inl h)

-- ---- a transaction starts
pub counts_on : (count : ℕ) (s : TxStage) → is_finished_stage s ≡ false → unfinished_count s count ≡ count
counts_on count stage.Created h = refl
counts_on count stage.Started h = refl
counts_on count stage.Finished h = cc

pub started_orderly : (d : DeskState) (number : ℕ) (t : DrawnTx) → drawn_at d.board.drawn number ≡ Some t → is_finished_stage t.stage ≡ false → IsOrderly d → IsOrderly (record { queues = d.queues; board = with_drawn_list d.board (with_stage stage.Started number d.board.drawn) })
started_orderly d number t e u o = after_steps d no_less not_over d.queues (with_drawn_list d.board (with_stage stage.Started number d.board.drawn)) o (steps_nowhere (asked_at d) d.queues o.queued) (λ x. refl)
    (λ test. let p = drawn_set (one_whole test) stage.Started number d.board.drawn t e in let c = counts_on (whole_of_kind test t.who t.kind) t.stage u in omega arith)
    (λ x. let p = drawn_set (one_plain x) stage.Started number d.board.drawn t e in let c = counts_on (plain_of_kind x t.who t.kind) t.stage u in omega arith)
    (λ x h. inl h)

-- ---- a client takes an event
pub after_taken : (d : DeskState) (client : ℕ) (e : ClientEvent) (es : List ClientEvent) (b : DeskBoard) → events_of d.queues.mails client ≡ e ∷ es → IsOrderly d
    → ((x : ConnId) → name_asked_by b.clients x ≡ asked_at d x)
    → ((test : ConnId → Whole → Bool) → whole_by test b.drawn ≡ whole_by test d.board.drawn + one_begin test e)
    → ((x : ConnId) → plain_of x b.drawn ≡ plain_of x d.board.drawn)
    → ((x : ConnId) → is_given (stand_of b.clients x) ≡ true → (is_given (stand_of d.board.clients x) ≡ true) ⊎ (one_end x e ≡ 1))
    → IsOrderly (record { queues = taken_event d.queues client (e ∷ es); board = b })
after_taken d client e es b h o asks whole plain given =
    let s = taken_names (asked_at d) e d.queues o.queued in
    let c = λ (count : ClientEvent → ℕ). taken_count count client d.queues.mails e es h in
    let mails = at_first (is_mail client) taken_mail d.queues.mails in
    let queued : IsQueued (asked_at d) (names_after_event e d.queues.names) mails = record {
      apart = s.queued.apart;
      shaped = s.queued.shaped;
      owned = s.queued.owned;
      told = λ x g. s.queued.told x (let p = c (one_told x) in omega arith);
      addressed = taken_addressed client d.queues.mails s.queued.addressed;
      boxed = λ x g. taken_box client x.client d.queues.mails ∙ s.queued.boxed x g;
    } in
    record {
      queued = subst (λ a. IsQueued a (names_after_event e d.queues.names) mails) (λ i x. sym (asks x) i) queued;
      once = λ x. let p = s.once x in let q = o.once x in let k = c (one_end x) in omega arith;
      begun = λ test. let p = s.begins test in let q = o.begun test in let k = c (one_begin test) in let w = whole test in omega arith;
      counted = λ x. let p = s.txs x in let q = o.counted x in let w = plain x in omega arith;
      given = λ x g. elim (given x g) [
        | inl f ↦ (let p = s.waits x in let q = o.given x f in omega arith)
        | inr f ↦ (let p = s.once x in let q = o.once x in let k = c (one_end x) in let w = s.waits x in omega arith)
      ];
    }

-- whose event it is asked
taken_asked : (d : DeskState) (client : ℕ) (e : ClientEvent) (es : List ClientEvent) → events_of d.queues.mails client ≡ e ∷ es → IsOrderly d → is_some (asked_at d (conn_of e)) ≡ true
taken_asked d client e es h o = o.queued.told (conn_of e) (let p = taken_count (one_told (conn_of e)) client d.queues.mails e es h in let i = counts_itself (conn_of e) in omega arith)

drawn_orderly : (d : DeskState) (client : ℕ) (e : ClientEvent) (es : List ClientEvent) (k : TxKind) (name : Option (List ℕ)) (cs : List ClientStand) → events_of d.queues.mails client ≡ e ∷ es → is_some name ≡ true → IsOrderly d
    → ((test : ConnId → Whole → Bool) → whole_of_kind test (conn_of e) k ≡ one_begin test e) → ((x : ConnId) → plain_of_kind x (conn_of e) k ≡ 0)
    → ((x : ConnId) → name_asked_by cs x ≡ asked_at d x) → ((x : ConnId) → is_given (stand_of cs x) ≡ true → is_given (stand_of d.board.clients x) ≡ true)
    → IsOrderly (record { queues = taken_event d.queues client (e ∷ es); board = with_clients (drawn_whole d.board (conn_of e) k name) cs })
drawn_orderly d client e es k None cs h n o whole plain asks given = cc
drawn_orderly d client e es k (Some name) cs h n o whole plain asks given = after_taken d client e es (with_clients (drawn_whole d.board (conn_of e) k (Some name)) cs) h o asks
    (λ test. let p = drawn_more (one_whole test) d.board.drawn (record { who = conn_of e; kind = k; stage = stage.Created }) in let w = whole test in omega arith)
    (λ x. let p = drawn_more (one_plain x) d.board.drawn (record { who = conn_of e; kind = k; stage = stage.Created }) in let w = plain x in omega arith)
    (λ x g. inl (given x g))

event_orderly : (d : DeskState) (client : ℕ) (e : ClientEvent) (es : List ClientEvent) → events_of d.queues.mails client ≡ e ∷ es → IsOrderly d → IsOrderly (record { queues = taken_event d.queues client (e ∷ es); board = after_event d.board e })
event_orderly d client (event.Upgrade who old new) es h o = drawn_orderly d client (event.Upgrade who old new) es (kind.Upgrade new) (name_asked_by d.board.clients who) (stood stand.Upgrading who d.board.clients) h (taken_asked d client (event.Upgrade who old new) es h o) o (λ test. refl) (λ x. refl) (λ x. stood_asks stand.Upgrading who x d.board.clients) (λ x g. given_but d stand.Upgrading who x refl g)
event_orderly d client (event.Blocked who old new) es h o = after_taken d client (event.Blocked who old new) es d.board h o (λ x. refl) (λ test. omega arith) (λ x. refl) (λ x g. inl g)
event_orderly d client (event.Success who version) es h o = after_taken d client (event.Success who version) es (with_clients d.board (stood stand.Given who d.board.clients)) h o (λ x. stood_asks stand.Given who x d.board.clients) (λ test. omega arith) (λ x. refl) (λ x g. ends_it x g)
  where
    ends_it : (x : ConnId) → is_given (stand_of (stood stand.Given who d.board.clients) x) ≡ true → (is_given (stand_of d.board.clients x) ≡ true) ⊎ (one_end x (event.Success who version) ≡ 1)
    ends_it x g = elim (stood_given stand.Given who x d.board.clients g) [ inl f ↦ inl f | inr f ↦ inr (ap (λ w. one_if (is_id who w)) f.0 ∙ counts_itself who) ]
event_orderly d client (event.Error who name) es h o = after_taken d client (event.Error who name) es d.board h o (λ x. refl) (λ test. omega arith) (λ x. refl) (λ x g. inl g)
event_orderly d client (event.VersionChange who old new) es h o = after_taken d client (event.VersionChange who old new) es (with_clients d.board (at_desk_client who.client (change_taken who) d.board.clients)) h o (λ x. ap (λ rs. option_map (λ r. r.name) (request_in rs x.request)) (asks x)) (λ test. omega arith) (λ x. refl) (λ x g. inl (sym (ap (λ rs. is_given (stand_where (request_in rs x.request))) (asks x)) ∙ g))
  where
    asks : (x : ConnId) → asks_of (at_desk_client who.client (change_taken who) d.board.clients) x.client ≡ asks_of d.board.clients x.client
    asks x = same_asks who.client x.client (change_taken who) d.board.clients (λ c. refl) (λ c. refl)
event_orderly d client (event.Closed who) es h o = after_taken d client (event.Closed who) es d.board h o (λ x. refl) (λ test. omega arith) (λ x. refl) (λ x g. inl g)
event_orderly d client (event.DeleteReady who old) es h o = ready_orderly (name_asked_by d.board.clients who) (taken_asked d client (event.DeleteReady who old) es h o)
  where
    ready_orderly : (name : Option (List ℕ)) → is_some name ≡ true → IsOrderly (record { queues = taken_event d.queues client (event.DeleteReady who old ∷ es); board = drawn_whole d.board who kind.Deletion name })
    ready_orderly None n = cc
    ready_orderly (Some name) n = after_taken d client (event.DeleteReady who old) es (drawn_whole d.board who kind.Deletion (Some name)) h o (λ x. refl)
        (λ test. let p = drawn_more (one_whole test) d.board.drawn (record { who = who; kind = kind.Deletion; stage = stage.Created }) in omega arith)
        (λ x. let p = drawn_more (one_plain x) d.board.drawn (record { who = who; kind = kind.Deletion; stage = stage.Created }) in omega arith)
        (λ x g. inl g)

-- the desk after the oldest of these events was taken
abbrev took : DeskState → ℕ → List ClientEvent → DeskState
took d client [] = d
took d client (e ∷ es) = record { queues = taken_event d.queues client (e ∷ es); board = after_event d.board e }

took_is : (d : DeskState) (client : ℕ) (es : List ClientEvent) → events_of d.queues.mails client ≡ es → after_take d client (slice_get es 0) ≡ took d client es
took_is d client [] h = refl
took_is d client (e ∷ es) h = ap (λ vs. record { queues = taken_event d.queues client vs; board = after_event d.board e }) h

took_orderly : (d : DeskState) (client : ℕ) (es : List ClientEvent) → events_of d.queues.mails client ≡ es → IsOrderly d → IsOrderly (took d client es)
took_orderly d client [] h o = o
took_orderly d client (e ∷ es) h o = event_orderly d client e es h o

pub take_orderly : (d : DeskState) (client : ℕ) → IsOrderly d → IsOrderly (after_take d client (event_for d client))
take_orderly d client o = subst IsOrderly (sym (took_is d client (events_of d.queues.mails client) refl)) (took_orderly d client (events_of d.queues.mails client) refl o)

-- ---- an open or a delete is asked

all_zero : {A : Type 0} (P : A → Type 0) (count : A → ℕ) (xs : List A) → ((x : A) → P x → count x ≡ 0) → AllByRecursion P xs → tally count xs ≡ 0
all_zero P count [] f h = refl
all_zero P count (x ∷ xs) f h = let p = all_zero P count xs f h.1 in let q = f x h.0 in omega arith

named_by : (o : Option DeskRequest) (w : List ℕ) → option_map (λ r. r.name) o ≡ Some w → (r : DeskRequest) × (o ≡ Some r) × (r.name ≡ w)
named_by None w h = absurd (none-some w h)
named_by (Some r) w h = (r, refl, cc)

some_named : (o : Option DeskRequest) → is_some (option_map (λ r. r.name) o) ≡ true → (r : DeskRequest) × (o ≡ Some r)
some_named None h = cc
some_named (Some r) h = (r, refl)

given_request : (o : Option DeskRequest) → is_given (stand_where o) ≡ true → (r : DeskRequest) × (o ≡ Some r)
given_request None h = cc
given_request (Some r) h = (r, refl)

kept_at : (d : DeskState) (who : ConnId) (name : List ℕ) → AsksOne who name d.board.clients → (x : ConnId) (w : List ℕ) → asked_at d x ≡ Some w → name_asked_by (with_ask who name d.board.clients) x ≡ Some w
kept_at d who name a x w h = let r = named_by (request_at d.board.clients x) w h in ap (option_map (λ r. r.name)) (a.kept x r.0 r.1) ∙ ap Some r.2

only_at : (d : DeskState) (who : ConnId) (name : List ℕ) → AsksOne who name d.board.clients → (x : ConnId) → is_some (name_asked_by (with_ask who name d.board.clients) x) ≡ true → (is_some (asked_at d x) ≡ true) ⊎ (x ≡ who)
only_at d who name a x h = let r = some_named (request_at (with_ask who name d.board.clients) x) h in elim (a.either x r.0 r.1) [
  | inl e ↦ inl (ap (λ o. is_some (option_map (λ q. q.name) o)) e)
  | inr e ↦ inr e.0
]

pub asked_steps : (d : DeskState) (who : ConnId) (name : List ℕ) (want : Wants) → IsVersioned want → who.request ≡ length (asks_of d.board.clients who.client) + 1 → IsOrderly d → Asked (name_asked_by (with_ask who name d.board.clients)) who d.queues (after_ask d.queues who name want)
asked_steps d who name want v number o =
    let a = asks_one who name d.board.clients number in
    ask_steps (asked_at d) (name_asked_by (with_ask who name d.board.clients)) who name want (ap (option_map (λ r. r.name)) a.nowhere) (ap (option_map (λ r. r.name)) a.here) (kept_at d who name a) (only_at d who name a) v d.queues o.queued

-- what was asked before stays
pub ask_kept : (d : DeskState) (who : ConnId) (name : List ℕ) → who.request ≡ length (asks_of d.board.clients who.client) + 1 → (x : ConnId) (w : List ℕ) → asked_at d x ≡ Some w → name_asked_by (with_ask who name d.board.clients) x ≡ Some w
ask_kept d who name number x w h = kept_at d who name (asks_one who name d.board.clients number) x w h

pub ask_noted : (d : DeskState) (who : ConnId) (name : List ℕ) → who.request ≡ length (asks_of d.board.clients who.client) + 1 → name_asked_by (with_ask who name d.board.clients) who ≡ Some name
ask_noted d who name number = ap (option_map (λ r. r.name)) (asks_one who name d.board.clients number).here

pub asked_orderly : (d : DeskState) (who : ConnId) (name : List ℕ) (want : Wants) → IsVersioned want → who.request ≡ length (asks_of d.board.clients who.client) + 1 → IsOrderly d → IsOrderly (after_asked d who name want)
asked_orderly d who name want v number o =
    let a = asks_one who name d.board.clients number in
    let old : asked_at d who ≡ None = ap (option_map (λ r. r.name)) a.nowhere in
    let then = name_asked_by (with_ask who name d.board.clients) in
    let s = asked_steps d who name want v number o in
    let t = settled_steps then name (after_ask d.queues who name want) s.queued in
    let nothing = zero_at old in
    record {
      queued = t.queued;
      once = λ x. let p = s.once x in let q = t.once x in let r = o.once x in elim (cases_lt 0 (one_if (is_id who x))) [
        | inl i ↦ (let z : waiting x d.queues.names + running x d.queues.names + ending x d.queues.mails ≡ 0 = subst (λ y. waiting y d.queues.names + running y d.queues.names + ending y d.queues.mails ≡ 0) (is_same who x (one_true (is_id who x) i)) nothing in let m = at_most (is_id who x) in omega arith)
        | inr i ↦ omega arith
      ];
      begun = λ test. let p = s.begins test in let q = t.begins test in let r = o.begun test in omega arith;
      counted = λ x. let p = s.txs x in let q = t.txs x in let r = o.counted x in omega arith;
      given = λ x h. let g = given_at a x h in let p = s.waits x in let q = t.waits x in let r = o.given x g.0 in elim (cases_lt 0 (one_if (is_id who x))) [
        | inl i ↦ absurd (g.1 (sym (is_same who x (one_true (is_id who x) i))))
        | inr i ↦ omega arith
      ];
    }
  where
    at_most : (b : Bool) → one_if b ≤ 1
    at_most true = omega arith
    at_most false = omega arith

    zero_at : asked_at d who ≡ None → waiting who d.queues.names + running who d.queues.names + ending who d.queues.mails ≡ 0
    zero_at old =
        let w = all_zero (IsOwned (asked_at d)) (wait_count_of who) d.queues.names (λ n f. elim (cases_lt 0 (stands_of who n)) [ inl p ↦ absurd (none-some (name_of n) (sym old ∙ f who p)) | inr p ↦ omega arith ]) o.queued.owned in
        let r = all_zero (IsOwned (asked_at d)) (runs_by (of_request who)) d.queues.names (λ n f. elim (cases_lt 0 (stands_of who n)) [ inl p ↦ absurd (none-some (name_of n) (sym old ∙ f who p)) | inr p ↦ omega arith ]) o.queued.owned in
        let t : telling who d.queues.mails ≡ 0 = elim (cases_lt 0 (telling who d.queues.mails)) [ inl p ↦ (let z : is_some (asked_at d who) ≡ true = o.queued.told who p in let y : is_some (asked_at d who) ≡ false = ap is_some old in cc) | inr p ↦ omega arith ] in
        let e = ends_told d.queues.mails in
        omega arith
      where
        end_told : (e : ClientEvent) → one_end who e ≤ one_told who e
        end_told (event.Upgrade conn a b) = omega arith
        end_told (event.Blocked conn a b) = omega arith
        end_told (event.Success conn a) = omega arith
        end_told (event.Error conn a) = omega arith
        end_told (event.VersionChange conn a b) = omega arith
        end_told (event.Closed conn) = omega arith
        end_told (event.DeleteReady conn a) = omega arith

        events_told : (es : List ClientEvent) → tally (one_end who) es ≤ tally (one_told who) es
        events_told [] = omega arith
        events_told (e ∷ es) = let p = end_told e in let q = events_told es in omega arith

        ends_told : (ms : List Mail) → ending who ms ≤ telling who ms
        ends_told [] = omega arith
        ends_told (m ∷ ms) = let p = events_told m.events in let q = ends_told ms in omega arith

    given_at : AsksOne who name d.board.clients → (x : ConnId) → is_given (stand_of (with_ask who name d.board.clients) x) ≡ true → (is_given (stand_of d.board.clients x) ≡ true) × (x ≢ who)
    given_at a x h = let r = given_request (request_at (with_ask who name d.board.clients) x) h in elim (a.either x r.0 r.1) [
      | inl e ↦ (ap (λ o. is_given (stand_where o)) (e ∙ sym r.1) ∙ h, λ same. absurd (none-some r.0 (sym (ap (request_at d.board.clients) same ∙ a.nowhere) ∙ e)))
      | inr e ↦ (let z : is_given (new_request name).stand ≡ true = sym (ap (λ (q : DeskRequest). is_given q.stand) e.1) ∙ (sym (ap (λ o. is_given (stand_where o)) r.1) ∙ h) in cc)
    ]

-- ---- a client creates a transaction
-- a connection without close pending, with its name
pub record IsOpenAt (who : ConnId) (names : List Named) : Type 0 where
  pub named : Named
  pub found : find (holds who) names ≡ Some named
  pub conn : Conn
  pub held : conn_at named who ≡ Some conn
  pub still : conn.is_closing ≡ false

open_here : (o : Option Conn) → is_open_conn o ≡ true → (k : Conn) × (o ≡ Some k) × (k.is_closing ≡ false)
open_here None h = cc
open_here (Some k) h = (k, refl, not_closing k.is_closing h)
  where
    not_closing : (b : Bool) → not b ≡ true → b ≡ false
    not_closing true e = cc
    not_closing false e = refl

pub open_conn : (who : ConnId) (names : List Named) → is_open_conn (conn_in names who) ≡ true → IsOpenAt who names
open_conn who [] = λ h. cc
open_conn who (n ∷ ns) = elim (holds who n) as (λ b. holds who n ≡ b → is_open_conn (cond b (conn_at n who) (conn_in ns who)) ≡ true → IsOpenAt who (n ∷ ns)) [
  | true ↦ λ e h. (let k = open_here (conn_at n who) h in record { named = n; found = ap (λ b. cond b (Some n) (find (holds who) ns)) e; conn = k.0; held = k.1; still = k.2 })
  | false ↦ λ e h. (let r = open_conn who ns h in record { named = r.named; found = ap (λ b. cond b (Some n) (find (holds who) ns)) e ∙ r.found; conn = r.conn; held = r.held; still = r.still })
] refl

pub tally_part : {A : Type 0} (count : A → ℕ) (test : A → Bool) (xs : List A) (x : A) → find test xs ≡ Some x → count x ≤ tally count xs
tally_part count test [] x = λ h. absurd (none-some x h)
tally_part count test (y ∷ ys) x = elim (test y) as (λ b. cond b (Some y) (find test ys) ≡ Some x → count x ≤ count y + tally count ys) [
  | true ↦ λ h. (let s : y ≡ x = cc in let p = ap count s in omega arith)
  | false ↦ λ h. (let r = tally_part count test ys x h in omega arith)
]

-- where its connection is held and it doesn't run, nothing runs
pub idle_where : (who : ConnId) (n : Named) (k : Conn) → conn_at n who ≡ Some k → runs_by (of_request who) n ≡ 0 → IsShaped n → n.running ≡ None
idle_where who n k h z s = by_running n.running refl
  where
    by_running : (o : Option Ask) → n.running ≡ o → n.running ≡ None
    by_running None e = e
    by_running (Some ask) e =
        let t : StandsBy n.database n.traffic.conns (Some ask) = subst (StandsBy n.database n.traffic.conns) e s.stands in
        let i : is_id ask.who who ≡ true = alone_held who ask.who ask.wants k n.traffic.conns h t.0 in
        let r : runs_by (of_request who) n ≡ 1 = ap (runs_where (of_request who) (version_of n)) e ∙ ap one_if i in
        absurd (omega arith)

module _ (d : DeskState) (who : ConnId) (o : IsOrderly d) (g : is_given (stand_of d.board.clients who) ≡ true) (c : IsOpenAt who d.queues.names) where
  idle_found : (n : Named) → find (holds who) d.queues.names ≡ Some n → n.running ≡ None
  idle_found n e =
      let z = o.given who g in
      let p = tally_part (runs_by (of_request who)) (holds who) d.queues.names n e in
      let same : c.named ≡ n = (let q : Some c.named ≡ Some n = sym c.found ∙ e in cc) in
      idle_where who n c.conn (subst (λ m. conn_at m who ≡ Some c.conn) same c.held) (omega arith) (all_find IsShaped (holds who) d.queues.names n o.queued.shaped e)

  begun_steps : Steps (asked_at d) no_less not_over d.queues (tx_begun d.queues who)
  begun_steps = quiet_steps (asked_at d) (holds who) (λ n. with_conn who one_tx_more n) d.queues o.queued (λ n e h. begun_changes who n (idle_found n e) h)

  more_held : (x : ConnId) → held_txs x d.queues.names + one_if (is_id who x) ≤ held_txs x (tx_begun d.queues who).names
  more_held x =
      let n = c.named in
      let p = tally_first (txs_of x) (holds who) (λ m. with_conn who one_tx_more m) d.queues.names n c.found in
      elim (cases_lt 0 (one_if (is_id who x))) [
        | inl i ↦ (let q : txs_of x (with_conn who one_tx_more n) ≡ txs_of x n + 1 = subst (λ y. txs_of y (with_conn who one_tx_more n) ≡ txs_of y n + 1) (is_same who x (one_true (is_id who x) i)) (one_more who c.conn n c.held) in let m = at_most (is_id who x) in omega arith)
        | inr i ↦ (let q = (begun_changes who n (idle_found n c.found) (all_find IsShaped (holds who) d.queues.names n o.queued.shaped c.found)).txs x in omega arith)
      ]
    where
      at_most : (b : Bool) → one_if b ≤ 1
      at_most true = omega arith
      at_most false = omega arith

  pub created_orderly : (scope : List (List ℕ)) (m : Mode) (name : Option (List ℕ)) (schema : Option SchemaData) → IsOrderly (after_created d who scope m name schema)
  created_orderly scope m None schema = o
  created_orderly scope m (Some name) None = o
  created_orderly scope m (Some name) (Some schema) =
      let s = begun_steps in
      record {
        queued = subst (λ a. IsQueued a (tx_begun d.queues who).names (tx_begun d.queues who).mails) (λ i x. option_map (λ r. r.name) (request_in (sym (asks x) i) x.request)) s.queued;
        once = λ x. let p = s.once x in let q = o.once x in omega arith;
        begun = λ test. let p = s.begins test in let q = o.begun test in let w = drawn_more (one_whole test) d.board.drawn (record { who = who; kind = kind.Plain; stage = stage.Created }) in omega arith;
        counted = λ x. let p = more_held x in let q = o.counted x in let w = drawn_more (one_plain x) d.board.drawn (record { who = who; kind = kind.Plain; stage = stage.Created }) in omega arith;
        given = λ x h. let p = s.waits x in let q = o.given x (sym (ap (λ rs. is_given (stand_where (request_in rs x.request))) (asks x)) ∙ h) in omega arith;
      }
    where
      asks : (x : ConnId) → asks_of (at_desk_client who.client created_more d.board.clients) x.client ≡ asks_of d.board.clients x.client
      asks x = same_asks who.client x.client created_more d.board.clients (λ k. refl) (λ k. refl)
