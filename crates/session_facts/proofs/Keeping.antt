-- Each step of a client keeps a session fitting.
--     fresh_fitting         before any step
--     task_fitting, event_fitting, start_fitting, turn_fitting, finish_fitting, cancel_fitting      the steps
use Rattle.std.proofs.Common.{◌≡◌, ◌≢◌, ℕ, ◌+◌, true, false, not, if◌then◌else◌, List, [], ◌∷◌, ◌++◌, map, filter, length, slice_get, Option, Some, None, inl, inr, refl, sym, ◌∙◌, ap, subst}
use Rattle.std.specs.Prelude.{◌==◌}
use Rattle.std.specs.List.{AllByRecursion}
use Rattle.std.proofs.lemmas.Bool.{cases_Bool}
use Rattle.std.proofs.lemmas.Bool.Decides.{eqb_tells}
use Rattle.idb_schema.specs.Schemas.{SchemaData}
use Rattle.idb_calls.specs.declared.traces.Outcome.{Outcome}
use Rattle.name_queues.specs.declared.events.ClientEvent.{ClientEvent}
use Rattle.idb_desk.specs.Desks.{DeskState, drawn_at}
use Rattle.idb_desk.specs.Steps.{DeskRun, desk_run, with_step, IsDeskRun}
use Rattle.desk_steps.specs.declared.stands.DrawnTx.{DrawnTx}
use Rattle.desk_steps.specs.declared.steps.DeskStep.TheVariants as step
use Rattle.desk_facts.specs.Databases.{AreOpenable}
use Rattle.item_changes.specs.Items.{Items}
use Rattle.serial_order.specs.FinishEntries.{FinishEntry}
use Rattle.serial_order.specs.SerialRuns.{joined_lines}
use Rattle.script_statements.specs.declared.script.Client.{Client}
use Rattle.script_statements.specs.declared.script.ScriptSession.{ScriptSession}
use Rattle.script_runs.specs.declared.notes.Note.{Note}
use Rattle.script_runs.specs.declared.notes.Task.{Task}
use Rattle.script_handlers.specs.Handling.{Script}
use Rattle.client_machine.specs.Acts.{Told, Act, Noted, Makes, Fails, Begins, TakesTurn}
use Rattle.client_machine.specs.Answering.{MadeAtOnce}
use Rattle.client_machine.specs.ClientStates.{ClientTx, ClientTxKind, ClientState, is_tx, tx_at, without_tx, with_started, started_if, with_notes}
use Rattle.client_machine.specs.ClientSteps.{Meets, EndsTx, with_tasks}
use Rattle.client_machine.specs.TaskRuns.{RunsNow}
use Rattle.client_seats.specs.Seating.{SitsAlike}
use Rattle.client_seats.proofs.Laws.{seat_begins, seat_later, seat_started, seat_finished}
use Rattle.client_ties.proofs.Laws.{IsSound, is_tame, made_turns, made_before, grows_now, grows_event, grows_end}
use Rattle.session_states.specs.Sessions.{SeatNow, SessionNow, fresh_seats, fresh_session, with_seat, with_finished, with_fault}
use Rattle.session_states.specs.Telling.{RunningTx}
use Rattle.session_states.specs.UnderWay.{IsInStep}
use Rattle.session_states.specs.Moves.{Moves}
use Rattle.session_facts.specs.Fitting.{AreFew, FitsDrawn, FitsDesk, IsFitting}
use Rattle.session_facts.proofs.Allowing.{drawn_as}
use Rattle.session_facts.proofs.Carrying.{OpensWell, opens_made, step_txs, alike_fits, notes_alike, later_fits, carries_now, carries_event, carries_end, is_end_act, EndsNone, others_fit}
use Rattle.session_facts.proofs.Desk.{some_same, equal_self, unequal}
use Rattle.session_facts.proofs.Seats.{all_got, all_set, apart_numbers}

-- ---- before any step
fresh_seats_fit : (schemas : List SchemaData) (number : ℕ) (clients : List Client) → AllByRecursion (λ (s : SeatNow). FitsDesk (record { opening = schemas; order = [] }) s.client) (fresh_seats number clients)
fresh_seats_fit schemas number [] = tt
fresh_seats_fit schemas number (c ∷ cs) = (record { seated = seat_begins number c.main schemas; txs = tt }, fresh_seats_fit schemas (number + 1) cs)

pub fresh_fitting : (session : ScriptSession) (schemas : List SchemaData) (opening : Items) → AreOpenable schemas → AreFew schemas → IsFitting (fresh_session session.clients schemas opening)
fresh_fitting session schemas opening openable few = record { openable = openable; few = few; seats = fresh_seats_fit schemas 1 session.clients }

-- ---- acts that finish none
tame_ends : (number : ℕ) (a : Act) → is_tame a ≡ true → is_end_act number a ≡ false
tame_ends number (Noted n) tame = refl
tame_ends number (Makes (step.Asks who name want) told) tame = refl
tame_ends number (Makes (step.Takes client) told) tame = refl
tame_ends number (Makes (step.Handles client) told) tame = refl
tame_ends number (Makes (step.Closes who) told) tame = refl
tame_ends number (Makes (step.Creates n who scope m durability) told) tame = refl
tame_ends number (Makes (step.Starts client n) told) tame = cc
tame_ends number (Makes (step.Leaves client n ended kept) told) tame = cc
tame_ends number (Makes step.Faults told) tame = cc
tame_ends number (Fails t name) tame = refl
tame_ends number (Begins tx) tame = refl
tame_ends number (TakesTurn other notes) tame = refl

tame_all : (a : Act) (txs : List ClientTx) → is_tame a ≡ true → AllByRecursion (λ (tx : ClientTx). is_end_act tx.number a ≡ false) txs
tame_all a [] tame = tt
tame_all a (tx ∷ txs) tame = (tame_ends tx.number a tame, tame_all a txs tame)

tame_none : (acts : List Act) (txs : List ClientTx) → AllByRecursion (λ (a : Act). is_tame a ≡ true) acts → EndsNone acts txs
tame_none [] txs tame = tt
tame_none (a ∷ acts) txs tame = (tame_all a txs tame.0, tame_none acts txs tame.1)

-- ---- one client moves
module _ (session : ScriptSession) (opening : Items) (now : SessionNow) (running : Option RunningTx) (u : IsInStep session opening now running) (fitting : IsFitting now) where
  pub opens : OpensWell now.run
  opens = record { openable = fitting.openable; few = fitting.few }

  pub own_fits : (place : ℕ) (before : SeatNow) → slice_get now.seats place ≡ Some before → FitsDesk now.run before.client
  own_fits place before at = all_got (λ (s : SeatNow). FitsDesk now.run s.client) now.seats place before fitting.seats at

  moved : (place : ℕ) (before seat : SeatNow) (acts : List Act) (r : DeskRun) → slice_get now.seats place ≡ Some before → MadeAtOnce before.client.number now.run acts r → IsDeskRun r
      → ((other : ℕ) (its : SeatNow) → slice_get now.seats other ≡ Some its → its.client.number ≢ before.client.number → EndsNone acts its.client.txs)
      → FitsDesk r seat.client → IsFitting (with_seat place r seat now)
  moved place before seat acts r at made run ends fits =
      let w = opens_made before.client.number now.run r acts made opens in
      record {
        openable = w.openable;
        few = w.few;
        seats = all_set (λ (s : SeatNow). FitsDesk now.run s.client) (λ (s : SeatNow). FitsDesk r s.client) now.seats place seat
            (λ other its there out f.
            let apart = apart_numbers session opening now running place other before its u at there out in
            others_fit before.client.number its.client now.run r acts apart opens made run (ends other its there apart) f)
            fitting.seats fits;
      }

  tame_moved : (place : ℕ) (before seat : SeatNow) (acts : List Act) (r : DeskRun) → slice_get now.seats place ≡ Some before → MadeAtOnce before.client.number now.run acts r → IsDeskRun r
      → AllByRecursion (λ (a : Act). is_tame a ≡ true) acts → FitsDesk r seat.client → IsFitting (with_seat place r seat now)
  tame_moved place before seat acts r at made run tame fits = moved place before seat acts r at made run (λ other its there apart. tame_none acts its.client.txs tame) fits

  module _ (numbers : (r : DeskRun) → (desk_run r).board.scopes.next ≡ length (desk_run r).board.drawn + 1) (sound : (q : DeskRun) → IsDeskRun q → IsSound (desk_run q)) where
    pub task_fitting : (place : ℕ) (script : Client) (before seat : SeatNow) (acts : List Act) (r : DeskRun) (task : Task) (tasks : List Task) → Moves session now place script before acts r seat
        → RunsNow script.blocks (with_tasks before.client tasks) task.env (Some task.block) acts seat.client → IsFitting (with_seat place r seat now)
    task_fitting place script before seat acts r task tasks m runs =
        let carries = carries_now numbers script.blocks (with_tasks before.client tasks) task.env (Some task.block) acts seat.client runs in
        let grows = grows_now sound script.blocks (with_tasks before.client tasks) task.env (Some task.block) acts seat.client runs in
        let fits = alike_fits now.run before.client (with_tasks before.client tasks) (record { number = refl; opens = refl; txs = refl }) (own_fits place before m.seat_at) in
        tame_moved place before seat acts r m.seat_at m.made m.run grows.tame (carries.on now.run r opens m.made m.run fits)

    pub event_fitting : (place : ℕ) (script : Client) (before seat : SeatNow) (acts : List Act) (r : DeskRun) (e : ClientEvent) (told : Told) → Moves session now place script before (Makes (step.Takes before.client.number) told ∷ acts) r seat
        → told.event ≡ Some e → Meets script.blocks told before.client e acts seat.client → IsFitting (with_seat place r seat now)
    event_fitting place script before seat acts r e told m is meets =
        let carries = carries_event numbers script.blocks before.client e told acts seat.client is meets in
        let grows = grows_event sound script.blocks before.client e told acts seat.client is meets in
        tame_moved place before seat (Makes (step.Takes before.client.number) told ∷ acts) r m.seat_at m.made m.run grows.tame (carries.on now.run r opens m.made m.run (own_fits place before m.seat_at))

    -- ---- a transaction starts, or has a turn
    started_txs : (d : DeskState) (client number : ℕ) (txs : List ClientTx) → AllByRecursion (FitsDrawn d client) txs → AllByRecursion (FitsDrawn d client) (map (started_if number) txs)
    started_txs d client number [] all = tt
    started_txs d client number (tx ∷ txs) all = (
      elim (is_tx number tx) as (λ b. FitsDrawn d client (if b then record tx { started = true } else tx)) [
        | true ↦ record { drawn = all.0.drawn; name = all.0.name; there = all.0.there; client_is = all.0.client_is; fits = all.0.fits }
        | false ↦ all.0
      ],
      started_txs d client number txs all.1,
    )

    pub start_fitting : (place : ℕ) (script : Client) (before seat : SeatNow) (r : DeskRun) (number : ℕ) (told : Told) → Moves session now place script before (Makes (step.Starts before.client.number number) told ∷ []) r seat
        → seat.client ≡ with_started before.client number → IsFitting (with_seat place r seat now)
    start_fitting place script before seat r number told m is =
        let t = step.Starts before.client.number number in
        let made = m.made in
        let run : IsDeskRun (with_step now.run t) = subst IsDeskRun made.1.1 m.run in
        let later = later_fits now.run t before.client opens run refl (λ n. refl) (own_fits place before m.seat_at) in
        let fits : FitsDesk (with_step now.run t) (with_started before.client number) = record {
          seated = seat_started before.client (with_step now.run t) number later.seated;
          txs = started_txs (desk_run (with_step now.run t)) before.client.number number before.client.txs later.txs;
        } in
        moved place before seat (Makes t told ∷ []) r m.seat_at made m.run (λ other its there apart. (starts_none its.client.txs, tt))
        (subst (λ q. FitsDesk q seat.client) (sym made.1.1) (subst (FitsDesk (with_step now.run t)) (sym is) fits))
      where
        starts_none : (txs : List ClientTx) → AllByRecursion (λ (tx : ClientTx). is_end_act tx.number (Makes (step.Starts before.client.number number) told) ≡ false) txs
        starts_none [] = tt
        starts_none (tx ∷ txs) = (refl, starts_none txs)

    pub turn_fitting : (place : ℕ) (script : Client) (before seat : SeatNow) (r : DeskRun) (number : ℕ) (notes : List Note) → Moves session now place script before (TakesTurn number notes ∷ []) r seat
        → seat.client ≡ with_notes before.client notes → IsFitting (with_seat place r seat now)
    turn_fitting place script before seat r number notes m is =
        let fits = alike_fits now.run before.client (with_notes before.client notes) (notes_alike notes before.client) (own_fits place before m.seat_at) in
        moved place before seat (TakesTurn number notes ∷ []) r m.seat_at m.made m.run (λ other its there apart. (turns_none its.client.txs, tt))
        (subst (λ q. FitsDesk q seat.client) (sym m.made) (subst (FitsDesk now.run) (sym is) fits))
      where
        turns_none : (txs : List ClientTx) → AllByRecursion (λ (tx : ClientTx). is_end_act tx.number (TakesTurn number notes) ≡ false) txs
        turns_none [] = tt
        turns_none (tx ∷ txs) = (refl, turns_none txs)

    -- ---- a transaction leaves
    apart_left : (a b : ℕ) → (a == b) ≡ false → (b == a) ≡ false
    apart_left a b out = elim (eqb_tells b a) [
      | inl p ↦ absurd (no (sym (subst (λ n. (a == n) ≡ true) (sym p.1) (equal_self a)) ∙ out))
      | inr p ↦ p.0
    ]
      where
        no : true ≡ false → ⊥
        no k = cc

    left_txs : (d : DeskState) (client number : ℕ) (txs : List ClientTx) → AllByRecursion (FitsDrawn d client) txs
        → AllByRecursion (FitsDrawn d client) (filter (λ tx. not (is_tx number tx)) txs) × AllByRecursion (λ (tx : ClientTx). (number == tx.number) ≡ false) (filter (λ tx. not (is_tx number tx)) txs)
    left_txs d client number [] all = (tt, tt)
    left_txs d client number (tx ∷ txs) all =
        let rest = left_txs d client number txs all.1 in
        elim (cases_Bool (is_tx number tx)) [
          | inl is ↦ rw is rest
          | inr out ↦ rw out ((all.0, rest.0), (apart_left tx.number number out, rest.1))
        ]

    left_fits : (before : ClientState) (number : ℕ) (ended : Outcome) (kept : Option SchemaData) → IsDeskRun (with_step now.run (step.Leaves before.number number ended kept)) → FitsDesk now.run before
        → FitsDesk (with_step now.run (step.Leaves before.number number ended kept)) (without_tx before number)
    left_fits before number ended kept run f =
        let t = step.Leaves before.number number ended kept in
        let l = left_txs (desk_run now.run) before.number number before.txs f.txs in
        record {
          seated = seat_finished before (with_step now.run t) number (seat_later before now.run t f.seated refl);
          txs = step_txs now.run t before.number (filter (λ tx. not (is_tx number tx)) before.txs) opens run l.1 l.0;
        }

    -- a number is one client's alone
    others_stay : (place other : ℕ) (before its : SeatNow) (number : ℕ) (tx : ClientTx) (ended : Outcome) (kept : Option SchemaData) (told : Told) → slice_get now.seats place ≡ Some before → slice_get now.seats other ≡ Some its
        → its.client.number ≢ before.client.number → tx_at before.client number ≡ Some tx → AllByRecursion (λ (x : ClientTx). is_end_act x.number (Makes (step.Leaves before.client.number number ended kept) told) ≡ false) its.client.txs
    others_stay place other before its number tx ended kept told at there apart found =
        let own = drawn_as session opening now place before fitting at number tx found in
        each own.0 own.1 its.client.txs (own_fits other its there).txs
      where
        each : FitsDrawn (desk_run now.run) before.client.number tx → tx.number ≡ number → (txs : List ClientTx) → AllByRecursion (FitsDrawn (desk_run now.run) its.client.number) txs → AllByRecursion (λ (x : ClientTx). (number == x.number) ≡ false) txs
        each own is [] all = tt
        each own is (x ∷ xs) all =
            let d = desk_run now.run in (
              unequal number x.number (λ same.
                  let drawn : own.drawn ≡ all.0.drawn = some_same (sym own.there.drawn ∙ ap (drawn_at d.board.drawn) (is ∙ same) ∙ all.0.there.drawn) in
                  apart (sym all.0.client_is ∙ ap (λ (y : DrawnTx). y.who.client) (sym drawn) ∙ own.client_is)),
              each own is xs all.1,
            )

    leaves_moved : (place : ℕ) (script : Client) (before seat : SeatNow) (acts : List Act) (r : DeskRun) (number : ℕ) (tx : ClientTx) (outcome : Outcome) (kept : Option SchemaData) (told : Told) (mid : ClientState) (k : ClientTxKind) → slice_get now.seats place ≡ Some before
        → MadeAtOnce before.client.number now.run (Makes (step.Leaves before.client.number number outcome kept) told ∷ acts) r → IsDeskRun r → tx_at before.client number ≡ Some tx
        → SitsAlike (without_tx before.client number) mid → EndsTx script.blocks mid number outcome k acts seat.client → IsFitting (with_seat place r seat now)
    leaves_moved place script before seat acts r number tx outcome kept told mid k at made run found alike ends =
        let t = step.Leaves before.client.number number outcome kept in
        let next = with_step now.run t in
        let now_run : IsDeskRun next = made_before before.client.number next r acts made.1.1 run in
        let left = alike_fits next (without_tx before.client number) mid alike (left_fits before.client number outcome kept now_run (own_fits place before at)) in
        let carries = carries_end numbers script.blocks mid number outcome k acts seat.client ends in
        let tame = (grows_end sound script.blocks mid number outcome k acts seat.client ends).tame in
        let opens_next : OpensWell next = record { openable = fitting.openable; few = fitting.few } in
        let fits = carries.on next r opens_next (subst (λ n. MadeAtOnce n next acts r) (sym alike.number) made.1.1) run left in
        moved place before seat (Makes t told ∷ acts) r at made run
        (λ other its there apart. (others_stay place other before its number tx outcome kept told at there apart found, tame_none acts its.client.txs tame)) fits

    with_finish : (e : FinishEntry Script Note) (next : SessionNow) → IsFitting next → IsFitting (with_finished e next)
    with_finish e next f = record { openable = f.openable; few = f.few; seats = f.seats }

    pub finish_fitting : (place : ℕ) (script : Client) (before seat : SeatNow) (acts : List Act) (r : DeskRun) (number : ℕ) (told : Told) (tx : ClientTx) (outcome : Outcome) (kept : Option SchemaData) (e : FinishEntry Script Note)
        → Moves session now place script before (Makes (step.Leaves before.client.number number outcome kept) told ∷ acts) r seat → tx_at before.client number ≡ Some tx
        → EndsTx script.blocks (without_tx before.client number) number outcome tx.kind acts seat.client → IsFitting (with_finished e (with_seat place r seat now))
    finish_fitting place script before seat acts r number told tx outcome kept e m found ends =
        with_finish e (with_seat place r seat now)
        (leaves_moved place script before seat acts r number tx outcome kept told (without_tx before.client number) tx.kind m.seat_at m.made m.run found (record { number = refl; opens = refl; txs = refl }) ends)

    pub cancel_fitting : (place : ℕ) (script : Client) (before seat : SeatNow) (acts : List Act) (r : DeskRun) (number : ℕ) (told : Told) (tx : ClientTx) (turns : List (List Note)) (outcome : Outcome) (e : FinishEntry Script Note)
        → Moves session now place script before (map (TakesTurn number) turns ++ Makes (step.Leaves before.client.number number outcome None) told ∷ acts) r seat → tx_at before.client number ≡ Some tx
        → EndsTx script.blocks (with_notes (without_tx before.client number) (joined_lines turns)) number outcome tx.kind acts seat.client → IsFitting (with_finished e (with_seat place r seat now))
    cancel_fitting place script before seat acts r number told tx turns outcome e m found ends =
        let made = made_turns before.client.number number now.run r turns (Makes (step.Leaves before.client.number number outcome None) told ∷ acts) m.made in
        with_finish e (with_seat place r seat now)
        (leaves_moved place script before seat acts r number tx outcome None told (with_notes (without_tx before.client number) (joined_lines turns)) tx.kind m.seat_at made m.run found (notes_alike (joined_lines turns) (without_tx before.client number)) ends)

-- ---- the host is faulted
pub faults_fitting : (now : SessionNow) → IsFitting now → IsDeskRun (with_step now.run step.Faults) → IsFitting (with_fault now)
faults_fitting now f run = record { openable = f.openable; few = f.few; seats = each now.seats f.seats }
  where
    each : (ss : List SeatNow) → AllByRecursion (λ (s : SeatNow). FitsDesk now.run s.client) ss → AllByRecursion (λ (s : SeatNow). FitsDesk (with_step now.run step.Faults) s.client) ss
    each [] all = tt
    each (s ∷ ss) all = (later_fits now.run step.Faults s.client (record { openable = f.openable; few = f.few }) run refl (λ n. refl) all.0, each ss all.1)
