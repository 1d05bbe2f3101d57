-- The laws of the steps of a session that its driver can go on with: those of a session under way, of what fits and of what is shown.
--     TaskLaw, EventLaw     a task, and an event
--     StartLaw, TurnLaw, FinishLaw, CancelLaw, HostLaw, DoubtLaw    a transaction
--     driven_task, driven_event, driven_start, driven_turn, driven_finish, driven_cancel, driven_host, driven_doubt     by the laws of the three
--     FaultLaws, UndoneLaw  what the fault of the host keeps;  what didn't commit leaves what was logged
--     never_commits         one that never started doesn't commit
use Rattle.std.proofs.Common.{◌≡◌, ℕ, Bool, true, false, List, [], ◌∷◌, ◌++◌, map, Option, Some, None, refl, sym, ◌∙◌, ap}
use Rattle.idb_schema.specs.Schemas.{SchemaData}
use Rattle.idb_calls.specs.Deltas.{DeltaTree}
use Rattle.idb_calls.specs.declared.traces.Outcome.{Outcome}
use Rattle.name_queues.specs.declared.events.ClientEvent.{ClientEvent}
use Rattle.desk_steps.specs.declared.steps.DeskStep.TheVariants as step
use Rattle.idb_desk.specs.Steps.{DeskRun, desk_run, with_step, IsDeskRun}
use Rattle.item_changes.specs.Items.{Items}
use Rattle.item_changes.specs.Scopes.{part_of}
use Rattle.log_history.specs.Batching.{records_of_commits}
use Rattle.log_history.specs.Replayed.{after_records}
use Rattle.serial_order.specs.FinishEntries.{TxBody, Scripted, Deletion, FinishEntry, scope_of_body, did_commit}
use Rattle.serial_order.specs.SerialRuns.{joined_lines, RunsOn, NeverStarts}
use Rattle.script_statements.specs.declared.script.Client.{Client}
use Rattle.script_statements.specs.declared.script.ScriptSession.{ScriptSession}
use Rattle.script_runs.specs.declared.notes.Note.{Note}
use Rattle.script_runs.specs.declared.notes.Task.{Task}
use Rattle.script_handlers.specs.Handling.{Script, ScriptReacts, ScriptWrites}
use Rattle.client_machine.specs.Acts.{Told, Act, Makes, TakesTurn}
use Rattle.client_machine.specs.ClientStates.{ClientTx, tx_at, without_tx, with_started, with_notes}
use Rattle.client_machine.specs.ClientSteps.{Meets, EndsTx, may_begin, with_tasks}
use Rattle.client_machine.specs.TaskRuns.{RunsNow}
use Rattle.client_ties.specs.Unfinished.{least_of}
use Rattle.client_ties.proofs.Laws.{made_before}
use Rattle.legal_sessions.specs.Legal.{is_in_doubt, may_write}
use Rattle.session_states.specs.Sessions.{SeatNow, SessionNow, with_seat, with_finished, with_fault}
use Rattle.session_states.specs.Telling.{RunningTx}
use Rattle.session_states.specs.UnderWay.{IsInStep, IsUnderWay}
use Rattle.session_states.specs.Moves.{Moves, entry_ran, entry_dropped, entry_by_host}
use Rattle.session_limits.specs.Fitting.{IsFitting}
use Rattle.session_limits.specs.Showing.{IsShown, IsSoundKept}
use Rattle.office_scenes.specs.Scenes.{IsDriven}
use Rattle.office_scenes.specs.Running.{outcome_in_doubt, LeavesSound}
use Rattle.office_scenes.proofs.Logging.{LogLaws, finish_logged}

-- ---- a task
abbrev UnderTask : Type 0
UnderTask = (session : ScriptSession) (opening : Items) (now : SessionNow) (running : Option RunningTx) (place : ℕ) (script : Client) (before seat : SeatNow) (acts : List Act) (r : DeskRun) (task : Task) (tasks : List Task)
    → IsUnderWay session opening now running → Moves session now place script before acts r seat → before.client.tasks ≡ task ∷ tasks
    → RunsNow script.blocks (with_tasks before.client tasks) task.env (Some task.block) acts seat.client → IsUnderWay session opening (with_seat place r seat now) running

abbrev FitTask : Type 0
FitTask = (session : ScriptSession) (opening : Items) (now : SessionNow) (running : Option RunningTx) (place : ℕ) (script : Client) (before seat : SeatNow) (acts : List Act) (r : DeskRun) (task : Task) (tasks : List Task)
    → IsInStep session opening now running → IsFitting now → Moves session now place script before acts r seat
    → RunsNow script.blocks (with_tasks before.client tasks) task.env (Some task.block) acts seat.client → IsFitting (with_seat place r seat now)

abbrev ShowTask : Type 0
ShowTask = (session : ScriptSession) (opening : Items) (now : SessionNow) (running : Option RunningTx) (place : ℕ) (script : Client) (before seat : SeatNow) (acts : List Act) (r : DeskRun) (task : Task) (tasks : List Task)
    → IsInStep session opening now running → IsFitting now → IsShown now → Moves session now place script before acts r seat
    → RunsNow script.blocks (with_tasks before.client tasks) task.env (Some task.block) acts seat.client → IsShown (with_seat place r seat now)

abbrev pub TaskLaw : Type 0
TaskLaw = (session : ScriptSession) (opening : Items) (now : SessionNow) (running : Option RunningTx) (place : ℕ) (script : Client) (before seat : SeatNow) (acts : List Act) (r : DeskRun) (task : Task) (tasks : List Task)
    → IsDriven session opening now running → Moves session now place script before acts r seat → before.client.tasks ≡ task ∷ tasks
    → RunsNow script.blocks (with_tasks before.client tasks) task.env (Some task.block) acts seat.client → IsDriven session opening (with_seat place r seat now) running

pub driven_task : UnderTask → FitTask → ShowTask → TaskLaw
driven_task under fit show session opening now running place script before seat acts r task tasks d m first runs = record {
  under_way = under session opening now running place script before seat acts r task tasks d.under_way m first runs;
  fits = fit session opening now running place script before seat acts r task tasks d.under_way.in_step d.fits m runs;
  shown = show session opening now running place script before seat acts r task tasks d.under_way.in_step d.fits d.shown m runs;
  opened = d.opened;
  logged = d.logged;
}

-- ---- an event
abbrev UnderEvent : Type 0
UnderEvent = (session : ScriptSession) (opening : Items) (now : SessionNow) (running : Option RunningTx) (place : ℕ) (script : Client) (before seat : SeatNow) (acts : List Act) (r : DeskRun) (e : ClientEvent) (told : Told)
    → IsUnderWay session opening now running → Moves session now place script before (Makes (step.Takes before.client.number) told ∷ acts) r seat → before.client.tasks ≡ [] → told.event ≡ Some e
    → Meets script.blocks told before.client e acts seat.client → IsUnderWay session opening (with_seat place r seat now) running

abbrev FitEvent : Type 0
FitEvent = (session : ScriptSession) (opening : Items) (now : SessionNow) (running : Option RunningTx) (place : ℕ) (script : Client) (before seat : SeatNow) (acts : List Act) (r : DeskRun) (e : ClientEvent) (told : Told)
    → IsInStep session opening now running → IsFitting now → Moves session now place script before (Makes (step.Takes before.client.number) told ∷ acts) r seat → told.event ≡ Some e
    → Meets script.blocks told before.client e acts seat.client → IsFitting (with_seat place r seat now)

abbrev ShowEvent : Type 0
ShowEvent = (session : ScriptSession) (opening : Items) (now : SessionNow) (running : Option RunningTx) (place : ℕ) (script : Client) (before seat : SeatNow) (acts : List Act) (r : DeskRun) (e : ClientEvent) (told : Told)
    → IsInStep session opening now running → IsFitting now → IsShown now → Moves session now place script before (Makes (step.Takes before.client.number) told ∷ acts) r seat → told.event ≡ Some e
    → Meets script.blocks told before.client e acts seat.client → IsShown (with_seat place r seat now)

abbrev pub EventLaw : Type 0
EventLaw = (session : ScriptSession) (opening : Items) (now : SessionNow) (running : Option RunningTx) (place : ℕ) (script : Client) (before seat : SeatNow) (acts : List Act) (r : DeskRun) (e : ClientEvent) (told : Told)
    → IsDriven session opening now running → Moves session now place script before (Makes (step.Takes before.client.number) told ∷ acts) r seat → before.client.tasks ≡ [] → told.event ≡ Some e
    → Meets script.blocks told before.client e acts seat.client → IsDriven session opening (with_seat place r seat now) running

pub driven_event : UnderEvent → FitEvent → ShowEvent → EventLaw
driven_event under fit show session opening now running place script before seat acts r e told d m idle is meets = record {
  under_way = under session opening now running place script before seat acts r e told d.under_way m idle is meets;
  fits = fit session opening now running place script before seat acts r e told d.under_way.in_step d.fits m is meets;
  shown = show session opening now running place script before seat acts r e told d.under_way.in_step d.fits d.shown m is meets;
  opened = d.opened;
  logged = d.logged;
}

-- ---- a start
abbrev UnderStart : Type 0
UnderStart = (session : ScriptSession) (opening : Items) (now : SessionNow) (place : ℕ) (script : Client) (before seat : SeatNow) (r : DeskRun) (number : ℕ) (told : Told) (tx : ClientTx)
    → IsUnderWay session opening now None → Moves session now place script before (Makes (step.Starts before.client.number number) told ∷ []) r seat → least_of (desk_run now.run) ≡ Some number → before.client.tasks ≡ []
    → tx_at before.client number ≡ Some tx → tx.started ≡ false → may_begin tx.body ≡ true → seat.client ≡ with_started before.client number
    → IsUnderWay session opening (with_seat place r seat now) (Some (record { number = number; body = tx.body; turns = [] }))

abbrev FitStart : Type 0
FitStart = (session : ScriptSession) (opening : Items) (now : SessionNow) (running : Option RunningTx) (place : ℕ) (script : Client) (before seat : SeatNow) (r : DeskRun) (number : ℕ) (told : Told)
    → IsInStep session opening now running → IsFitting now → Moves session now place script before (Makes (step.Starts before.client.number number) told ∷ []) r seat
    → seat.client ≡ with_started before.client number → IsFitting (with_seat place r seat now)

abbrev ShowStart : Type 0
ShowStart = (session : ScriptSession) (opening : Items) (now : SessionNow) (running : Option RunningTx) (place : ℕ) (script : Client) (before seat : SeatNow) (r : DeskRun) (number : ℕ) (told : Told)
    → IsInStep session opening now running → IsFitting now → IsShown now → Moves session now place script before (Makes (step.Starts before.client.number number) told ∷ []) r seat → IsShown (with_seat place r seat now)

abbrev pub StartLaw : Type 0
StartLaw = (session : ScriptSession) (opening : Items) (now : SessionNow) (place : ℕ) (script : Client) (before seat : SeatNow) (r : DeskRun) (number : ℕ) (told : Told) (tx : ClientTx)
    → IsDriven session opening now None → Moves session now place script before (Makes (step.Starts before.client.number number) told ∷ []) r seat → least_of (desk_run now.run) ≡ Some number → before.client.tasks ≡ []
    → tx_at before.client number ≡ Some tx → tx.started ≡ false → may_begin tx.body ≡ true → seat.client ≡ with_started before.client number
    → IsDriven session opening (with_seat place r seat now) (Some (record { number = number; body = tx.body; turns = [] }))

pub driven_start : UnderStart → FitStart → ShowStart → StartLaw
driven_start under fit show session opening now place script before seat r number told tx d m least idle found waits begins is = record {
  under_way = under session opening now place script before seat r number told tx d.under_way m least idle found waits begins is;
  fits = fit session opening now None place script before seat r number told d.under_way.in_step d.fits m is;
  shown = show session opening now None place script before seat r number told d.under_way.in_step d.fits d.shown m;
  opened = d.opened;
  logged = d.logged;
}

-- ---- a turn
abbrev UnderTurn : Type 0
UnderTurn = (session : ScriptSession) (opening : Items) (now : SessionNow) (t : RunningTx) (place : ℕ) (script : Client) (before seat : SeatNow) (r : DeskRun) (notes : List Note) (tx : ClientTx)
    → IsUnderWay session opening now (Some t) → Moves session now place script before (TakesTurn t.number notes ∷ []) r seat → before.client.tasks ≡ []
    → tx_at before.client t.number ≡ Some tx → tx.started ≡ true → seat.client ≡ with_notes before.client notes
    → IsUnderWay session opening (with_seat place r seat now) (Some (record t { turns = t.turns ++ notes ∷ [] }))

abbrev FitTurn : Type 0
FitTurn = (session : ScriptSession) (opening : Items) (now : SessionNow) (running : Option RunningTx) (place : ℕ) (script : Client) (before seat : SeatNow) (r : DeskRun) (number : ℕ) (notes : List Note)
    → IsInStep session opening now running → IsFitting now → Moves session now place script before (TakesTurn number notes ∷ []) r seat
    → seat.client ≡ with_notes before.client notes → IsFitting (with_seat place r seat now)

abbrev ShowTurn : Type 0
ShowTurn = (session : ScriptSession) (opening : Items) (now : SessionNow) (running : Option RunningTx) (place : ℕ) (script : Client) (before seat : SeatNow) (r : DeskRun) (number : ℕ) (notes : List Note)
    → IsInStep session opening now running → IsFitting now → IsShown now → Moves session now place script before (TakesTurn number notes ∷ []) r seat → IsShown (with_seat place r seat now)

abbrev pub TurnLaw : Type 0
TurnLaw = (session : ScriptSession) (opening : Items) (now : SessionNow) (t : RunningTx) (place : ℕ) (script : Client) (before seat : SeatNow) (r : DeskRun) (notes : List Note) (tx : ClientTx)
    → IsDriven session opening now (Some t) → Moves session now place script before (TakesTurn t.number notes ∷ []) r seat → before.client.tasks ≡ []
    → tx_at before.client t.number ≡ Some tx → tx.started ≡ true → seat.client ≡ with_notes before.client notes
    → IsDriven session opening (with_seat place r seat now) (Some (record t { turns = t.turns ++ notes ∷ [] }))

pub driven_turn : UnderTurn → FitTurn → ShowTurn → TurnLaw
driven_turn under fit show session opening now t place script before seat r notes tx d m idle found started is = record {
  under_way = under session opening now t place script before seat r notes tx d.under_way m idle found started is;
  fits = fit session opening now (Some t) place script before seat r t.number notes d.under_way.in_step d.fits m is;
  shown = show session opening now (Some t) place script before seat r t.number notes d.under_way.in_step d.fits d.shown m;
  opened = d.opened;
  logged = d.logged;
}

-- ---- a finish
abbrev UnderFinish : Type 0
UnderFinish = (session : ScriptSession) (opening : Items) (now : SessionNow) (t : RunningTx) (place : ℕ) (script : Client) (before seat : SeatNow) (acts : List Act) (r : DeskRun) (told : Told) (tx : ClientTx)
    (outcome : Outcome) (kept : Option SchemaData) (changes : List DeltaTree)
    → IsUnderWay session opening now (Some t) → Moves session now place script before (Makes (step.Leaves before.client.number t.number outcome kept) told ∷ acts) r seat
    → before.client.tasks ≡ [] → tx_at before.client t.number ≡ Some tx → tx.started ≡ true
    → EndsTx script.blocks (without_tx before.client t.number) t.number outcome tx.kind acts seat.client
    → RunsOn ScriptReacts ScriptWrites (part_of (scope_of_body t.body) now.items) t.body t.turns changes kept false outcome
    → is_in_doubt outcome ≡ false
    → IsUnderWay session opening (with_finished (entry_ran t changes kept outcome) (with_seat place r seat now)) None

abbrev FitFinish : Type 0
FitFinish = (session : ScriptSession) (opening : Items) (now : SessionNow) (running : Option RunningTx) (place : ℕ) (script : Client) (before seat : SeatNow) (acts : List Act) (r : DeskRun) (number : ℕ) (told : Told) (tx : ClientTx)
    (outcome : Outcome) (kept : Option SchemaData) (e : FinishEntry Script Note)
    → IsInStep session opening now running → IsFitting now → Moves session now place script before (Makes (step.Leaves before.client.number number outcome kept) told ∷ acts) r seat
    → tx_at before.client number ≡ Some tx → EndsTx script.blocks (without_tx before.client number) number outcome tx.kind acts seat.client
    → IsFitting (with_finished e (with_seat place r seat now))

abbrev ShowFinish : Type 0
ShowFinish = (session : ScriptSession) (opening : Items) (now : SessionNow) (t : RunningTx) (place : ℕ) (script : Client) (before seat : SeatNow) (acts : List Act) (r : DeskRun) (told : Told) (tx : ClientTx)
    (outcome : Outcome) (kept : Option SchemaData) (changes : List DeltaTree)
    → IsInStep session opening now (Some t) → IsFitting now → IsShown now → Moves session now place script before (Makes (step.Leaves before.client.number t.number outcome kept) told ∷ acts) r seat
    → tx_at before.client t.number ≡ Some tx → EndsTx script.blocks (without_tx before.client t.number) t.number outcome tx.kind acts seat.client
    → RunsOn ScriptReacts ScriptWrites (part_of (scope_of_body t.body) now.items) t.body t.turns changes kept false outcome → IsSoundKept kept
    → IsShown (with_finished (entry_ran t changes kept outcome) (with_seat place r seat now))

abbrev pub FinishLaw : Type 0
FinishLaw = (session : ScriptSession) (opening : Items) (now : SessionNow) (t : RunningTx) (place : ℕ) (script : Client) (before seat : SeatNow) (acts : List Act) (r : DeskRun) (told : Told) (tx : ClientTx)
    (outcome : Outcome) (kept : Option SchemaData) (changes : List DeltaTree)
    → IsDriven session opening now (Some t) → Moves session now place script before (Makes (step.Leaves before.client.number t.number outcome kept) told ∷ acts) r seat
    → before.client.tasks ≡ [] → tx_at before.client t.number ≡ Some tx → tx.started ≡ true
    → EndsTx script.blocks (without_tx before.client t.number) t.number outcome tx.kind acts seat.client
    → RunsOn ScriptReacts ScriptWrites (part_of (scope_of_body t.body) now.items) t.body t.turns changes kept false outcome
    → is_in_doubt outcome ≡ false → IsSoundKept kept → LeavesSound t.body outcome changes now.items
    → IsDriven session opening (with_finished (entry_ran t changes kept outcome) (with_seat place r seat now)) None

pub driven_finish : UnderFinish → FitFinish → ShowFinish → LogLaws → FinishLaw
driven_finish under fit show logs session opening now t place script before seat acts r told tx outcome kept changes d m idle found started ends ran sure sound leaves =
    let last : SessionNow = with_finished (entry_ran t changes kept outcome) (with_seat place r seat now) in
    let under_way = under session opening now t place script before seat acts r told tx outcome kept changes d.under_way m idle found started ends ran sure in
    let fits = fit session opening now (Some t) place script before seat acts r t.number told tx outcome kept (entry_ran t changes kept outcome) d.under_way.in_step d.fits m found ends in
    let shown = show session opening now t place script before seat acts r told tx outcome kept changes d.under_way.in_step d.fits d.shown m found ends ran sound in
    record {
      under_way = under_way;
      fits = fits;
      shown = shown;
      opened = d.opened;
      logged = finish_logged logs opening now t outcome kept changes r.order d.logged ran leaves (logs.limits session opening last None under_way.in_step fits shown d.opened.within);
    }

-- ---- without starting
abbrev UnderCancel : Type 0
UnderCancel = (session : ScriptSession) (opening : Items) (now : SessionNow) (place : ℕ) (script : Client) (before seat : SeatNow) (acts : List Act) (r : DeskRun) (told : Told) (tx : ClientTx)
    (number : ℕ) (turns : List (List Note)) (outcome : Outcome) → IsUnderWay session opening now None
    → Moves session now place script before (map (TakesTurn number) turns ++ Makes (step.Leaves before.client.number number outcome None) told ∷ acts) r seat
    → least_of (desk_run now.run) ≡ Some number → before.client.tasks ≡ [] → tx_at before.client number ≡ Some tx → tx.started ≡ false
    → EndsTx script.blocks (with_notes (without_tx before.client number) (joined_lines turns)) number outcome tx.kind acts seat.client
    → NeverStarts ScriptReacts ScriptWrites tx.body turns [] None false outcome
    → IsUnderWay session opening (with_finished (entry_dropped number tx.body turns outcome) (with_seat place r seat now)) None

abbrev FitCancel : Type 0
FitCancel = (session : ScriptSession) (opening : Items) (now : SessionNow) (running : Option RunningTx) (place : ℕ) (script : Client) (before seat : SeatNow) (acts : List Act) (r : DeskRun) (number : ℕ) (told : Told) (tx : ClientTx)
    (turns : List (List Note)) (outcome : Outcome) (e : FinishEntry Script Note)
    → IsInStep session opening now running → IsFitting now
    → Moves session now place script before (map (TakesTurn number) turns ++ Makes (step.Leaves before.client.number number outcome None) told ∷ acts) r seat
    → tx_at before.client number ≡ Some tx → EndsTx script.blocks (with_notes (without_tx before.client number) (joined_lines turns)) number outcome tx.kind acts seat.client
    → IsFitting (with_finished e (with_seat place r seat now))

abbrev ShowCancel : Type 0
ShowCancel = (session : ScriptSession) (opening : Items) (now : SessionNow) (running : Option RunningTx) (place : ℕ) (script : Client) (before seat : SeatNow) (acts : List Act) (r : DeskRun) (number : ℕ) (told : Told) (tx : ClientTx)
    (turns : List (List Note)) (outcome : Outcome)
    → IsInStep session opening now running → IsFitting now → IsShown now
    → Moves session now place script before (map (TakesTurn number) turns ++ Makes (step.Leaves before.client.number number outcome None) told ∷ acts) r seat
    → tx_at before.client number ≡ Some tx → EndsTx script.blocks (with_notes (without_tx before.client number) (joined_lines turns)) number outcome tx.kind acts seat.client
    → NeverStarts ScriptReacts ScriptWrites tx.body turns [] None false outcome
    → IsShown (with_finished (entry_dropped number tx.body turns outcome) (with_seat place r seat now))

abbrev pub CancelLaw : Type 0
CancelLaw = (session : ScriptSession) (opening : Items) (now : SessionNow) (place : ℕ) (script : Client) (before seat : SeatNow) (acts : List Act) (r : DeskRun) (told : Told) (tx : ClientTx)
    (number : ℕ) (turns : List (List Note)) (outcome : Outcome) → IsDriven session opening now None
    → Moves session now place script before (map (TakesTurn number) turns ++ Makes (step.Leaves before.client.number number outcome None) told ∷ acts) r seat
    → least_of (desk_run now.run) ≡ Some number → before.client.tasks ≡ [] → tx_at before.client number ≡ Some tx → tx.started ≡ false
    → EndsTx script.blocks (with_notes (without_tx before.client number) (joined_lines turns)) number outcome tx.kind acts seat.client
    → NeverStarts ScriptReacts ScriptWrites tx.body turns [] None false outcome
    → IsDriven session opening (with_finished (entry_dropped number tx.body turns outcome) (with_seat place r seat now)) None

abbrev pub UndoneLaw : Type 0
UndoneLaw = (e : FinishEntry Script Note) (now : SessionNow) → did_commit e.outcome ≡ false → ((with_finished e now).items ≡ now.items) × ((with_finished e now).commits ≡ now.commits)

-- what didn't commit leaves what was logged
undone_logged : UndoneLaw → (opening : Items) (e : FinishEntry Script Note) (now : SessionNow) → did_commit e.outcome ≡ false → after_records opening (records_of_commits now.commits) ≡ Some now.items
    → after_records opening (records_of_commits (with_finished e now).commits) ≡ Some (with_finished e now).items
undone_logged law opening e now out so_far =
    let u = law e now out in
    ap (λ cs. after_records opening (records_of_commits cs)) u.1 ∙ so_far ∙ ap (λ (is : Items). Some is) (sym u.0)

pub never_commits : (body : TxBody Script) (turns : List (List Note)) (by_host : Bool) (outcome : Outcome) → NeverStarts ScriptReacts ScriptWrites body turns [] None by_host outcome → did_commit outcome ≡ false
never_commits (Scripted body) turns by_host outcome h = ap did_commit h.cancelled.ended
never_commits (Deletion name) turns by_host outcome h = ap did_commit h.cancelled.2

pub driven_cancel : UnderCancel → FitCancel → ShowCancel → UndoneLaw → CancelLaw
driven_cancel under fit show undone session opening now place script before seat acts r told tx number turns outcome d m least idle found waits ends never =
    let e = entry_dropped number tx.body turns outcome in
    record {
      under_way = under session opening now place script before seat acts r told tx number turns outcome d.under_way m least idle found waits ends never;
      fits = fit session opening now None place script before seat acts r number told tx turns outcome e d.under_way.in_step d.fits m found ends;
      shown = show session opening now None place script before seat acts r number told tx turns outcome d.under_way.in_step d.fits d.shown m found ends never;
      opened = d.opened;
      logged = undone_logged undone opening e (with_seat place r seat now) (never_commits tx.body turns false outcome never) d.logged;
    }

-- ---- in a faulted host
abbrev UnderHost : Type 0
UnderHost = (session : ScriptSession) (opening : Items) (now : SessionNow) (place : ℕ) (script : Client) (before seat : SeatNow) (acts : List Act) (r : DeskRun) (told : Told) (tx : ClientTx)
    (number : ℕ) (turns : List (List Note)) (outcome : Outcome) → IsUnderWay session opening now None → (desk_run now.run).board.is_faulted ≡ true
    → Moves session now place script before (map (TakesTurn number) turns ++ Makes (step.Leaves before.client.number number outcome None) told ∷ acts) r seat
    → least_of (desk_run now.run) ≡ Some number → before.client.tasks ≡ [] → tx_at before.client number ≡ Some tx → tx.started ≡ false
    → EndsTx script.blocks (with_notes (without_tx before.client number) (joined_lines turns)) number outcome tx.kind acts seat.client
    → NeverStarts ScriptReacts ScriptWrites tx.body turns [] None true outcome
    → IsUnderWay session opening (with_finished (entry_by_host number tx.body turns outcome) (with_seat place r seat now)) None

abbrev ShowHost : Type 0
ShowHost = (session : ScriptSession) (opening : Items) (now : SessionNow) (running : Option RunningTx) (place : ℕ) (script : Client) (before seat : SeatNow) (acts : List Act) (r : DeskRun) (number : ℕ) (told : Told) (tx : ClientTx)
    (turns : List (List Note)) (outcome : Outcome)
    → IsInStep session opening now running → IsFitting now → IsShown now
    → Moves session now place script before (map (TakesTurn number) turns ++ Makes (step.Leaves before.client.number number outcome None) told ∷ acts) r seat
    → tx_at before.client number ≡ Some tx → EndsTx script.blocks (with_notes (without_tx before.client number) (joined_lines turns)) number outcome tx.kind acts seat.client
    → NeverStarts ScriptReacts ScriptWrites tx.body turns [] None true outcome
    → IsShown (with_finished (entry_by_host number tx.body turns outcome) (with_seat place r seat now))

abbrev pub HostLaw : Type 0
HostLaw = (session : ScriptSession) (opening : Items) (now : SessionNow) (place : ℕ) (script : Client) (before seat : SeatNow) (acts : List Act) (r : DeskRun) (told : Told) (tx : ClientTx)
    (number : ℕ) (turns : List (List Note)) (outcome : Outcome) → IsDriven session opening now None → (desk_run now.run).board.is_faulted ≡ true
    → Moves session now place script before (map (TakesTurn number) turns ++ Makes (step.Leaves before.client.number number outcome None) told ∷ acts) r seat
    → least_of (desk_run now.run) ≡ Some number → before.client.tasks ≡ [] → tx_at before.client number ≡ Some tx → tx.started ≡ false
    → EndsTx script.blocks (with_notes (without_tx before.client number) (joined_lines turns)) number outcome tx.kind acts seat.client
    → NeverStarts ScriptReacts ScriptWrites tx.body turns [] None true outcome
    → IsDriven session opening (with_finished (entry_by_host number tx.body turns outcome) (with_seat place r seat now)) None

pub driven_host : UnderHost → FitCancel → ShowHost → UndoneLaw → HostLaw
driven_host under fit show undone session opening now place script before seat acts r told tx number turns outcome d faulted m least idle found waits ends never =
    let e = entry_by_host number tx.body turns outcome in
    record {
      under_way = under session opening now place script before seat acts r told tx number turns outcome d.under_way faulted m least idle found waits ends never;
      fits = fit session opening now None place script before seat acts r number told tx turns outcome e d.under_way.in_step d.fits m found ends;
      shown = show session opening now None place script before seat acts r number told tx turns outcome d.under_way.in_step d.fits d.shown m found ends never;
      opened = d.opened;
      logged = undone_logged undone opening e (with_seat place r seat now) (never_commits tx.body turns true outcome never) d.logged;
    }

-- ---- in doubt
abbrev UnderDoubt : Type 0
UnderDoubt = (session : ScriptSession) (opening : Items) (now : SessionNow) (t : RunningTx) (place : ℕ) (script : Client) (before seat : SeatNow) (acts : List Act) (r : DeskRun) (told : Told) (tx : ClientTx)
    (outcome : Outcome) (kept : Option SchemaData) (changes : List DeltaTree)
    → IsUnderWay session opening now (Some t) → Moves session (with_fault now) place script before (Makes (step.Leaves before.client.number t.number outcome kept) told ∷ acts) r seat
    → before.client.tasks ≡ [] → tx_at before.client t.number ≡ Some tx → tx.started ≡ true
    → EndsTx script.blocks (without_tx before.client t.number) t.number outcome tx.kind acts seat.client
    → RunsOn ScriptReacts ScriptWrites (part_of (scope_of_body t.body) now.items) t.body t.turns changes kept false outcome
    → is_in_doubt outcome ≡ true → may_write t.body ≡ true
    → IsUnderWay session opening (with_finished (entry_ran t changes kept outcome) (with_seat place r seat now)) None

-- by a step of the desk that is nobody's
pub record FaultLaws : Type 0 where
  pub in_step : (session : ScriptSession) (opening : Items) (now : SessionNow) (running : Option RunningTx) → IsInStep session opening now running → IsDeskRun (with_step now.run step.Faults) → IsInStep session opening (with_fault now) running
  pub fits : (now : SessionNow) → IsFitting now → IsDeskRun (with_step now.run step.Faults) → IsFitting (with_fault now)
  pub shown : (now : SessionNow) → IsFitting now → IsShown now → IsDeskRun (with_step now.run step.Faults) → IsShown (with_fault now)

abbrev pub DoubtLaw : Type 0
DoubtLaw = (session : ScriptSession) (opening : Items) (now : SessionNow) (t : RunningTx) (place : ℕ) (script : Client) (before seat : SeatNow) (acts : List Act) (r : DeskRun) (told : Told) (tx : ClientTx) (changes : List DeltaTree)
    → IsDriven session opening now (Some t) → Moves session (with_fault now) place script before (Makes (step.Leaves before.client.number t.number outcome_in_doubt None) told ∷ acts) r seat
    → before.client.tasks ≡ [] → tx_at before.client t.number ≡ Some tx → tx.started ≡ true
    → EndsTx script.blocks (without_tx before.client t.number) t.number outcome_in_doubt tx.kind acts seat.client
    → RunsOn ScriptReacts ScriptWrites (part_of (scope_of_body t.body) now.items) t.body t.turns changes None false outcome_in_doubt → may_write t.body ≡ true
    → IsDriven session opening (with_finished (entry_ran t changes None outcome_in_doubt) (with_seat place r seat now)) None

pub driven_doubt : UnderDoubt → FitFinish → ShowFinish → FaultLaws → UndoneLaw → DoubtLaw
driven_doubt under fit show faults undone session opening now t place script before seat acts r told tx changes d m idle found started ends ran writes =
    let run : IsDeskRun (with_step now.run step.Faults) = made_before before.client.number (with_step now.run step.Faults) r (Makes (step.Leaves before.client.number t.number outcome_in_doubt None) told ∷ acts) m.made m.run in
    let in_step = faults.in_step session opening now (Some t) d.under_way.in_step run in
    let fits = faults.fits now d.fits run in
    let shown = faults.shown now d.fits d.shown run in
    let e = entry_ran t changes None outcome_in_doubt in
    record {
      under_way = under session opening now t place script before seat acts r told tx outcome_in_doubt None changes d.under_way m idle found started ends ran refl writes;
      fits = fit session opening (with_fault now) (Some t) place script before seat acts r t.number told tx outcome_in_doubt None e in_step fits m found ends;
      shown = show session opening (with_fault now) t place script before seat acts r told tx outcome_in_doubt None changes in_step fits shown m found ends ran tt;
      opened = d.opened;
      logged = undone_logged undone opening e (with_seat place r seat now) refl d.logged;
    }
