-- A session under way, with one transaction that runs, or none. Transactions start and finish in the order of their numbers.
--     IsSeatOf, AreSeats    a client ran, its steps are its own in the run, and its transactions are its own of those that wait
--     IsWaiting             a transaction that isn't finished, and what is told of it
--     IsAhead               nothing is told of numbers that weren't drawn
--     IsFirstWaiting        the one that runs is the first of those that aren't finished
--     HasBegun              the transactions that began: those that finished, and those that wait
--     IsFinishedAs, AreFinishedAs   what became of those that finished is told by the steps and acts
--     HasFinished           and is what their runs one by one give
--     HasFinishOrder        those that left are those that finished, in an order that fits
--     IsInStep              the clients, the desk, and what became of the transactions, whether or not the host is faulted
--     is_doubted            a transaction ended in doubt
--     HasFaults             the host is faulted exactly where one did, and nothing runs then
--     IsUnderWay            all of it
use Rattle.std.specs.Prelude.{◌≡◌, ℕ, ◌+◌, ◌≤◌, Bool, true, List, [], ◌∷◌, ◌++◌, length, map, Option, Some, None, ⊤}
use Rattle.std.specs.List.{list_any, AllByRecursion}
use Rattle.std.specs.List.Sorted.{IsPermutation}
use Rattle.desk_steps.specs.declared.steps.DeskStep.{DeskStep}
use Rattle.idb_desk.specs.Steps.{DeskRun, desk_run, IsDeskRun}
use Rattle.item_changes.specs.Items.{Items}
use Rattle.client_ties.specs.FinishEntries.{FinishEntry}
use Rattle.client_ties.specs.SerialRuns.{IsSerial, items_after}
use Rattle.script_statements.specs.declared.script.Client.{Client}
use Rattle.script_statements.specs.declared.script.ScriptSession.{ScriptSession}
use Rattle.script_runs.specs.declared.notes.Note.{Note}
use Rattle.script_handlers.specs.Handling.{Script, ScriptReacts, ScriptWrites}
use Rattle.client_ties.specs.Acts.{Act, notes_of_acts}
use Rattle.client_ties.specs.Answering.{Agrees}
use Rattle.client_ties.specs.ClientStates.{fresh_client}
use Rattle.client_ties.specs.ClientSteps.{ClientRuns}
use Rattle.client_ties.specs.Unfinished.{unfinished_of, AreDrawn}
use Rattle.legal_sessions.specs.Histories.{AreOfClients, ShowsItems}
use Rattle.legal_sessions.specs.SerialResults.{number_of_entry, has_left}
use Rattle.legal_sessions.specs.Legal.{is_listed, FinishFits, is_fault, is_in_doubt, DoubtsFit, FitsFault, records_logged, records_in_doubt, commits_at}
use Rattle.session_states.specs.Sessions.{SeatNow, SessionNow}
use Rattle.session_states.specs.Telling.{told_of, nothing_told, told_by_entry, BegunAt, begun_from, acts_at, txs_at, shown_begun, as_begun, RunningTx, is_running, body_so_far, told_so_far}

-- ---- the clients
pub record IsSeatOf (script : Client) (place : ℕ) (r : DeskRun) (waiting : List BegunAt) (seat : SeatNow) (acts : List Act) : Type 0 where
  pub runs : ClientRuns script.blocks (fresh_client (place + 1) script.main) acts seat.client
  pub agrees : Agrees (place + 1) r acts
  pub number : seat.client.number ≡ place + 1
  pub lines : seat.notes ≡ notes_of_acts acts
  pub txs : seat.client.txs ≡ txs_at place waiting

-- from this place on
abbrev pub AreSeats : ℕ → DeskRun → List BegunAt → List Client → List SeatNow → List (List Act) → Type 0
AreSeats place r waiting [] [] [] = ⊤
AreSeats place r waiting (script ∷ scripts) (seat ∷ seats) (acts ∷ more) = IsSeatOf script place r waiting seat acts × AreSeats (place + 1) r waiting scripts seats more
AreSeats place r waiting [] [] (acts ∷ more) = ⊥
AreSeats place r waiting [] (seat ∷ seats) acts = ⊥
AreSeats place r waiting (script ∷ scripts) [] acts = ⊥
AreSeats place r waiting (script ∷ scripts) (seat ∷ seats) [] = ⊥

-- ---- transactions that began
-- only the one that runs was started, and had turns
pub record IsWaiting (order : List DeskStep) (acts : List (List Act)) (running : Option RunningTx) (b : BegunAt) : Type 0 where
  pub told : told_of order (acts_at acts b.place) b.tx.number ≡ told_so_far running b.tx.number
  pub started : b.tx.started ≡ is_running running b.tx.number
  pub body : body_so_far running b ≡ b.tx.body

abbrev pub IsAhead : List DeskStep → List (List Act) → ℕ → Type 0
IsAhead order acts next = (place number : ℕ) → next ≤ number → told_of order (acts_at acts place) number ≡ nothing_told

abbrev pub IsFirstWaiting : Option RunningTx → List BegunAt → Type 0
IsFirstWaiting None waiting = ⊤
IsFirstWaiting (Some t) [] = ⊥
IsFirstWaiting (Some t) (b ∷ bs) = b.tx.number ≡ t.number

-- they drew the numbers from 1 on, and those that wait are the desk's unfinished ones
pub record HasBegun (r : DeskRun) (acts : List (List Act)) (running : Option RunningTx) (done waiting : List BegunAt) : Type 0 where
  pub all : IsPermutation (begun_from 0 acts) (map as_begun (done ++ waiting))
  pub numbers : AreDrawn 1 (map shown_begun (done ++ waiting)) (desk_run r).board.scopes.next
  pub unfinished : unfinished_of (desk_run r) ≡ map shown_begun waiting
  pub each : AllByRecursion (IsWaiting r.order acts running) waiting
  pub ahead : IsAhead r.order acts (desk_run r).board.scopes.next
  pub first : IsFirstWaiting running waiting

-- ---- transactions that finished
pub record IsFinishedAs (order : List DeskStep) (acts : List (List Act)) (b : BegunAt) (e : FinishEntry Script Note) : Type 0 where
  pub number : e.number ≡ b.tx.number
  pub body : e.body ≡ b.tx.body
  pub told : told_of order (acts_at acts b.place) b.tx.number ≡ told_by_entry e

abbrev pub AreFinishedAs : List DeskStep → List (List Act) → List BegunAt → List (FinishEntry Script Note) → Type 0
AreFinishedAs order acts [] [] = ⊤
AreFinishedAs order acts (b ∷ bs) (e ∷ es) = IsFinishedAs order acts b e × AreFinishedAs order acts bs es
AreFinishedAs order acts [] (e ∷ es) = ⊥
AreFinishedAs order acts (b ∷ bs) [] = ⊥

pub record HasFinished (opening : Items) (now : SessionNow) (acts : List (List Act)) (done : List BegunAt) (entries : List (FinishEntry Script Note)) : Type 0 where
  pub each : AreFinishedAs now.run.order acts done entries
  pub serial : IsSerial ScriptReacts ScriptWrites opening entries
  pub items : now.items ≡ items_after opening entries
  pub finish : now.finish ≡ map number_of_entry entries
  pub commits : now.commits ≡ commits_at now.run.order (records_logged entries)
  pub doubts : now.doubts ≡ commits_at now.run.order (records_in_doubt entries)

pub record HasFinishOrder (order : List DeskStep) (finish : List ℕ) : Type 0 where
  pub all : (number : ℕ) → has_left order number ≡ is_listed number finish
  pub fits : FinishFits order finish

-- ---- the session
-- it stays so by each step of the desk with the acts that belong to it, the one that faults the host among them
pub record IsInStep (session : ScriptSession) (opening : Items) (now : SessionNow) (running : Option RunningTx) : Type 0 where
  pub acts : List (List Act)
  pub done : List BegunAt
  pub waiting : List BegunAt
  pub entries : List (FinishEntry Script Note)
  pub shows : ShowsItems now.run.opening opening
  pub desk : IsDeskRun now.run
  pub theirs : AreOfClients (length session.clients) now.run.order
  pub seats : AreSeats 0 now.run waiting session.clients now.seats acts
  pub begun : HasBegun now.run acts running done waiting
  pub finished : HasFinished opening now acts done entries
  pub finish_order : HasFinishOrder now.run.order now.finish
  pub behind : AllByRecursion (FitsFault now.run.order) entries

-- ---- faults
abbrev pub is_doubted : FinishEntry Script Note → Bool
is_doubted e = is_in_doubt e.outcome

-- those behind the one in doubt are aborted, and the host ends none before it
pub record HasFaults (order : List DeskStep) (running : Option RunningTx) (entries : List (FinishEntry Script Note)) : Type 0 where
  pub doubts : DoubtsFit entries
  pub marked : list_any is_fault order ≡ list_any is_doubted entries
  pub stopped : list_any is_fault order ≡ true → running ≡ None

pub record IsUnderWay (session : ScriptSession) (opening : Items) (now : SessionNow) (running : Option RunningTx) : Type 0 where
  pub in_step : IsInStep session opening now running
  pub faults : HasFaults now.run.order running in_step.entries
