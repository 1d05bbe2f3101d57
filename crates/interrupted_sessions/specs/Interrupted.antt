-- What a session had done where it was interrupted: so much of a legal session.
--     IsClientSoFar, AreClientsSoFar        a client ran so far, and its steps are its own in the run
--     RanWhole              a transaction that began and isn't finished has run whole: this became of it, which no step tells
--     AreLast               such a one, or none
--     HasSerialSoFar        those that finished, and this one, are of those that began, and are what their runs one by one give
--     IsLegalSoFar          a session that had done so much, by its clients' steps and the host's alone
--     HasCommits            the log was told the commits of these, and those in doubt
--     WasInterrupted        no commit was made, or there is such a session whose commits these are
use Rattle.std.specs.Prelude.{◌≡◌, ◌⊎◌, ℕ, ◌+◌, true, List, [], ◌∷◌, ◌++◌, length, map, None, ⊤}
use Rattle.std.specs.List.Sorted.{IsPermutation}
use Rattle.desk_steps.specs.declared.steps.DeskStep.{DeskStep}
use Rattle.idb_desk.specs.Steps.{DeskRun, IsDeskRun}
use Rattle.item_changes.specs.Items.{Items}
use Rattle.log_history.specs.Batching.{Commit}
use Rattle.client_machine.specs.FinishEntries.{FinishEntry}
use Rattle.client_machine.specs.SerialRuns.{IsSerial}
use Rattle.client_machine.specs.NumberOrder.{IsInOrder, by_number}
use Rattle.client_machine.specs.Acts.{Act, turns_of}
use Rattle.client_machine.specs.ClientStates.{ClientState, fresh_client}
use Rattle.client_machine.specs.ClientSteps.{ClientRuns}
use Rattle.client_machine.specs.Answering.{Agrees}
use Rattle.script_statements.specs.declared.script.Client.{Client}
use Rattle.script_statements.specs.declared.script.ScriptSession.{ScriptSession}
use Rattle.script_runs.specs.declared.notes.Note.{Note}
use Rattle.script_handlers.specs.Handling.{Script, ScriptReacts, ScriptWrites}
use Rattle.legal_sessions.specs.Histories.{SessionHistory, desk_of, AreOfClients, ShowsItems}
use Rattle.legal_sessions.specs.SerialResults.{BegunTx, begun_by, number_of_entry, leaving_of, is_started, AreEntriesOf}
use Rattle.legal_sessions.specs.Legal.{FinishFits, DoubtsFit, FaultsFit, records_logged, records_in_doubt, commits_at}

-- ---- the clients
pub record IsClientSoFar (client : Client) (number : ℕ) (r : DeskRun) (acts : List Act) : Type 0 where
  pub last : ClientState
  pub runs : ClientRuns client.blocks (fresh_client number client.main) acts last
  pub agrees : Agrees number r acts

-- from this number on
abbrev pub AreClientsSoFar : ℕ → DeskRun → List Client → List (List Act) → Type 0
AreClientsSoFar number r [] [] = ⊤
AreClientsSoFar number r (client ∷ clients) (acts ∷ more) = IsClientSoFar client number r acts × AreClientsSoFar (number + 1) r clients more
AreClientsSoFar number r [] (acts ∷ more) = ⊥
AreClientsSoFar number r (client ∷ clients) [] = ⊥

-- ---- the transactions
-- its client and the desk hadn't come to its finish
pub record RanWhole (order : List DeskStep) (b : BegunTx) (e : FinishEntry Script Note) : Type 0 where
  pub number : e.number ≡ b.tx.number
  pub body : e.body ≡ b.tx.body
  pub turns : e.turns ≡ turns_of b.tx.number b.acts
  pub ran : e.started ≡ true
  pub started : is_started order b.tx.number ≡ true
  pub stays : leaving_of order b.tx.number ≡ None

abbrev pub AreLast : List DeskStep → List BegunTx → List (FinishEntry Script Note) → Type 0
AreLast order bs [] = ⊤
AreLast order [] (e ∷ es) = ⊥
AreLast order (b ∷ bs) (e ∷ []) = RanWhole order b e
AreLast order (b ∷ bs) (e ∷ f ∷ es) = ⊥

-- in the order of their numbers
pub record HasSerialSoFar (opening : Items) (h : SessionHistory) (last : List (FinishEntry Script Note)) : Type 0 where
  pub finished : List BegunTx
  pub unfinished : List BegunTx
  pub all : IsPermutation (begun_by h.acts) (finished ++ unfinished)
  pub entries : AreEntriesOf h.order finished h.finish
  pub last_ran : AreLast h.order unfinished last
  pub serial : IsSerial ScriptReacts ScriptWrites opening (by_number (h.finish ++ last))

-- ---- the session
pub record IsLegalSoFar (session : ScriptSession) (opening : Items) (h : SessionHistory) (last : List (FinishEntry Script Note)) : Type 0 where
  pub shows : ShowsItems h.schemas opening
  pub clients : AreClientsSoFar 1 (desk_of h) session.clients h.acts
  pub desk : IsDeskRun (desk_of h)
  pub theirs : AreOfClients (length session.clients) h.order
  pub serial : HasSerialSoFar opening h last
  pub in_order : IsInOrder (h.finish ++ last)
  pub finish_fits : FinishFits h.order (map number_of_entry (h.finish ++ last))
  pub doubts : DoubtsFit (h.finish ++ last)
  pub faults : FaultsFit h

pub record HasCommits (session : ScriptSession) (opening : Items) (commits doubts : List Commit) : Type 0 where
  pub history : SessionHistory
  pub last : List (FinishEntry Script Note)
  pub so_far : IsLegalSoFar session opening history last
  pub logged : commits ≡ commits_at history.order (records_logged (history.finish ++ last))
  pub in_doubt : doubts ≡ commits_at history.order (records_in_doubt (history.finish ++ last))

abbrev pub WasInterrupted : ScriptSession → Items → (commits doubts : List Commit) → Type 0
WasInterrupted session opening commits doubts = ((commits ≡ []) × (doubts ≡ [])) ⊎ HasCommits session opening commits doubts
