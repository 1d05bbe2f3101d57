-- What the steps of one client can change of a session, and what they lead to.
--     DoneNow               the databases that the session began on, the numbers of the transactions that finished, those that
--                           committed and may write, as a log has them, and those in doubt, as it would have them
--     done_of_book               as the session's book has them
--     is_open_end, met_fault    a book that isn't flushed: it takes transactions, or met a fault at the commit of one;  a fault is how it ended
--     Scene                 the client in its office, what it noted, what is done, and the databases
--     scene_of, seat_on     a scene;  the client's seat in it
--     IsSceneAt             what is held of the session is so at this place
--     with_scene            and is so then
--     IsOpening             databases as a log gives them: each is as the standard asks, and they are within the limits
--     IsDriven              a session that its driver can go on with: it is under way, its clients fit its desk, its databases
--                           are those of the desk, and those that its commits give, applied to those that it began on
--     LeadsTo               where it was so, and the driver could go on, it can go on behind, and no more is left to do
--     KeepsOn               steps of a client that leave what runs as it is
--     StandsOn              a scene is that of a client of such a session
--     IsAtWork              so is that of this office and these notes
--     record_if             the record of a transaction, where so
--     with_finish_of        what is done, with one more that finished: it committed and may write, or is in doubt
--     with_number           the same, where it is neither
--     done_with_trace, doubted_with_trace   the same, as its trace tells it;  where its commit met a fault
use Rattle.std.specs.Prelude.{◌≡◌, ◌≤◌, ℕ, Bool, true, false, List, [], ◌∷◌, ◌++◌, slice_get, slice_set, if◌then◌else◌, Option, Some}
use Rattle.idb_calls.specs.Deltas.{DeltaTree}
use Rattle.idb_calls.specs.declared.traces.TxTrace.{TxTrace}
use Rattle.idb_desk.specs.Steps.{DeskRun}
use Rattle.item_changes.specs.Items.{Items}
use Rattle.idb_databases.specs.Items.{AreItems, is_within_limits}
use Rattle.record_bytes.specs.declared.records.LogRecord.{LogRecord}
use Rattle.log_history.specs.Batching.{Commit, commit_of, records_of_commits}
use Rattle.log_history.specs.Kept.{End, Dropped, Flushed, FailedCommit, FailedFlush, FailedCheckpoint, with_doubt}
use Rattle.log_history.specs.Replayed.{after_records}
use Rattle.legal_sessions.specs.Legal.{commits_at}
use Rattle.session_books.specs.States.{SessionBookState}
use Rattle.session_books.specs.Entering.{commits_with}
use Rattle.script_statements.specs.declared.script.Client.{Client}
use Rattle.script_statements.specs.declared.script.ScriptSession.{ScriptSession}
use Rattle.script_runs.specs.declared.notes.Note.{Note}
use Rattle.session_states.specs.Sessions.{SeatNow, SessionNow}
use Rattle.session_states.specs.Telling.{RunningTx}
use Rattle.session_states.specs.UnderWay.{IsUnderWay}
use Rattle.session_limits.specs.Fitting.{IsFitting}
use Rattle.session_limits.specs.Showing.{IsShown}
use Rattle.client_tasks.specs.Offices.{OfficeState}
use Rattle.office_scenes.specs.Measures.{left_to}

pub record DoneNow : Type 0 where
  pub opening : Items
  pub finish : List ℕ
  pub commits : List Commit
  pub doubts : List Commit

abbrev pub done_of_book : {D : Type 0} → SessionBookState D → DoneNow
done_of_book book = record { opening = book.opening; finish = book.finished; commits = book.commits; doubts = with_doubt [] book.end }

abbrev pub is_open_end : End → Bool
is_open_end Dropped = true
is_open_end (FailedCommit c) = true
is_open_end Flushed = false
is_open_end FailedFlush = false
is_open_end FailedCheckpoint = false

abbrev pub met_fault : End → Bool
met_fault Dropped = false
met_fault Flushed = false
met_fault (FailedCommit c) = true
met_fault FailedFlush = true
met_fault FailedCheckpoint = true

pub record Scene : Type 0 where
  pub office : OfficeState
  pub notes : List Note
  pub done : DoneNow
  pub items : Items

abbrev pub scene_of : OfficeState → List Note → DoneNow → Items → Scene
scene_of office notes done items = record { office = office; notes = notes; done = done; items = items }

abbrev pub seat_on : Scene → SeatNow
seat_on s = record { client = s.office.client; notes = s.notes }

-- places are counted from 0
pub record IsSceneAt (session : ScriptSession) (now : SessionNow) (place : ℕ) (s : Scene) : Type 0 where
  pub script : Client
  pub script_at : slice_get session.clients place ≡ Some script
  pub blocks : s.office.blocks ≡ script.blocks
  pub seat_at : slice_get now.seats place ≡ Some (seat_on s)
  pub run : now.run ≡ s.office.run
  pub finish : now.finish ≡ s.done.finish
  pub commits : now.commits ≡ s.done.commits
  pub doubts : now.doubts ≡ s.done.doubts
  pub items : now.items ≡ s.items

abbrev pub with_scene : ℕ → Scene → SessionNow → SessionNow
with_scene place s now = record { run = s.office.run; seats = slice_set now.seats place (seat_on s); finish = s.done.finish; commits = s.done.commits; doubts = s.done.doubts; items = s.items }

pub record IsOpening (opening : Items) : Type 0 where
  pub items : AreItems opening
  pub within : is_within_limits opening ≡ true

pub record IsDriven (session : ScriptSession) (opening : Items) (now : SessionNow) (running : Option RunningTx) : Type 0 where
  pub under_way : IsUnderWay session opening now running
  pub fits : IsFitting now
  pub shown : IsShown now
  pub opened : IsOpening opening
  pub logged : after_records opening (records_of_commits now.commits) ≡ Some now.items

-- what runs before, and behind
pub record LeadsTo (running next : Option RunningTx) (s last : Scene) : Type 0 where
  pub blocks : last.office.blocks ≡ s.office.blocks
  pub opening : last.done.opening ≡ s.done.opening
  pub less : left_to last.office.client last.notes ≤ left_to s.office.client s.notes
  pub leads : (session : ScriptSession) (now : SessionNow) (place : ℕ) → IsSceneAt session now place s → IsDriven session s.done.opening now running → IsDriven session last.done.opening (with_scene place last now) next

pub record KeepsOn (old : OfficeState) (before : List Note) (new : OfficeState) (after : List Note) : Type 0 where
  pub goes : (running : Option RunningTx) (done : DoneNow) (items : Items) → LeadsTo running running (scene_of old before done items) (scene_of new after done items)

-- ---- where a client stands
pub record StandsOn (running : Option RunningTx) (s : Scene) : Type 0 where
  pub session : ScriptSession
  pub now : SessionNow
  pub place : ℕ
  pub at : IsSceneAt session now place s
  pub driven : IsDriven session s.done.opening now running

pub record IsAtWork (running : Option RunningTx) (office : OfficeState) (notes : List Note) : Type 0 where
  pub done : DoneNow
  pub items : Items
  pub on : StandsOn running (scene_of office notes done items)

-- ---- those that finished
abbrev pub record_if : Bool → ℕ → List DeltaTree → List LogRecord
record_if so number changes = if so then record { number = number; deltas = changes } ∷ [] else []

-- by the order of this run
abbrev pub with_finish_of : DoneNow → DeskRun → ℕ → Bool → Bool → List DeltaTree → DoneNow
with_finish_of done r number commits_too doubts_too changes = record done {
  finish = done.finish ++ number ∷ [];
  commits = done.commits ++ commits_at r.order (record_if commits_too number changes);
  doubts = done.doubts ++ commits_at r.order (record_if doubts_too number changes);
}

abbrev pub with_number : ℕ → DoneNow → DoneNow
with_number number done = record done { finish = done.finish ++ number ∷ [] }

abbrev pub done_with_trace : TxTrace → DoneNow → DoneNow
done_with_trace trace done = record (with_number trace.number done) { commits = commits_with done.commits trace }

abbrev pub doubted_with_trace : TxTrace → DoneNow → DoneNow
doubted_with_trace trace done = record (with_number trace.number done) { doubts = commit_of trace ∷ [] }
