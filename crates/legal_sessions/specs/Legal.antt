-- What a session may report.
--     leaves_before         a transaction left before another was started
--     is_listed, is_listed_before   a number stands in a list;  and another behind it
--     FinishFits            where it did, and both finished, it finished before that one
--     leaves_behind_fault   the host was faulted before the transaction left
--     may_write             it doesn't only read
--     FaultsFit             a commit in doubt, and what follows it, only where the host is faulted
--     IsLegal               client runs, a desk run of nobody else's steps, serial results, and the order in which transactions finished
--     items_at_end          the databases that the session leaves
--     commits_of            the transactions that committed and may write, as they finished
--     record_of_entry, records_logged       what the log is told of a transaction;  of those that committed and may write
--     is_fault, is_in_doubt         a step of the desk that faults the host;  an outcome in doubt
--     commit_at, commits_at         a record with the durability of its transaction, by the order of steps;  each of them
--     records_in_doubt      what the log would have been told of a transaction in doubt
--     EndsSo                how the log ends: at the commit in doubt, where there is one; else it is dropped, or flushed, as the session says
--     report_end            as the report says it
--     IsReportOf            a report says what a legal session did
--     IsLegalReport         there is such a session, with these commits and this end of its log
use Rattle.std.specs.Prelude.{◌≡◌, ◌⊎◌, ℕ, Bool, true, false, not, ◌==◌, ◌&&◌, ◌||◌, List, [], ◌∷◌, length, map, filter, if◌then◌else◌, ⊤}
use Rattle.std.specs.Bool.{MatchBool}
use Rattle.std.specs.List.{list_any, AllByRecursion}
use Rattle.std.specs.FinMap as finite
use Rattle.idb_calls.specs.declared.traces.Outcome.{Outcome}
use Rattle.idb_calls.specs.declared.traces.Outcome.TheVariants.{Committed, Aborted}
use Rattle.desk_steps.specs.declared.steps.DeskStep.{DeskStep}
use Rattle.desk_steps.specs.declared.steps.DeskStep.TheVariants as step
use Rattle.idb_desk.specs.Durabilities.{durability_drawn}
use Rattle.idb_desk.specs.Steps.{desk_run, IsDeskRun}
use Rattle.idb_desk.specs.Tokens.{token_of}
use Rattle.idb_desk.specs.Waiting.{pending_of}
use Rattle.item_changes.specs.Items.{Name, Database, Items}
use Rattle.record_bytes.specs.declared.records.LogRecord.{LogRecord}
use Rattle.log_history.specs.Batching.{Commit, is_strict}
use Rattle.log_history.specs.Kept.{End, Dropped, Flushed, FailedCommit, FailedFlush, FailedCheckpoint}
use Rattle.request_lists.specs.Fronts.{is_read_only_mode}
use Rattle.report_lines.specs.declared.reports.Report.{Report}
use Rattle.report_lines.specs.declared.reports.Has.{Has}
use Rattle.report_lines.specs.declared.reports.ReportEnd.{ReportEnd}
use Rattle.report_lines.specs.declared.reports.ReportEnd.TheVariants as end
use Rattle.client_machine.specs.FinishEntries.{TxBody, Scripted, Deletion, FinishEntry, did_commit}
use Rattle.client_machine.specs.SerialRuns.{items_after}
use Rattle.client_machine.specs.NumberOrder.{IsInOrder, by_number}
use Rattle.script_statements.specs.declared.script.ScriptSession.{ScriptSession}
use Rattle.script_runs.specs.declared.notes.Note.{Note}
use Rattle.script_handlers.specs.Handling.{Script}
use Rattle.client_machine.specs.Acts.{lines_of_acts}
use Rattle.legal_sessions.specs.Histories.{SessionHistory, desk_of, AreClientRuns, AreOfClients, ShowsItems}
use Rattle.legal_sessions.specs.SerialResults.{HasSerialResults, number_of_entry, is_started, is_leaving_of, has_left}

-- ---- the order in which transactions finished
abbrev pub leaves_before : List DeskStep → (first second : ℕ) → Bool
leaves_before [] first second = false
leaves_before (t ∷ ts) first second = if is_leaving_of first t then is_started ts second else leaves_before ts first second

abbrev pub is_listed : ℕ → List ℕ → Bool
is_listed number numbers = list_any (λ n. n == number) numbers

abbrev pub is_listed_before : List ℕ → (first second : ℕ) → Bool
is_listed_before [] first second = false
is_listed_before (n ∷ ns) first second = if n == first then is_listed second ns else is_listed_before ns first second

abbrev pub FinishFits : List DeskStep → List ℕ → Type 0
FinishFits order finish = (first second : ℕ) → leaves_before order first second ≡ true → is_listed second finish ≡ true → is_listed_before finish first second ≡ true

-- ---- faults
abbrev pub is_fault : DeskStep → Bool
is_fault step.Faults = true
is_fault _ = false

abbrev pub is_in_doubt : Outcome → Bool
is_in_doubt Committed = false
is_in_doubt (Aborted error doubt) = doubt

abbrev pub may_write : TxBody Script → Bool
may_write (Scripted body) = not (is_read_only_mode body.mode)
may_write (Deletion name) = true

-- one in doubt may write; every transaction behind it is aborted, and the host ends none before it
abbrev pub DoubtsFit : List (FinishEntry Script Note) → Type 0
DoubtsFit [] = ⊤
DoubtsFit (e ∷ es) = MatchBool (is_in_doubt e.outcome)
    ((may_write e.body ≡ true) × AllByRecursion (λ f. (did_commit f.outcome ≡ false) × (is_in_doubt f.outcome ≡ false)) es)
    ((e.by_host ≡ false) × DoubtsFit es)

abbrev pub leaves_behind_fault : List DeskStep → ℕ → Bool
leaves_behind_fault [] number = false
leaves_behind_fault (t ∷ ts) number = if is_fault t then has_left ts number else not (is_leaving_of number t) && leaves_behind_fault ts number

-- one in doubt, and one that the host ended, left a host that was faulted
abbrev pub FitsFault : List DeskStep → FinishEntry Script Note → Type 0
FitsFault order e = (is_in_doubt e.outcome || e.by_host) ≡ true → leaves_behind_fault order e.number ≡ true

pub record FaultsFit (h : SessionHistory) : Type 0 where
  pub doubts : DoubtsFit h.finish
  pub behind : AllByRecursion (FitsFault h.order) h.finish
  pub marked : list_any is_fault h.order ≡ list_any (λ e. is_in_doubt e.outcome) h.finish

-- ---- legal
pub record IsLegal (session : ScriptSession) (opening : Items) (h : SessionHistory) : Type 0 where
  pub shows : ShowsItems h.schemas opening
  pub clients : AreClientRuns 1 (desk_of h) session.clients h.acts
  pub desk : IsDeskRun (desk_of h)
  pub theirs : AreOfClients (length session.clients) h.order
  pub serial : HasSerialResults opening h
  pub in_order : IsInOrder h.finish
  pub finish_fits : FinishFits h.order (map number_of_entry h.finish)
  pub faults : FaultsFit h

abbrev pub items_at_end : Items → SessionHistory → Items
items_at_end opening h = items_after opening (by_number h.finish)

-- ---- what is told
abbrev pub has_of : Name × Database → Has
has_of e = record { name = e.0; version = e.1.version }

abbrev pub commits_of : List (FinishEntry Script Note) → List (FinishEntry Script Note)
commits_of finish = filter (λ e. did_commit e.outcome && may_write e.body) finish

-- ---- the commits, as a log has them
abbrev pub record_of_entry : FinishEntry Script Note → LogRecord
record_of_entry e = record { number = e.number; deltas = e.changes }

abbrev pub records_logged : List (FinishEntry Script Note) → List LogRecord
records_logged finish = map record_of_entry (commits_of finish)

abbrev pub commit_at : List DeskStep → LogRecord → Commit
commit_at order r = record { strict = is_strict (durability_drawn order r.number); logged = r }

abbrev pub commits_at : List DeskStep → List LogRecord → List Commit
commits_at order records = map (commit_at order) records

abbrev pub in_doubt_of : List (FinishEntry Script Note) → List (FinishEntry Script Note)
in_doubt_of finish = filter (λ e. is_in_doubt e.outcome) finish

abbrev pub records_in_doubt : List (FinishEntry Script Note) → List LogRecord
records_in_doubt finish = map record_of_entry (in_doubt_of finish)

-- ---- the end
-- its last flush may meet a fault
abbrev pub EndsSo : Bool → List Commit → End → Type 0
EndsSo drop_end (c ∷ cs) log_end = log_end ≡ FailedCommit c
EndsSo true [] log_end = log_end ≡ Dropped
EndsSo false [] log_end = (log_end ≡ Flushed) ⊎ (log_end ≡ FailedFlush)

abbrev pub report_end : End → ReportEnd
report_end Dropped = end.Drop
report_end Flushed = end.Flush
report_end (FailedCommit c) = end.Fault
report_end FailedFlush = end.Fault
report_end FailedCheckpoint = end.Fault

-- ---- the report
pub record IsReportOf (of : ScriptSession) (number : ℕ) (items : Items) (h : SessionHistory) (log_end : End) (report : Report) : Type 0 where
  pub session : report.session ≡ number
  pub opening : report.opening ≡ map has_of (finite.entries items)
  pub lines : report.clients ≡ map lines_of_acts h.acts
  pub order : report.order ≡ map token_of h.order
  pub finish : report.finish ≡ map number_of_entry h.finish
  pub commits : report.commits ≡ map number_of_entry (commits_of h.finish)
  pub pending : report.pending ≡ pending_of (desk_run (desk_of h))
  pub end : report.end ≡ report_end log_end

-- the report of the session of this number, from these databases to those
pub record IsLegalReport (session : ScriptSession) (number : ℕ) (opening : Items) (report : Report) (commits : List Commit) (log_end : End) (closing : Items) : Type 0 where
  pub history : SessionHistory
  pub legal : IsLegal session opening history
  pub told : IsReportOf session number opening history log_end report
  pub logged : commits ≡ commits_at history.order (records_logged history.finish)
  pub ended : EndsSo session.drop_end (commits_at history.order (records_in_doubt history.finish)) log_end
  pub left : closing ≡ items_at_end opening history
