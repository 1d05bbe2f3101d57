-- The sessions of a script, one after another on a disk.
--     SessionRun            a session that began: what reads gave where it was opened, how often the disk had been started, the databases
--                           found there, its commits, and how its log ended
--     SessionDone           one that came to its report, with the databases that it left in memory
--     IsLeftBy              an image that a session may leave: it is found as so many of its commits as may be kept
--     HasMade               its commits, with one in doubt, are those of what it had done of its session
--     GivenAfter            what reads give where a session is opened: as the disk came, or what the session before it may leave
--     starts_of             how often the disk had been started, where the last session that began was opened, or as it came
--     starts_after_run      it is started again once behind a session, before the next one is opened
--     LeavesAfter           what a stop may leave after the last session that began; before the first, what it found as the disk came
--     BeginsAfter           a session began on what the one before it left, behind a start, and its databases are those that are found
--                           there; a disk that told its content as it came told it then
--     IsReported            its report is a legal one, on these databases with these commits and this end of its log; where it ended by a
--                           fault a batch was to be written
--     AreReported           each session has begun so, and is reported so, under its number
--     last_run, texts_of    the last session that began;  the texts of the reports, one after another
--     fault_ends            how many sessions ended by a fault of the disk
--     IsCounted             a count of faults rose at least by so many, or stands at the end of its 64 bits
--     StopsBetween          the first ones are reported, and then the program stopped
--     StopsWithin           the first ones are reported, and the next one began, and stopped before its report: its commits are those of
--                           what it had done, and a fault by which its log ended had its cause and is counted too
--     EndsBetween, EndsWithin     so, and just the texts of these reports were written
--     EndsAtOpening         it ended between two sessions, or before the first, and one more was to be opened
--     EndsByFault           it ended so by a fault of the disk: a fault was counted beside those that sessions ended by
--     IsCutOff              of the last of the reports a front was written, and all of those before it
use Rattle.std.specs.Prelude.{◌≡◌, ◌⊎◌, ⊤, ℕ, ◌+◌, ◌-◌, ◌^◌, ◌≤◌, List, [], ◌∷◌, ◌++◌, length, take, flat_map, Option, Some, None, is_some, Ok}
use Rattle.std.specs.Option.{ForSome}
use Rattle.std.specs.Io.KnownBytes.{Appends}
use Rattle.disk_trait.specs.Areas.{Areas}
use Rattle.disk_trait.specs.Disk.{DiskView, EachImage, NoNewImage, ComesFrom}
use Rattle.item_changes.specs.Items.{Items}
use Rattle.log_history.specs.Batching.{Commit}
use Rattle.log_history.specs.Kept.{End, with_doubt}
use Rattle.log_history.specs.Found.{found}
use Rattle.tx_book.specs.Follows.{IsFoundKept}
use Rattle.idb_recovery.specs.Recovered.{SameAnswer}
use Rattle.report_lines.specs.ReportText.{text_of_report}
use Rattle.report_lines.specs.declared.reports.Report.{Report}
use Rattle.report_lines.specs.declared.reports.ReportEnd.{ReportEnd}
use Rattle.report_lines.specs.declared.reports.ReportEnd.TheVariants as end
use Rattle.script_statements.specs.declared.script.ScriptSession.{ScriptSession}
use Rattle.legal_sessions.specs.Legal.{report_end, IsLegalReport}
use Rattle.session_driver.specs.Interrupted.{WasInterrupted}
use Rattle.session_books.specs.States.{HadCause}

-- ---- one session
pub record SessionRun : Type 0 where
  pub told : Option Areas
  pub starts : ℕ
  pub opening : Items
  pub commits : List Commit
  pub end : End

pub record SessionDone : Type 0 where
  pub run : SessionRun
  pub report : Report
  pub closing : Items

abbrev pub IsLeftBy : SessionRun → Areas → Type 0
IsLeftBy run image = IsFoundKept run.opening run.commits run.end image

abbrev pub HasMade : ScriptSession → SessionRun → Type 0
HasMade session run = WasInterrupted session run.opening run.commits (with_doubt [] run.end)

-- ---- between two sessions
abbrev pub GivenAfter : DiskView → Option SessionRun → Option Areas → Type 0
GivenAfter entry None told = told ≡ entry.reads
GivenAfter entry (Some before) told = ForSome told (IsLeftBy before)

abbrev pub starts_of : DiskView → Option SessionRun → ℕ
starts_of entry None = entry.starts
starts_of entry (Some run) = run.starts

abbrev pub starts_after_run : DiskView → Option SessionRun → ℕ
starts_after_run entry None = entry.starts
starts_after_run entry (Some before) = before.starts + 1

abbrev pub LeavesAfter : DiskView → Option SessionRun → DiskView → Type 0
LeavesAfter entry None left = NoNewImage entry left ⊎ EachImage left (ComesFrom SameAnswer entry)
LeavesAfter entry (Some last) left = EachImage left (IsLeftBy last)

pub record BeginsAfter (entry : DiskView) (before : Option SessionRun) (run : SessionRun) : Type 0 where
  pub given : GivenAfter entry before run.told
  pub tells : is_some run.told ≡ is_some entry.reads
  pub started : run.starts ≡ starts_after_run entry before
  pub found_so : ForSome run.told (λ areas. found areas ≡ Ok run.opening)

-- ---- all of them
abbrev pub IsReported : ℕ → ScriptSession → SessionDone → Type 0
IsReported number session done =
    IsLegalReport session number done.run.opening done.report done.run.commits done.run.end done.closing × HadCause done.run.commits done.run.end

abbrev pub AreReported : DiskView → Option SessionRun → ℕ → List ScriptSession → List SessionDone → Type 0
AreReported entry before number [] [] = ⊤
AreReported entry before number [] (done ∷ dones) = ⊥
AreReported entry before number (session ∷ sessions) [] = ⊥
AreReported entry before number (session ∷ sessions) (done ∷ dones) =
    BeginsAfter entry before done.run × IsReported number session done × AreReported entry (Some done.run) (number + 1) sessions dones

abbrev pub last_run : Option SessionRun → List SessionDone → Option SessionRun
last_run before [] = before
last_run before (done ∷ dones) = last_run (Some done.run) dones

abbrev pub texts_of : List SessionDone → List ℕ
texts_of dones = flat_map (λ done. text_of_report done.report) dones

-- ---- faults
abbrev pub one_if_fault : ReportEnd → ℕ
one_if_fault end.Flush = 0
one_if_fault end.Drop = 0
one_if_fault end.Fault = 1

abbrev pub fault_ends : List SessionDone → ℕ
fault_ends [] = 0
fault_ends (done ∷ dones) = one_if_fault done.report.end + fault_ends dones

abbrev pub IsCounted : ℕ → ℕ → ℕ → Type 0
IsCounted before many now = (before + many ≤ now) ⊎ (2 ^ 64 - 1 ≤ now)

-- ---- a program that stopped
pub record StopsBetween (entry left : DiskView) (sessions : List ScriptSession) (done : List SessionDone) : Type 0 where
  pub front : List ScriptSession
  pub rest : List ScriptSession
  pub split : sessions ≡ front ++ rest
  pub reported : AreReported entry None 1 front done
  pub leaves : LeavesAfter entry (last_run None done) left
  pub counted : IsCounted entry.faults (fault_ends done) left.faults

pub record StopsWithin (entry left : DiskView) (sessions : List ScriptSession) (done : List SessionDone) : Type 0 where
  pub front : List ScriptSession
  pub stopped : ScriptSession
  pub rest : List ScriptSession
  pub split : sessions ≡ front ++ stopped ∷ rest
  pub reported : AreReported entry None 1 front done
  pub run : SessionRun
  pub begun : BeginsAfter entry (last_run None done) run
  pub made : HasMade stopped run
  pub cause : HadCause run.commits run.end
  pub images : EachImage left (IsLeftBy run)
  pub counted : IsCounted entry.faults (fault_ends done + one_if_fault (report_end run.end)) left.faults

abbrev pub EndsBetween : (entry left : DiskView) → List ScriptSession → (held held_now : Option (List ℕ)) → Type 0
EndsBetween entry left sessions held held_now = (done : List SessionDone) × StopsBetween entry left sessions done × Appends held held_now (texts_of done)

abbrev pub EndsAtOpening : (entry left : DiskView) → List ScriptSession → (held held_now : Option (List ℕ)) → Type 0
EndsAtOpening entry left sessions held held_now =
    (done : List SessionDone) × (stops : StopsBetween entry left sessions done) × (1 ≤ length stops.rest) × Appends held held_now (texts_of done)

abbrev pub EndsByFault : (entry left : DiskView) → List ScriptSession → (held held_now : Option (List ℕ)) → Type 0
EndsByFault entry left sessions held held_now =
    (done : List SessionDone) × (stops : StopsBetween entry left sessions done) × (1 ≤ length stops.rest) × IsCounted entry.faults (fault_ends done + 1) left.faults × Appends held held_now (texts_of done)

abbrev pub EndsWithin : (entry left : DiskView) → List ScriptSession → (held held_now : Option (List ℕ)) → Type 0
EndsWithin entry left sessions held held_now = (done : List SessionDone) × StopsWithin entry left sessions done × Appends held held_now (texts_of done)

pub record IsCutOff (entry left : DiskView) (sessions : List ScriptSession) (held held_now : Option (List ℕ)) : Type 0 where
  pub whole : List SessionDone
  pub cut : SessionDone
  pub stops : StopsBetween entry left sessions (whole ++ cut ∷ [])
  pub n : ℕ
  pub front : n ≤ length (text_of_report cut.report)
  pub appended : Appends held held_now (texts_of whole ++ take n (text_of_report cut.report))
