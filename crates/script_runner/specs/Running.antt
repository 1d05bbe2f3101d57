-- What the parts of the program do with one session and with all of them.
--     IsOpenedOn            a session began on what reads give, and its databases are those that are found there
--     IsUnopened            no session began: the images are as before, or are found as what reads gave
--     RanOn                 a session ran to this report
--     StopsIn               a session began, and stopped, with the commits of what it had done
--     StopsBy               why no session was reported; `cut` is what is said of one whose report was written in part
--     EndsBy                why not all sessions were reported
--     RanSoFar              the first sessions are reported, and the rest are to run
use Rattle.std.specs.Prelude.{◌≡◌, ◌⊎◌, ℕ, ◌<◌, List, ◌++◌, length, Option, None, Ok, Err}
use Rattle.std.specs.Option.{ForSome}
use Rattle.std.specs.Io.KnownBytes.{Appends}
use Rattle.edge_traits.specs.Faults.{Rose}
use Rattle.disk_trait.specs.Disk.{DiskView, EachImage, NoNewImage, ComesFrom, WhereTold}
use Rattle.item_changes.specs.Items.{Items}
use Rattle.log_history.specs.Found.{found}
use Rattle.idb_recovery.specs.Recovered.{SameAnswer}
use Rattle.report_lines.specs.declared.reports.Report.{Report}
use Rattle.report_lines.specs.declared.reports.ReportEnd.TheVariants as end
use Rattle.script_statements.specs.declared.script.ScriptSession.{ScriptSession}
use Rattle.legal_sessions.specs.Legal.{report_end, IsLegalReport}
use Rattle.session_books.specs.States.{HadCause}
use Rattle.script_runner.specs.Sessions.{SessionRun, SessionDone, IsLeftBy, HasMade, starts_of, LeavesAfter, AreReported, last_run, texts_of, fault_ends, IsCounted, EndsBetween, EndsAtOpening, EndsByFault, EndsWithin, IsCutOff}
use Rattle.script_runner.specs.declared.stops.Stop.{Stop}
use Rattle.script_runner.specs.declared.stops.Stop.TheVariants as stop

-- ---- one session
pub record IsOpenedOn (old : DiskView) (run : SessionRun) : Type 0 where
  pub told : run.told ≡ old.reads
  pub started : run.starts ≡ old.starts
  pub found_so : ForSome run.told (λ areas. found areas ≡ Ok run.opening)

abbrev pub IsUnopened : (old left : DiskView) → Type 0
IsUnopened old left = NoNewImage old left ⊎ EachImage left (ComesFrom SameAnswer old)

pub record RanOn (old left : DiskView) (number : ℕ) (session : ScriptSession) (report : Report) : Type 0 where
  pub run : SessionRun
  pub closing : Items
  pub opened : IsOpenedOn old run
  pub legal : IsLegalReport session number run.opening report run.commits run.end closing
  pub cause : HadCause run.commits run.end
  pub started : left.starts ≡ old.starts
  pub fault : report.end ≡ end.Fault → Rose old.faults left.faults
  pub images : EachImage left (IsLeftBy run)

pub record StopsIn (session : ScriptSession) (old left : DiskView) : Type 0 where
  pub run : SessionRun
  pub opened : IsOpenedOn old run
  pub made : HasMade session run
  pub cause : HadCause run.commits run.end
  pub fault : report_end run.end ≡ end.Fault → Rose old.faults left.faults
  pub images : EachImage left (IsLeftBy run)

abbrev pub StopsBy : (cut : Type 0) → ScriptSession → Stop → (old left : DiskView) → Type 0
StopsBy cut session stop.DiskFault old left = IsUnopened old left × Rose old.faults left.faults
StopsBy cut session (stop.Damaged area place) old left = IsUnopened old left × WhereTold old (λ areas. found areas ≡ Err (area, place))
StopsBy cut session stop.WriteFault old left = cut
StopsBy cut session stop.NoMemory old left = IsUnopened old left ⊎ StopsIn session old left

-- ---- all sessions
abbrev pub EndsBy : Stop → (entry left : DiskView) → List ScriptSession → (held held_now : Option (List ℕ)) → Type 0
EndsBy stop.DiskFault entry left sessions held held_now = EndsByFault entry left sessions held held_now × Rose entry.faults left.faults
EndsBy (stop.Damaged area place) entry left sessions held held_now =
    EndsAtOpening entry left sessions held held_now × (0 < length sessions) × WhereTold entry (λ areas. found areas ≡ Err (area, place))
EndsBy stop.WriteFault entry left sessions held held_now = IsCutOff entry left sessions held held_now
EndsBy stop.NoMemory entry left sessions held held_now = EndsBetween entry left sessions held held_now ⊎ EndsWithin entry left sessions held held_now

-- before the first one the disk is as it came
pub record RanSoFar (entry now : DiskView) (all rest : List ScriptSession) (held held_now : Option (List ℕ)) (number : ℕ) : Type 0 where
  pub front : List ScriptSession
  pub done : List SessionDone
  pub split : all ≡ front ++ rest
  pub reported : AreReported entry None 1 front done
  pub leaves : LeavesAfter entry (last_run None done) now
  pub started : now.starts ≡ starts_of entry (last_run None done)
  pub counted : IsCounted entry.faults (fault_ends done) now.faults
  pub appended : Appends held held_now (texts_of done)
  pub many : number ≡ length front
  pub fresh : number ≡ 0 → now.reads ≡ entry.reads
