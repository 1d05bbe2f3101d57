-- A session that came to its report, and one that stopped.
--     goes_on               the book behind several steps
--     fault_ends            a report that ends by a fault is of a log that met one
--     reports_on            what it reports is legal, and each image of the disk is found as so many of its commits as may be kept
--     risen                 a log that ended by a fault has counted it
--     stops_on              of one that stopped the images, and what it had done
use Rattle.std.proofs.Common.{◌≡◌, ◌⊎◌, ◌≤◌, ◌<◌, ℕ, ◌-◌, ◌^◌, Bool, true, false, List, [], ◌∷◌, map, inl, inr, refl, sym, ◌∙◌, ap, subst, arith}
use Rattle.std.specs.FinMap as finite
use Rattle.edge_traits.specs.Faults.{Rose}
use Rattle.disk_trait.specs.Disk.{DiskView, EachImage}
use Rattle.idb_desk.specs.Steps.{DeskRun}
use Rattle.item_changes.specs.Items.{Items}
use Rattle.log_history.specs.Batching.{Commit}
use Rattle.log_history.specs.Kept.{End, Dropped, Flushed, FailedCommit, FailedFlush, FailedCheckpoint, with_doubt}
use Rattle.tx_book.specs.Follows.{IsFoundKept}
use Rattle.report_lines.specs.declared.reports.Has.{Has}
use Rattle.report_lines.specs.declared.reports.Report.{Report}
use Rattle.report_lines.specs.declared.reports.ReportEnd.TheVariants as end
use Rattle.script_statements.specs.declared.script.ScriptSession.{ScriptSession}
use Rattle.legal_sessions.specs.Legal.{has_of, EndsSo, report_end, IsLegalReport}
use Rattle.session_books.specs.States.{SessionBookState, takes_more, HadCause}
use Rattle.session_states.specs.Sessions.{commit_numbers}
use Rattle.interrupted_sessions.specs.Interrupted.{WasInterrupted}
use Rattle.office_moves.specs.Running.{BookGoesOn}
use Rattle.office_moves.specs.Scenes.{DoneNow, is_open_end, met_fault}
use Rattle.session_driver.specs.declared.seats.Seat.{Seat}
use Rattle.session_driver.specs.Ending.{RanTo, ReportsOn, StopsOn}
use Rattle.session_driver.specs.Reporting.{report_told}
use Rattle.session_driver.proofs.Driving.{LegalLaw, session_legal}

-- ---- its log

-- ---- the book
not_both : {Y : Type 0} (b : Bool) → b ≡ false → b ≡ true → Y
not_both true p q = cc
not_both false p q = cc

rose_later : (a b c : ℕ) → Rose a b → b ≤ c → Rose a c
rose_later a b c (inl less) le = inl (omega (arith, less, le))
rose_later a b c (inr most) le = inr (omega (arith, most, le))

rose_before : (a b c : ℕ) → a ≤ b → Rose b c → Rose a c
rose_before a b c le (inl less) = inl (omega (arith, less, le))
rose_before a b c le (inr most) = inr most

pub goes_on : {D : Type 0} (shows : D → DiskView) (old mid new : SessionBookState D) → BookGoesOn shows old mid → BookGoesOn shows mid new → BookGoesOn shows old new
goes_on shows old mid new a b = record {
  opening = b.opening ∙ a.opening;
  rose = λ before now. by (met_fault mid.end) refl before now;
  count = over a.count b.count;
  started = b.started ∙ a.started;
  told = b.told ∙ a.told;
}
  where
    over : {m n o : ℕ} → m ≤ n → n ≤ o → m ≤ o
    over p q = omega (arith, p, q)

    by : (t : Bool) → met_fault mid.end ≡ t → met_fault old.end ≡ false → met_fault new.end ≡ true → Rose (shows old.log.disk).faults (shows new.log.disk).faults
    by false is before now = rose_before (shows old.log.disk).faults (shows mid.log.disk).faults (shows new.log.disk).faults a.count (b.rose is now)
    by true is before now = rose_later (shows old.log.disk).faults (shows mid.log.disk).faults (shows new.log.disk).faults (a.rose before is) b.count

pub fault_ends : (log_end : End) → report_end log_end ≡ end.Fault → met_fault log_end ≡ true
fault_ends Dropped is = cc
fault_ends Flushed is = cc
fault_ends (FailedCommit c) is = refl
fault_ends FailedFlush is = refl
fault_ends FailedCheckpoint is = refl

-- ---- its report
pub reports_on : LegalLaw → (session : ScriptSession) (number : ℕ) (r : DeskRun) (seats : List Seat) (done : DoneNow) (items : Items) (lines : List Has) (report : Report) (opening : Items) (log_end : End) (left : DiskView)
    → RanTo session r seats done items log_end → lines ≡ map has_of (finite.entries done.opening)
    → report ≡ report_told r seats lines done.finish (commit_numbers done.commits) number (report_end log_end)
    → done.opening ≡ opening → HadCause done.commits log_end → EachImage left (IsFoundKept done.opening done.commits log_end) → ReportsOn session number opening report left
reports_on law session number r seats done items lines report opening log_end left ran lines_are report_is opened cause images = record {
  commits = done.commits;
  log_end = log_end;
  closing = items;
  legal = subst (λ (is : Items). IsLegalReport session number is report done.commits log_end items) opened (session_legal law session number r seats done items lines log_end report ran lines_are report_is);
  cause = cause;
  images = subst (λ (is : Items). EachImage left (IsFoundKept is done.commits log_end)) opened images;
}

pub risen : {D : Type 0} (shows : D → DiskView) (fresh begun ran : SessionBookState D) (disk : D) → begun ≡ fresh → met_fault fresh.end ≡ false → BookGoesOn shows begun ran → disk ≡ ran.log.disk
    → report_end ran.end ≡ end.Fault → Rose (shows fresh.log.disk).faults (shows disk).faults
risen shows fresh begun ran disk is none goes left e =
    subst (λ d. Rose (shows fresh.log.disk).faults (shows d).faults) (sym left)
    (subst (λ (b : SessionBookState _). Rose (shows b.log.disk).faults (shows ran.log.disk).faults) is (goes.rose (ap (λ (b : SessionBookState _). met_fault b.end) is ∙ none) (fault_ends ran.end e)))

pub stops_on : (session : ScriptSession) (done : DoneNow) (log_end : End) (old left : DiskView) (opening : Items) → done.opening ≡ opening → WasInterrupted session done.opening done.commits (with_doubt [] log_end) → HadCause done.commits log_end → (report_end log_end ≡ end.Fault → Rose old.faults left.faults)
    → EachImage left (IsFoundKept done.opening done.commits log_end) → StopsOn session opening old left
stops_on session done log_end old left opening opened made cause fault images = record { commits = done.commits; log_end = log_end; made = subst (λ (is : Items). WasInterrupted session is done.commits (with_doubt [] log_end)) opened made; cause = cause; fault = fault; images = subst (λ (is : Items). EachImage left (IsFoundKept is done.commits log_end)) opened images }
