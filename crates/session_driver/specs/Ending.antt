-- How a session begins and ends.
--     BeginsOn              the databases on which it begins, with the schemas and the lines of its opening
--     RanTo                 it was driven to its end, and its log was ended
--     ReportsOn             a legal report, with which each image of the disk is found as so many of its commits as may be kept
--     StopsOn               a session that stopped: so it is with the commits that its log was told, which are those of what it had done, and
--                           a fault by which the log ended had its cause, and was counted
use Rattle.std.specs.Prelude.{◌≡◌, ℕ, List, [], map}
use Rattle.std.specs.FinMap as finite
use Rattle.edge_traits.specs.Faults.{Rose}
use Rattle.disk_trait.specs.Disk.{DiskView, EachImage}
use Rattle.idb_schema.specs.Schemas.{SchemaData}
use Rattle.idb_desk.specs.Steps.{DeskRun}
use Rattle.desk_facts.specs.Databases.{AreOpenable}
use Rattle.item_changes.specs.Items.{Items}
use Rattle.log_history.specs.Batching.{Commit}
use Rattle.log_history.specs.Kept.{End, with_doubt}
use Rattle.tx_book.specs.Follows.{IsFoundKept}
use Rattle.report_lines.specs.declared.reports.Has.{Has}
use Rattle.report_lines.specs.declared.reports.Report.{Report}
use Rattle.report_lines.specs.declared.reports.ReportEnd.TheVariants as end
use Rattle.script_statements.specs.declared.script.ScriptSession.{ScriptSession}
use Rattle.legal_sessions.specs.Histories.{ShowsItems}
use Rattle.legal_sessions.specs.Legal.{has_of, EndsSo, report_end, IsLegalReport}
use Rattle.session_books.specs.States.{HadCause}
use Rattle.session_states.specs.Sessions.{IsAtEnd}
use Rattle.interrupted_sessions.specs.Interrupted.{WasInterrupted}
use Rattle.office_moves.specs.Fitting.{AreFew}
use Rattle.office_moves.specs.Scenes.{DoneNow, IsOpening}
use Rattle.session_driver.specs.declared.seats.Seat.{Seat}
use Rattle.session_driver.specs.Seats.{session_seen, IsDriving}

pub record BeginsOn (databases : Items) (schemas : List SchemaData) (lines : List Has) (done : DoneNow) : Type 0 where
  pub items : databases ≡ done.opening
  pub finish : done.finish ≡ []
  pub commits : done.commits ≡ []
  pub doubts : done.doubts ≡ []
  pub shows : ShowsItems schemas done.opening
  pub openable : AreOpenable schemas
  pub few : AreFew schemas
  pub opened : IsOpening done.opening
  pub lines_are : lines ≡ map has_of (finite.entries done.opening)

-- nobody has anything left to do, and the log was ended
pub record RanTo (session : ScriptSession) (r : DeskRun) (seats : List Seat) (done : DoneNow) (items : Items) (log_end : End) : Type 0 where
  pub driving : IsDriving session r seats done items
  pub at_end : IsAtEnd (session_seen r seats done items)
  pub ends : EndsSo session.drop_end done.doubts log_end

-- the end of its log is that of the report: at the commit in doubt, at the flush, or as the session says
pub record ReportsOn (session : ScriptSession) (number : ℕ) (opening : Items) (report : Report) (left : DiskView) : Type 0 where
  pub commits : List Commit
  pub log_end : End
  pub closing : Items
  pub legal : IsLegalReport session number opening report commits log_end closing
  pub cause : HadCause commits log_end
  pub images : EachImage left (IsFoundKept opening commits log_end)

pub record StopsOn (session : ScriptSession) (opening : Items) (old left : DiskView) : Type 0 where
  pub commits : List Commit
  pub log_end : End
  pub made : WasInterrupted session opening commits (with_doubt [] log_end)
  pub cause : HadCause commits log_end
  pub fault : report_end log_end ≡ end.Fault → Rose old.faults left.faults
  pub images : EachImage left (IsFoundKept opening commits log_end)
