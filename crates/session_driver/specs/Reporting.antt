-- What a driver reports of a session.
--     lines_seen            the lines of a client
--     report_told           the report
use Rattle.std.specs.Prelude.{ℕ, List, map}
use Rattle.idb_desk.specs.Steps.{DeskRun, desk_run}
use Rattle.idb_desk.specs.Tokens.{token_of}
use Rattle.idb_desk.specs.Waiting.{pending_of}
use Rattle.report_lines.specs.declared.lines.Line.{Line}
use Rattle.report_lines.specs.declared.reports.Has.{Has}
use Rattle.report_lines.specs.declared.reports.Report.{Report}
use Rattle.report_lines.specs.declared.reports.ReportEnd.{ReportEnd}
use Rattle.client_machine.specs.Acts.{written_from}
use Rattle.session_driver.specs.declared.seats.Seat.{Seat}

abbrev pub lines_seen : Seat → List Line
lines_seen s = written_from 0 s.notes

abbrev pub report_told : DeskRun → List Seat → List Has → List ℕ → List ℕ → ℕ → ReportEnd → Report
report_told r seats opening finish commits number end = record {
  session = number;
  opening = opening;
  clients = map lines_seen seats;
  order = map token_of r.order;
  finish = finish;
  commits = commits;
  pending = pending_of (desk_run r);
  end = end;
}
