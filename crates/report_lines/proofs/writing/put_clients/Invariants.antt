use Rattle.std.proofs.Common.{◌≡◌, ◌+◌, ◌++◌, drop}
use Rattle.report_lines.specs.Words.{text_of_lines}
use Rattle.report_lines.specs.ReportText.{lines_of_clients}
use Rattle.report_lines.proofs.writing.put_clients.Given as goal

-- the text so far, and then the clients that are left, are that of all
abbrev pub invariant-loop-place : goal.invariant-loop-place
invariant-loop-place l = l.out.items ++ text_of_lines (lines_of_clients (l.place + 1) (drop l.place l.clients)) ≡ l.fn.out.items ++ text_of_lines (lines_of_clients 1 l.clients)
