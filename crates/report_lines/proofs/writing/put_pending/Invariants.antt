use Rattle.std.proofs.Common.{◌≡◌, ◌++◌, map, drop}
use Rattle.report_lines.specs.Words.{text_of_lines}
use Rattle.report_lines.specs.ReportText.{words_of_pending}
use Rattle.report_lines.proofs.writing.put_pending.Given as goal

-- the text so far, and then the lines that are left, are that of all
abbrev pub invariant-loop-place : goal.invariant-loop-place
invariant-loop-place l = l.out.items ++ text_of_lines (map words_of_pending (drop l.place l.pending)) ≡ l.fn.out.items ++ text_of_lines (map words_of_pending l.pending)
