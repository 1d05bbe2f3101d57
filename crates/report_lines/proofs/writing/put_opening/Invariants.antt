use Rattle.std.proofs.Common.{◌≡◌, ◌++◌, map, drop}
use Rattle.report_lines.specs.Words.{text_of_lines}
use Rattle.report_lines.specs.ReportText.{words_of_has}
use Rattle.report_lines.proofs.writing.put_opening.Given as goal

-- the text so far, and then the lines of the databases that are left, are that of all
abbrev pub invariant-loop-database : goal.invariant-loop-database
invariant-loop-database l = l.out.items ++ text_of_lines (map words_of_has (drop l.database-index l.opening)) ≡ l.fn.out.items ++ text_of_lines (map words_of_has l.opening)
