use Rattle.std.proofs.Common.{◌≡◌, ◌++◌, map, drop}
use Rattle.report_lines.specs.Words.{text_of_lines}
use Rattle.report_lines.specs.LineWords.{words_of_line}
use Rattle.report_lines.proofs.writing.put_lines.Given as goal

-- the text so far, and then the lines that are left, are that of all
abbrev pub invariant-loop-line : goal.invariant-loop-line
invariant-loop-line l = l.out.items ++ text_of_lines (map words_of_line (drop l.line-index l.lines)) ≡ l.fn.out.items ++ text_of_lines (map words_of_line l.lines)
