use Rattle.std.proofs.Common.{◌≡◌, [], ◌∷◌, ◌++◌, map, drop}
use Rattle.std.specs.Prelude.{codes}
use Rattle.report_lines.specs.ReportText.{word_of_token}
use Rattle.report_lines.specs.Words.{text_of_words}
use Rattle.report_lines.proofs.WordsLemmas.{behind_spaces}
use Rattle.report_lines.proofs.writing.put_order.Given as goal

-- the words so far, and then those that are left, are all
abbrev pub invariant-loop-token : goal.invariant-loop-token
invariant-loop-token l = l.out.items ++ (behind_spaces (map word_of_token (drop l.token-index l.order)) ++ 10 ∷ []) ≡ l.fn.out.items ++ text_of_words (codes "order" ∷ map word_of_token l.order)
