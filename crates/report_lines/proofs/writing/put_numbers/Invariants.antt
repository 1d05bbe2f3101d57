use Rattle.std.proofs.Common.{◌≡◌, [], ◌∷◌, ◌++◌, map, drop}
use Rattle.std.specs.Prelude.{decimal}
use Rattle.report_lines.specs.Words.{text_of_words}
use Rattle.report_lines.proofs.WordsLemmas.{behind_spaces}
use Rattle.report_lines.proofs.writing.put_numbers.Given as goal

-- the words so far, and then those that are left, are all
abbrev pub invariant-loop-number : goal.invariant-loop-number
invariant-loop-number l = l.out.items ++ (behind_spaces (map decimal (drop l.number-index l.numbers)) ++ 10 ∷ []) ≡ l.fn.out.items ++ text_of_words (l.word ∷ map decimal l.numbers)
