use Rattle.report_lines.proofs.WordsLemmas.{begun}
use Rattle.report_lines.proofs.writing.put_numbers.Goals as goal

pub loop-number-init : goal.loop-number-init
loop-number-init c = begun _ _ _ _ c.in_ok-put.ensures
