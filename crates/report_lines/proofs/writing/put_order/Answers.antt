use Rattle.report_lines.proofs.WordsLemmas.{begun}
use Rattle.report_lines.proofs.writing.put_order.Goals as goal

pub loop-token-init : goal.loop-token-init
loop-token-init c = begun _ _ _ _ c.in_ok-put.ensures
