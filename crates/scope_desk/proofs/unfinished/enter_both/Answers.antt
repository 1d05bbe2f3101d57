use Rattle.std.proofs.Common.{◌∙◌}
use Rattle.scope_desk.proofs.LaneLemmas.{undone}
use Rattle.scope_desk.proofs.unfinished.enter_both.Goals as goal

pub returns-in-Err-clause-all_else : goal.returns-in-Err-clause-all_else
returns-in-Err-clause-all_else c = λ k. c.leave_all.ensures k ∙ rw (c.in_ok-enter_or_leave.ensures.entered k) (undone c.args.number _ _ (c.requires.all k))
