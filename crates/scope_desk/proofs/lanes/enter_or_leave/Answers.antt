use Rattle.std.proofs.Common.{◌∙◌}
use Rattle.scope_desk.proofs.LaneLemmas.{put_back}
use Rattle.scope_desk.proofs.lanes.enter_or_leave.Goals as goal

pub returns-in-Err-clause-unchanged : goal.returns-in-Err-clause-unchanged
returns-in-Err-clause-unchanged c = λ k. c.leave_all.ensures k ∙ put_back c.args.number _ _ _ (c.requires k) (c.in-Err.ensures.some k)
