use Rattle.std.proofs.Common.{sym}
use Rattle.scope_desk.proofs.Keeping.{kept_less, same_where_none}
use Rattle.scope_desk.proofs.unfinished.leave.Goals as goal

pub returns-in-Some-clause-kept : goal.returns-in-Some-clause-kept
returns-in-Some-clause-kept c = rw c.take_out.ensures.left (kept_less c.args.tickets.now.items c.in-Some.ticket c.args.next c.args.number _ _ _ _ c.requires (sym c.in-Some.ensures.given)
    (λ k. rw (← c.as_slice-scope.ensures) (c.leave_all.ensures k)) (λ k. rw (← c.as_slice-scope.ensures) (c.leave_all-in-Some.ensures k)))

pub returns-in_default-clause-kept : goal.returns-in_default-clause-kept
returns-in_default-clause-kept c = rw (c.in_default.ensures.left, same_where_none c.args.number c.args.tickets.now.items (sym c.in_default.ensures.given)) c.requires
