use Rattle.std.proofs.Common.{arith, sym, ◌∙◌}
use Rattle.client_parts.proofs.Once.{once_same, once_new}
use Rattle.client_parts.proofs.wishes.names_once.Goals as goal
use Rattle.client_parts.proofs.wishes.names_once.Goals.{in-Some+then-not-is_among+in_ok-copy+in_ok-push, in-Some+else-not-is_among, in_default}

pub loop-place-preserved : goal.loop-place-preserved
loop-place-preserved c = elim c.match-at.branch [
  | in-Some+then-not-is_among+in_ok-copy+in_ok-push w ↦ once_new _ _ c.loop-place.once _ _ _ c.loop-place.invariant w.in-Some.ensures.stands (sym w.is_among.ensures ∙ w.if-not-is_among.true) w.in_ok-copy.ensures (w.once-is ∙ w.in_ok-push.ensures.stored)
  | in-Some+else-not-is_among w ↦ once_same _ _ _ _ _ c.loop-place.invariant w.in-Some.ensures.stands (sym w.is_among.ensures ∙ w.if-not-is_among.false) w.once-is
  | in_default w ↦ absurd (omega (arith, w.in_default.ensures.past_end, c.len-place-end.ensures.count))
]
