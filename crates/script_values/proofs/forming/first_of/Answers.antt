use Rattle.std.proofs.Common.{arith}
use Rattle.script_values.proofs.Steps.{first_on}
use Rattle.script_values.proofs.forming.first_of.Goals as goal

pub loop-place-preserved : goal.loop-place-preserved
loop-place-preserved c = rw c.in_ok-push.ensures.stored (first_on _ _ _ c.loop-place.place _ _ _ (rw c.in_ok-clone-2.ensures.cases c.in-Some.ensures.stands) (omega (arith, c.loop-place-test.true)) c.loop-place.invariant)
