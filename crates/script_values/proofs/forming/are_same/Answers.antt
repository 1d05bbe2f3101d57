use Rattle.script_values.proofs.Steps.{same_is}
use Rattle.script_values.proofs.forming.are_same.Goals as goal

pub returns-in-Some : goal.returns-in-Some
returns-in-Some c = rw (← c.both_parts.ensures) (rw c.in-Some.is (same_is _ _ _ c.same_value.ensures))
