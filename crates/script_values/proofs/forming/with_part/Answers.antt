use Rattle.std.proofs.Common.{rules}
use Rattle.script_values.proofs.Steps.{property_is}
use Rattle.script_values.proofs.forming.with_part.Goals as goal

pub returns-in_ok-set-in-Some-Object-default : goal.returns-in_ok-set-in-Some-Object-default
returns-in_ok-set-in-Some-Object-default c = rw (← c.both_parts.ensures) (rw c.in-Some-Object-default.is (search (rules, property_is)))
