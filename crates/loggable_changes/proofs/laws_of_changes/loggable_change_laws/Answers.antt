use Rattle.std.proofs.Common.{arith}
use Rattle.loggable_changes.proofs.Requests.{loggable_both}
use Rattle.loggable_changes.proofs.Turns.{opening_loggable}
use Rattle.loggable_changes.proofs.laws_of_changes.loggable_change_laws.Goals as goal

pub returns-clause-opening : goal.returns-clause-opening
returns-clause-opening c mode schema fits = opening_loggable mode schema fits

pub returns-clause-both : goal.returns-clause-both
returns-clause-both c before more h k = loggable_both before more h k

pub returns-clause-count : goal.returns-clause-count
returns-clause-count c changes few = omega (arith, few)

pub returns-clause-deletion : goal.returns-clause-deletion
returns-clause-deletion c name = ((tt, tt), omega arith)
