use Rattle.std.proofs.Common.{subst}
use Rattle.gate_areas.specs.Scan.{ScanIs}
use Rattle.gate_areas.proofs.Choosing.{second_broken, both_open}
use Rattle.gate_areas.proofs.choose.choose.Goals as goal

pub returns-in-Broken-one-2-clause-choice : goal.returns-in-Broken-one-2-clause-choice
returns-in-Broken-one-2-clause-choice c = λ areas zero one.
    second_broken _ _ _ areas (subst (λ scan. ScanIs scan areas.zero) c.in-Open.is zero) (subst (λ scan. ScanIs scan areas.one) c.in-Broken-one-2.is one)

pub returns-in-Open-one-2-clause-choice : goal.returns-in-Open-one-2-clause-choice
returns-in-Open-one-2-clause-choice c = λ areas zero one.
    both_open _ areas _ _ _ _ (subst (λ scan. ScanIs scan areas.zero) c.in-Open.is zero) (subst (λ scan. ScanIs scan areas.one) c.in-Open-one-2.is one)
    c.greater.ensures.same c.greater.ensures.first c.greater.ensures.second
