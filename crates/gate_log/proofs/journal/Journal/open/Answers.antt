use Rattle.std.proofs.Common.{⊎_elim, ◌∙◌}
use Rattle.gate_log.proofs.journal.Journal.open.Goals as goal

pub returns-in-Err-clause-damaged : goal.returns-in-Err-clause-damaged
returns-in-Err-clause-damaged g c = λ area place is image left.
    let from = c.in-Err.ensures.left_synced (λ fault. absurd (cc (is, fault))) image left in
    let was = c.in-Err.ensures.damaged area place is from.given from.was_given in
    ⊎_elim (λ same. same ∙ was) (λ new. absurd (cc (new.0, was))) from.stepped.found
