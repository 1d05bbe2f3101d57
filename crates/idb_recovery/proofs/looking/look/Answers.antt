use Rattle.std.proofs.Common.{◌≡◌, Err, ap, ◌∙◌}
use Rattle.std.proofs.lemmas.Result.{err_from_is_err_and}
use Rattle.idb_recovery.specs.declared.error.RecoverError.TheVariants.{Damaged}
use Rattle.idb_recovery.proofs.looking.look.Goals as goal

pub returns-in_err-held-clause-damaged : goal.returns-in_err-held-clause-damaged
returns-in_err-held-clause-damaged g c =
    let p = err_from_is_err_and c.from_residual-in_err-held.result c.from_residual-in_err-held.ensures.1 in
    rw (p.1, p.2) (λ area place is areas told.
    let same : c.in_err-held.field-0.0 ≡ Damaged area place = cc in
    c.in_err-held.ensures.damaged area place (ap Err same) areas (c.survey_areas.ensures.untouched.same_reads ∙ told))
