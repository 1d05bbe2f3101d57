use Rattle.log_history.proofs.Keeping.{strict, prefix, whole}
use Rattle.log_history.proofs.laws_of_keeping.kept_laws.Goals as goal

pub returns : goal.returns
returns c = record { strict = strict; prefix = prefix; whole = whole }
