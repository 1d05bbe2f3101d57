use Rattle.scope_desk.proofs.Starting.{least_goes}
use Rattle.scope_desk.proofs.laws_of_starts.start_laws.Goals as goal

pub returns : goal.returns
returns c = least_goes
