use Rattle.key_paths.proofs.StaysCloneable.{stays_cloneable}
use Rattle.key_paths.proofs.ValuesInjected.{injected_formed}
use Rattle.key_paths.proofs.injection.injection_laws.Goals as goal

pub returns : goal.returns
returns c = record { value = injected_formed; cloneable = stays_cloneable }
