use Rattle.clone_values.proofs.Built.{pushed, put, entered, set_in_object, set_in_array}
use Rattle.clone_values.proofs.CloneableLemmas.{still_cloneable}
use Rattle.clone_values.proofs.value_laws.building_laws.Goals as goal

pub returns : goal.returns
returns c = record { pushed = pushed; put = put; entered = entered; set_in_object = set_in_object; set_in_array = set_in_array; cloneable = still_cloneable }
