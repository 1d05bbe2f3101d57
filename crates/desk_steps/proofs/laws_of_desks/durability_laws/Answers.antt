use Rattle.desk_steps.proofs.Relaxing.{durability_stays}
use Rattle.desk_steps.proofs.laws_of_desks.durability_laws.Goals as goal

pub returns : goal.returns
returns c = record { stays = durability_stays }
