use Rattle.sorted_table.proofs.Costs.{eleven}
use Rattle.sorted_table.proofs.tests.place_among_a_thousand.Goals as goal

pub returns : goal.returns
returns g c = eleven _ _ _ c.place_of.ensures.cost c.requires
