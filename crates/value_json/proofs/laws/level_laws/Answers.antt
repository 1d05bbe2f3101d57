use Rattle.value_json.proofs.LevelsLemmas.{by_levels}
use Rattle.value_json.proofs.laws.level_laws.Goals as goal

pub returns : goal.returns
returns c = by_levels
