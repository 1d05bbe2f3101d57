use Rattle.serde_json.specs.View.{view}
use Rattle.value_json.proofs.WellFormedReading.{read_well}
use Rattle.value_json.proofs.reading.value_from_json.Goals as goal

pub returns-clause-well_formed : goal.returns-clause-well_formed
returns-clause-well_formed c = read_well (view c.args.j.now) c.read.result c.read.ensures
