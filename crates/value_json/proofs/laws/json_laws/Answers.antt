use Rattle.value_json.proofs.RoundTrip.{reads_back}
use Rattle.value_json.proofs.laws.json_laws.Goals as goal

pub returns : goal.returns
returns c = reads_back
