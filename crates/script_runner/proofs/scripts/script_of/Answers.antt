use Rattle.script_runner.proofs.Inputs.{reading_reaches}
use Rattle.script_runner.proofs.scripts.script_of.Goals as goal

pub returns : goal.returns
returns c = reading_reaches _ _ c.read_script.ensures.read c.read_script.ensures.no_text
