use Rattle.script_values.proofs.Steps.{given_is}
use Rattle.script_values.proofs.evaluating.value_of_expr.Goals as goal

pub returns-clause-value : goal.returns-clause-value
returns-clause-value c = given_is _ _ _ c.evaluate.ensures.tree
