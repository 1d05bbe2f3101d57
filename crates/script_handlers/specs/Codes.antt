-- A code of handlers.
--     script_code           by which a proof tells two handlers apart
use Rattle.std.specs.Coded.{Coded, codes}
use Rattle.clone_values.specs.Tree.{tree_code}
use Rattle.script_exprs.specs.Expression.{expression_code}
use Rattle.script_handlers.specs.Handling.{Script}

pub script_code : Coded Script
script_code = hlevel (codes, expression_code, tree_code)
