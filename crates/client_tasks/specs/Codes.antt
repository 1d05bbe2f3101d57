-- The code of an office, by which a proof tells two apart. It is found once, and stays shut.
--     office_code           of an office
use Rattle.std.specs.Prelude.{List}
use Rattle.std.specs.Coded.{Coded, codes}
use Rattle.clone_values.specs.Tree.{tree_code}
use Rattle.idb_desk.specs.Steps.{DeskRun}
use Rattle.script_exprs.specs.Expression.{expression_code}
use Rattle.script_statements.specs.declared.script.Block.{Block as Named}
use Rattle.client_parts.specs.Codes.{client_code}
use Rattle.task_statements.specs.Offices.{OfficeState}

blocks_code : Coded (List Named)
blocks_code = hlevel (codes, expression_code, tree_code)

run_code : Coded DeskRun
run_code = hlevel codes

pub office_code : Coded OfficeState
office_code = hlevel (codes, blocks_code, client_code, run_code)
