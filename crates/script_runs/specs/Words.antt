-- What goes with a run of a block, and what statements are called.
--     with_variable         an environment with a variable set
--     variable_in           what a variable holds, Undefined where it isn't set
--     branch_of             the block that `if` takes
--     op_of                 the name of a statement
--     is_action             whether a statement acts on the world of the run, and not on the run alone
use Rattle.std.specs.Prelude.{ℕ, pos, Bool, true, false, List, [], ◌∷◌, if◌then◌else◌, Option, Some, None, unwrap_or, codes}
use Rattle.clone_values.specs.Tree.{Tree, undefined, boolean, int}
use Rattle.clone_values.specs.Names.{get_member, set_member}
use Rattle.script_exprs.specs.Expression.{Expression}
use Rattle.script_values.specs.Evaluating.{value_in, given_by}
use Rattle.idb_keys.specs.declared.names.ErrorName.{ErrorName}
use Rattle.report_lines.specs.declared.lines.Line.TheVariants as line
use Rattle.script_statements.specs.declared.statement.Stmt.{Stmt}
use Rattle.script_statements.specs.declared.statement.Stmt.TheVariants as stmt
use Rattle.script_runs.specs.declared.environments.Env.{Env}
use Rattle.script_runs.specs.declared.notes.Task.{Task}
use Rattle.script_runs.specs.declared.notes.Note.{Note}
use Rattle.script_runs.specs.declared.notes.Note.TheVariants as note

-- ---- variables
abbrev pub with_variable : Env → List ℕ → Tree → Env
with_variable env name t = record env { variables = set_member env.variables name t }

abbrev pub variable_in : Env → List ℕ → Tree
variable_in env name = unwrap_or (get_member env.variables name) undefined

-- the number of a round, from 0
abbrev pub with_turn_set : Env → Tree → Env
with_turn_set env t = with_variable env (codes "turn") t

abbrev pub turn_in : Env → Tree
turn_in env = variable_in env (codes "turn")

-- ---- what a run writes
abbrev pub said : Env → Expression → Note
said env e = note.Line (line.Say (given_by env.variables e))

abbrev pub threw : Note
threw = note.Line line.Throw

abbrev pub post_noted : ℕ → Env → Note
post_noted block env = note.Posted (record { block = block; env = env })

-- ---- statements
abbrev pub is_true : Tree → Bool
is_true (boolean b) = b
is_true _ = false

-- the one block where the test is true, else the other
abbrev pub branch_of : Env → Expression → Option ℕ → Option ℕ → Option ℕ
branch_of env test if_so if_not = if is_true (value_in env.variables test) then if_so else if_not

abbrev pub op_of : Stmt → List ℕ
op_of (stmt.Open db version upgrade blocked success error version_change closed) = codes "open"
op_of (stmt.DeleteDatabase db blocked success error) = codes "deleteDatabase"
op_of (stmt.Close conn) = codes "close"
op_of (stmt.Transaction conn scope mode durability body complete abort) = codes "transaction"
op_of (stmt.Post block) = codes "post"
op_of (stmt.Repeat times block) = codes "repeat"
op_of (stmt.If test if_so if_not) = codes "if"
op_of (stmt.Let name value) = codes "let"
op_of (stmt.Say value) = codes "say"
op_of stmt.Throw = codes "throw"
op_of (stmt.Add store value key success error) = codes "add"
op_of (stmt.Put store value key success error) = codes "put"
op_of (stmt.Get store index query range success error) = codes "get"
op_of (stmt.GetKey store index query range success error) = codes "getKey"
op_of (stmt.Count store index query range success error) = codes "count"
op_of (stmt.GetAll store index query range count success error) = codes "getAll"
op_of (stmt.GetAllKeys store index query range count success error) = codes "getAllKeys"
op_of (stmt.Delete store query range success error) = codes "delete"
op_of (stmt.Clear store success error) = codes "clear"
op_of (stmt.OpenCursor store index query range direction success error) = codes "openCursor"
op_of (stmt.OpenKeyCursor store index query range direction success error) = codes "openKeyCursor"
op_of (stmt.Continue key) = codes "continue"
op_of (stmt.ContinuePrimaryKey key primary_key) = codes "continuePrimaryKey"
op_of (stmt.Advance count) = codes "advance"
op_of (stmt.Update value success error) = codes "update"
op_of (stmt.DeleteHere success error) = codes "deleteHere"
op_of stmt.Commit = codes "commit"
op_of stmt.Abort = codes "abort"
op_of stmt.Prevent = codes "prevent"
op_of (stmt.CreateObjectStore store key_path auto_increment) = codes "createObjectStore"
op_of (stmt.DeleteObjectStore store) = codes "deleteObjectStore"
op_of (stmt.CreateIndex store index key_path unique multi_entry) = codes "createIndex"
op_of (stmt.DeleteIndex store index) = codes "deleteIndex"

abbrev pub refusal_noted : Stmt → ErrorName → Note
refusal_noted s name = note.Line (line.Refused (op_of s) name)

abbrev pub is_action : Stmt → Bool
is_action (stmt.Post block) = false
is_action (stmt.Repeat times block) = false
is_action (stmt.If test if_so if_not) = false
is_action (stmt.Let name value) = false
is_action (stmt.Say value) = false
is_action stmt.Throw = false
is_action _ = true
