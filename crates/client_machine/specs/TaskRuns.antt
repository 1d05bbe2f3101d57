-- What statements of tasks do.
--     TaskAsk, task_ask     what a statement asks of the desk
--     names_once            the names of a scope, each at its first place
--     TaskDoes              what a statement makes of its client
--     RunsNow               a block runs at once as a task, where there is one; its posts come behind the tasks
use Rattle.std.specs.Prelude.{◌≡◌, ℕ, pos, Bool, true, false, List, [], ◌∷◌, map, if◌then◌else◌, Option, Some, None, unwrap_or}
use Rattle.std.specs.List.{list_any}
use Rattle.clone_values.specs.Tree.{Tree, undefined, int}
use Rattle.idb_keys.specs.declared.names.ErrorName.{ErrorName}
use Rattle.idb_keys.specs.declared.names.ErrorName.TheVariants.{InvalidStateError}
use Rattle.idb_keys.specs.declared.names.Mode.{Mode}
use Rattle.idb_keys.specs.declared.names.Durability.{Durability}
use Rattle.idb_keys.specs.declared.names.Durability.TheVariants.{Relaxed}
use Rattle.idb_schema.specs.Schemas.{SchemaData}
use Rattle.name_queues.specs.declared.ids.ConnId.{ConnId}
use Rattle.name_queues.specs.declared.asks.Wants.{Wants}
use Rattle.name_queues.specs.declared.asks.Wants.TheVariants as wants
use Rattle.desk_steps.specs.declared.steps.DeskStep.{DeskStep}
use Rattle.desk_steps.specs.declared.steps.DeskStep.TheVariants as step
use Rattle.item_changes.specs.Items.{Name, is_same_name}
use Rattle.request_lists.specs.Fronts.{Front, new_front}
use Rattle.report_lines.specs.declared.lines.Line.TheVariants as line
use Rattle.serial_order.specs.FinishEntries.{ScriptedBody, Scripted}
use Rattle.script_exprs.specs.Expression.{Expression}
use Rattle.script_values.specs.Evaluating.{value_in}
use Rattle.script_statements.specs.declared.script.Block.{Block as Named}
use Rattle.script_statements.specs.declared.statement.Stmt.{Stmt}
use Rattle.script_statements.specs.declared.statement.Stmt.TheVariants as stmt
use Rattle.script_runs.specs.declared.environments.Env.{Env}
use Rattle.script_runs.specs.declared.notes.Note.{Note}
use Rattle.script_runs.specs.declared.notes.Note.TheVariants as note
use Rattle.script_runs.specs.declared.worlds.RunEnd.{RunEnd}
use Rattle.script_runs.specs.declared.worlds.RunEnd.TheVariants.{Went, Threw}
use Rattle.script_runs.specs.Going.{Goes, Run, Block}
use Rattle.script_handlers.specs.Handling.{Script, BodyRuns, begins_at}
use Rattle.client_machine.specs.Acts.{Told, Act, Noted, Makes, Fails, Begins, notes_of_acts}
use Rattle.client_machine.specs.ClientStates.{OpenAsked, OwnTx, ClientTx, ClientState, id_of, next_request, is_clients, with_open, with_tx, with_notes}

-- ---- what is asked of the desk
pub data TaskAsk : Type 0 where
  asks_of_desk : DeskStep → OpenAsked → TaskAsk
  closes : ConnId → TaskAsk
  creates : ConnId → List Name → Mode → Durability → (body : ℕ) (complete abort : Option ℕ) → TaskAsk
  misplaced : TaskAsk

-- Undefined counts as absent; a version that is no number from 0 on is outside the range of versions
abbrev pub version_in : Tree → Wants
version_in undefined = wants.Open None
version_in (int (pos n)) = wants.Open (Some n)
version_in _ = wants.Open (Some 0)

abbrev pub version_wanted : Env → Option Expression → Wants
version_wanted env None = wants.Open None
version_wanted env (Some e) = version_in (value_in env.variables e)

abbrev pub names_once : List Name → List Name → List Name
names_once seen [] = []
names_once seen (n ∷ ns) = if list_any (is_same_name n) seen then names_once seen ns else n ∷ names_once (n ∷ seen) ns

-- the connection that is named, or else the one at hand; it is to be one of the client's
abbrev pub conn_named : Env → Option ℕ → Option ℕ
conn_named env (Some request) = Some request
conn_named env None = env.connection

abbrev pub on_own : ClientState → Option ℕ → (ConnId → TaskAsk) → TaskAsk
on_own c None f = misplaced
on_own c (Some request) f = if is_clients c request then f (id_of c request) else misplaced

abbrev pub task_ask : ClientState → Env → Stmt → TaskAsk
task_ask c env (stmt.Open db version upgrade blocked success error version_change closed) =
    asks_of_desk (step.Asks (id_of c (next_request c)) db (version_wanted env version))
    (record { name = db; is_delete = false; upgrade = upgrade; blocked = blocked; success = success; error = error; version_change = version_change; closed = closed; env = env; is_given = false })
task_ask c env (stmt.DeleteDatabase db blocked success error) =
    asks_of_desk (step.Asks (id_of c (next_request c)) db wants.Delete)
    (record { name = db; is_delete = true; upgrade = None; blocked = blocked; success = success; error = error; version_change = None; closed = None; env = env; is_given = false })
task_ask c env (stmt.Close conn) = on_own c (conn_named env conn) closes
task_ask c env (stmt.Transaction conn scope m durability body complete abort) = on_own c (conn_named env conn) (λ who. creates who (names_once [] scope) m (unwrap_or durability Relaxed) body complete abort)
task_ask c env _ = misplaced

-- ---- what that makes of the client
abbrev pub has_thrown : RunEnd → Bool
has_thrown Went = false
has_thrown Threw = true

abbrev pub body_left : Mode → SchemaData → List Name → Front Script → RunEnd → ScriptedBody Script
body_left m schema scope front how = record { mode = m; schema = schema; names = scope; front = front; threw = has_thrown how }

abbrev pub own_tx : ℕ → Option ℕ → Option ℕ → Env → ScriptedBody Script → ClientTx
own_tx number complete abort env body = record { number = number; kind = OwnTx complete abort env; body = Scripted body; started = false }

-- A close of a connection that has close pending is no step, and no refusal. The body of a transaction runs where it is created.
pub data TaskDoes (blocks : List Named) (c : ClientState) (env : Env) (statement : Stmt) : List Act → ClientState → Option ErrorName → Type 0 where
  Asked : (t : DeskStep) (o : OpenAsked) (told : Told) → task_ask c env statement ≡ asks_of_desk t o → TaskDoes blocks c env statement (Makes t told ∷ []) (with_open c o) None
  AskRefused : (t : DeskStep) (o : OpenAsked) (name : ErrorName) → task_ask c env statement ≡ asks_of_desk t o → TaskDoes blocks c env statement (Fails t (Some name) ∷ []) c (Some name)
  Closed : (who : ConnId) (told : Told) → task_ask c env statement ≡ closes who → TaskDoes blocks c env statement (Makes (step.Closes who) told ∷ []) c None
  ClosedBefore : (who : ConnId) → task_ask c env statement ≡ closes who → TaskDoes blocks c env statement (Fails (step.Closes who) None ∷ []) c None
  Created : (who : ConnId) (scope : List Name) (m : Mode) (durability : Durability) (body : ℕ) (complete abort : Option ℕ) (number : ℕ) (told : Told) (schema : SchemaData) (notes : List Note) (front : Front Script) (how : RunEnd) (tx : ClientTx)
      → task_ask c env statement ≡ creates who scope m durability body complete abort → told.number ≡ Some number → told.schema ≡ Some schema → BodyRuns blocks number body env (new_front m schema scope) notes front how
      → tx ≡ own_tx number complete abort env (body_left m schema scope front how)
      → TaskDoes blocks c env statement (Makes (step.Creates number who scope m durability) told ∷ Begins tx ∷ Noted (note.Line (line.Created number m durability)) ∷ map Noted notes) (with_tx c tx) None
  CreateRefused : (who : ConnId) (scope : List Name) (m : Mode) (durability : Durability) (body : ℕ) (complete abort : Option ℕ) (number : ℕ) (name : ErrorName)
      → task_ask c env statement ≡ creates who scope m durability body complete abort → TaskDoes blocks c env statement (Fails (step.Creates number who scope m durability) (Some name) ∷ []) c (Some name)
  Misplaced : task_ask c env statement ≡ misplaced → TaskDoes blocks c env statement [] c (Some InvalidStateError)

-- ---- a block at once
pub data RunsNow (blocks : List Named) (c : ClientState) (env : Env) : Option ℕ → List Act → ClientState → Type 0 where
  NoBlock : RunsNow blocks c env None [] c
  RunsBlock : (block : ℕ) (acts : List Act) (last : Run ClientState) (how : RunEnd) → Goes Noted TaskDoes blocks 0 (Block block) (record { world = c; at = begins_at env }) acts last how → RunsNow blocks c env (Some block) acts (with_notes last.world (notes_of_acts acts))
