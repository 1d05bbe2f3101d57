-- Bodies of transactions and handlers of requests, as scripts write them. A handler is plain data: the client's blocks, the transaction's
-- number, what its statement names, and the environment as it was when its statement ran.
--     Script                a handler;  Lent: a front that is lent to a run
--     FrontDoes             what a statement makes of a front
--     itself, alone         a note comes out as it is
--     Handled               the event of a request is handled: its line, and then the block for it
--     ScriptReacts, ScriptWrites      the same run, seen from its two sides
--     BodyRuns              the body of a transaction runs on its new front
use Rattle.std.specs.Prelude.{◌≡◌, ℕ, Bool, true, false, List, [], ◌∷◌, Option, Some, None, if◌then◌else◌, codes}
use Rattle.clone_values.specs.Tree.{text}
use Rattle.clone_values.specs.View.{tree_of}
use Rattle.idb_keys.specs.Names.{error_name}
use Rattle.idb_keys.specs.declared.names.ErrorName.{ErrorName}
use Rattle.idb_calls.specs.declared.calls.Call.{Call}
use Rattle.idb_calls.specs.declared.events.Event.{Event}
use Rattle.idb_calls.specs.declared.events.Event.TheVariants.{Success, Error}
use Rattle.request_lists.specs.Fronts.{Front}
use Rattle.request_lists.specs.Refusals.{refusal_of, refusal_of_change, refusal_of_commit, refusal_of_abort}
use Rattle.request_lists.specs.Placing.{after_call, after_schema_call, after_commit, after_abort}
use Rattle.request_lists.specs.declared.handlers.HandlerEnd.{HandlerEnd}
use Rattle.request_lists.specs.declared.handlers.HandlerEnd.TheVariants as end
use Rattle.report_lines.specs.declared.lines.Line.{Line}
use Rattle.report_lines.specs.declared.lines.Line.TheVariants as line
use Rattle.script_statements.specs.declared.script.Block.{Block as Named}
use Rattle.script_statements.specs.declared.statement.Stmt.{Stmt}
use Rattle.script_runs.specs.declared.environments.Env.{Env}
use Rattle.script_runs.specs.declared.environments.At.{At}
use Rattle.script_runs.specs.declared.notes.Note.{Note}
use Rattle.script_runs.specs.declared.notes.Note.TheVariants as note
use Rattle.script_runs.specs.declared.worlds.RunEnd.{RunEnd}
use Rattle.script_runs.specs.declared.worlds.RunEnd.TheVariants.{Went, Threw}
use Rattle.script_runs.specs.Words.{with_variable}
use Rattle.script_runs.specs.Going.{Goes, Run, Block}
use Rattle.script_handlers.specs.declared.asks.Ask.{Ask}
use Rattle.script_handlers.specs.declared.asks.Ask.TheVariants as ask
use Rattle.script_handlers.specs.Asking.{ask_of}

pub record Script : Type 0 where
  pub blocks : List Named
  pub number : ℕ
  pub success : Option ℕ
  pub error : Option ℕ
  pub opens : Bool
  pub env : Env

-- a front that is lent to a run, beside what its handlers are made of, and whether the run prevented the event's default action
pub record Lent : Type 0 where
  pub front : Front Script
  pub blocks : List Named
  pub number : ℕ
  pub prevented : Bool

-- ---- statements
abbrev pub handler_made : Lent → Env → Option ℕ → Option ℕ → Bool → Script
handler_made w env success error opens = record { blocks = w.blocks; number = w.number; success = success; error = error; opens = opens; env = env }

-- the front after a call that was taken; a call that is refused changes nothing
abbrev pub unless_refused : Option ErrorName → Lent → Front Script → Lent × Option ErrorName
unless_refused None w front = (record w { front = front }, None)
unless_refused (Some e) w front = (w, Some e)

abbrev pub did_of : Lent → Env → Ask → Lent × Option ErrorName
did_of w env (ask.Places call success error opens) = unless_refused (refusal_of call w.front) w (after_call call (handler_made w env success error opens) w.front)
did_of w env (ask.Changes call) = unless_refused (refusal_of_change call w.front) w (after_schema_call call w.front)
did_of w env ask.Commits = unless_refused (refusal_of_commit w.front) w (after_commit w.front)
did_of w env ask.Aborts = unless_refused (refusal_of_abort w.front) w (after_abort w.front)
did_of w env ask.Prevents = (record w { prevented = true }, None)
did_of w env (ask.Refused e) = (w, Some e)

-- the blocks of a run are those of its front, and nothing comes out
pub record FrontDoes (blocks : List Named) (w : Lent) (env : Env) (statement : Stmt) (outs : List Note) (after : Lent) (refusal : Option ErrorName) : Type 0 where
  pub quiet : outs ≡ []
  pub is : (after, refusal) ≡ did_of w env (ask_of w.front env statement)

abbrev pub itself : Note → Note
itself n = n

abbrev pub alone : Note → List Note
alone n = n ∷ []

abbrev pub lent_to : Front Script → List Named → ℕ → Lent
lent_to front blocks number = record { front = front; blocks = blocks; number = number; prevented = false }

abbrev pub begins_at : Env → At
begins_at env = record { env = env; count = 0 }

-- a block runs on a front from its beginning
pub record FrontRuns (blocks : List Named) (number block : ℕ) (env : Env) (front : Front Script) (notes : List Note) (after : Front Script) (prevented : Bool) (how : RunEnd) : Type 0 where
  pub last : Run Lent
  pub goes : Goes itself FrontDoes blocks 0 (Block block) (record { world = lent_to front blocks number; at = begins_at env }) notes last how
  pub front_is : after ≡ last.world.front
  pub prevented_is : prevented ≡ last.world.prevented

-- ---- handlers
abbrev pub line_told : ℕ → Event → Line
line_told number (Success request result) = line.RequestSuccess number request result
line_told number (Error request name) = line.RequestError number request name

abbrev pub block_for : Script → Event → Option ℕ
block_for h (Success request result) = h.success
block_for h (Error request name) = h.error

-- the result of a cursor's request comes with the cursor
abbrev pub cursor_for : Script → ℕ → Option ℕ
cursor_for h request = if h.opens then Some request else h.env.cursor

abbrev pub env_for : Script → Event → Env
env_for h (Success request result) = record (with_variable h.env (codes "result") (tree_of result)) { cursor = cursor_for h request }
env_for h (Error request name) = with_variable h.env (codes "error") (text (error_name name))

-- only an error has a default action
abbrev pub prevents : Event → Bool → Bool
prevents (Success request result) prevented = false
prevents (Error request name) prevented = prevented

abbrev pub end_of : RunEnd → Event → Bool → HandlerEnd
end_of Went event prevented = end.Returned (prevents event prevented)
end_of Threw event prevented = end.Threw

pub data Handled (h : Script) (front : Front Script) (event : Event) : List Note → Front Script → HandlerEnd → Type 0 where
  Unheard : block_for h event ≡ None → Handled h front event (note.Line (line_told h.number event) ∷ []) front (end.Returned false)
  Heard : (block : ℕ) (notes : List Note) (after : Front Script) (prevented : Bool) (how : RunEnd) → block_for h event ≡ Some block → FrontRuns h.blocks h.number block (env_for h event) front notes after prevented how → Handled h front event (note.Line (line_told h.number event) ∷ notes) after (end_of how event prevented)

abbrev pub ScriptReacts : Script → Front Script → Event → Script → Front Script → HandlerEnd → Type 0
ScriptReacts h front event after last how = (after ≡ h) × ((notes : List Note) × Handled h front event notes last how)

abbrev pub ScriptWrites : Script → Front Script → Event → List Note → Type 0
ScriptWrites h front event notes = (last : Front Script) × ((how : HandlerEnd) × Handled h front event notes last how)

-- ---- bodies
-- no cursor is at hand in a body
abbrev pub body_env : Env → Env
body_env env = record env { cursor = None }

abbrev pub BodyRuns : List Named → ℕ → ℕ → Env → Front Script → List Note → Front Script → RunEnd → Type 0
BodyRuns blocks number body env front notes after how = (prevented : Bool) × FrontRuns blocks number body (body_env env) front notes after prevented how
