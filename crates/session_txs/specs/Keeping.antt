-- What a running transaction keeps.
--     lines_of_turn, turns_seen     the lines that were added to the notes in a turn;  in each
--     begun_state, state_now        the state of the list machine as its body left it;  and now
--     GoesSo                its turns so far lead from the one to the other
--     StandsAfter                so it is while it goes on, and it is at its end
--     CanLog, LogsSo        what it changed so far can be logged, and it is within its limits;  so it is while it goes on, and where it commits
--     IsRunning             all of it
--     changes_told, schema_kept_by     what is told of one with this outcome
--     IsLeft                a part of the databases with what was changed in it: the changes are in the scope that took it out
use Rattle.std.specs.Prelude.{◌≡◌, Bool, true, false, List, [], drop, length, map, if◌then◌else◌, Option, Some, None, ⊤}
use Rattle.idb_calls.specs.declared.traces.Outcome.{Outcome}
use Rattle.idb_calls.specs.declared.traces.Outcome.TheVariants.{Committed, Aborted}
use Rattle.idb_keys.specs.declared.names.Mode.{Mode}
use Rattle.idb_schema.specs.Schemas.{SchemaData}
use Rattle.idb_calls.specs.Deltas.{DeltaTree}
use Rattle.item_changes.specs.Items.{Name, Database, Items}
use Rattle.item_changes.specs.Effects.{made_all}
use Rattle.item_changes.specs.Scopes.{Scope, AllWithin, part_of}
use Rattle.request_lists.specs.Fronts.{new_front}
use Rattle.request_lists.specs.Placing.{Becomes}
use Rattle.list_machine.specs.declared.steps.Step.TheVariants as step
use Rattle.list_machine.specs.States.{State, fresh_state}
use Rattle.list_machine.specs.Machine.{Turn}
use Rattle.list_machine.specs.Seeing.{state_map}
use Rattle.machine_laws.specs.Limiting.{WithinLimits}
use Rattle.loggable_changes.specs.Logging.{AreLoggable}
use Rattle.serial_order.specs.FinishEntries.{ScriptedBody, front_left, did_commit}
use Rattle.serial_order.specs.SerialRuns.{GoesBy, AbortsItself, schema_kept}
use Rattle.serial_order.specs.NumberOrder.{FitsWhole}
use Rattle.script_runs.specs.declared.notes.Note.{Note}
use Rattle.script_handlers.specs.declared.handlers.ScriptHandler.{ScriptHandler}
use Rattle.script_handlers.specs.Handling.{Script, ScriptReacts, ScriptWrites}
use Rattle.script_handlers.specs.Seeing.{script_seen}
use Rattle.session_txs.specs.declared.turns.TurnNotes.{TurnNotes}

abbrev pub lines_of_turn : TurnNotes → List Note
lines_of_turn t = drop (length t.before.value) t.after.value

abbrev pub turns_seen : List TurnNotes → List (List Note)
turns_seen ts = map lines_of_turn ts

abbrev pub begun_state : ScriptedBody Script → Option Database → State Script
begun_state body part = fresh_state (front_left body) body.schema part

abbrev pub state_now : State ScriptHandler → State Script
state_now state = state_map script_seen state

abbrev pub GoesSo : ScriptedBody Script → State ScriptHandler → List (List Note) → Type 0
GoesSo body state turns = GoesBy ScriptReacts ScriptWrites (begun_state body state.before) (state_now state) turns

-- no entry is left
pub record HasRunOut (body : ScriptedBody Script) (state : State ScriptHandler) (turns : List (List Note)) : Type 0 where
  pub goes : GoesSo body state turns
  pub idle : Turn ScriptReacts ScriptWrites (state_now state) step.Idle (state_now state) []

-- after want of memory nothing is known
abbrev pub StandsAfter : ScriptedBody Script → State ScriptHandler → List (List Note) → Bool → Option Outcome → Type 0
StandsAfter body state turns is_stuck None = is_stuck ≡ false → GoesSo body state turns
StandsAfter body state turns is_stuck (Some Committed) = HasRunOut body state turns
StandsAfter body state turns is_stuck (Some (Aborted error true)) = ⊥
StandsAfter body state turns is_stuck (Some (Aborted error false)) = AbortsItself ScriptReacts ScriptWrites (begun_state body state.before) error turns [] × (state.database ≡ state.before)

pub record CanLog {D : Type 0} (state : State D) : Type 0 where
  pub loggable : AreLoggable state.changes
  pub within : WithinLimits state

abbrev pub LogsSo : State ScriptHandler → Bool → Option Outcome → Type 0
LogsSo state is_stuck None = is_stuck ≡ false → CanLog state
LogsSo state is_stuck (Some Committed) = CanLog state
LogsSo state is_stuck (Some (Aborted error doubt)) = ⊤

pub record IsRunning (body : ScriptedBody Script) (name : Name) (state : State ScriptHandler) (turns : List (List Note)) (is_stuck : Bool) (end : Option Outcome) : Type 0 where
  pub placed : Becomes (new_front body.mode body.schema body.names) body.front
  pub fits : FitsWhole state.before body
  pub name_is : name ≡ body.schema.name
  pub came : StandsAfter body state turns is_stuck end
  pub logs : LogsSo state is_stuck end

abbrev pub changes_told : Outcome → List DeltaTree → List DeltaTree
changes_told outcome changes = if did_commit outcome then changes else []

abbrev pub schema_kept_by : Outcome → Mode → SchemaData → Option SchemaData
schema_kept_by outcome mode schema = if did_commit outcome then schema_kept mode schema else None

pub record IsLeft (scope : Scope) (before after : Option Database) (changes : List DeltaTree) : Type 0 where
  pub made : made_all changes before ≡ after
  pub within : (items : Items) → before ≡ part_of scope items → AllWithin scope changes
