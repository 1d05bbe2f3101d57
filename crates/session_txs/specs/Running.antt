-- A transaction of a session that runs on its databases (Indexed Database API 3.0, "transaction lifetime").
--     SessionTxState        what it was begun with, and what it came to so far
--     begun_tx              as it begins on these databases
--     with_one_turn, ended_tx       one turn more;  at its end
--     IsLoggableBody        what it changes can be logged: an upgrade is to such a version, and its schema is within the limits
--     StepsInto             what a step comes to
--     PartState             the part of the databases that it had, and what it changed in it
--     LeavesItsPart         that part stands again where it was taken out, with these changes
--     RanSo, DoubtedRun     one that ended ran on its part of the databases, with these changes;  and so where its commit met a fault
--     IsTraceOfDeletion     what is told of a deletion
--     IsDeletionTrace, IsDroppedDeletion    of one that committed;  of one that the host ended before it started
--     EndsUnstarted         one that never starts is told so, and finishes: its body aborted it, or the host ends it
use Rattle.std.specs.Prelude.{◌≡◌, ◌≤◌, ℕ, Bool, true, false, length, List, [], ◌∷◌, ◌++◌, Option, Some, None, ⊤}
use Rattle.idb_schema.specs.Schemas.{SchemaData}
use Rattle.idb_keys.specs.declared.names.Durability.TheVariants.{Strict}
use Rattle.idb_keys.specs.declared.names.ErrorName.TheVariants.{AbortError, UnknownError}
use Rattle.idb_keys.specs.declared.names.Mode.TheVariants as mode
use Rattle.idb_calls.specs.Deltas.{DeltaTree, DropDatabase}
use Rattle.idb_calls.specs.declared.traces.TxTrace.{TxTrace}
use Rattle.idb_calls.specs.declared.traces.Outcome.{Outcome}
use Rattle.idb_calls.specs.declared.traces.Outcome.TheVariants.{Committed, Aborted}
use Rattle.item_changes.specs.Items.{Name, Database, Items}
use Rattle.item_changes.specs.Effects.{applied_all}
use Rattle.item_changes.specs.Scopes.{Scope, part_of}
use Rattle.record_bytes.specs.Loggable.{is_logged_version}
use Rattle.request_lists.specs.Fronts.{is_upgrade_mode}
use Rattle.list_machine.specs.declared.limits.TheConstants.{GREATEST_STORE_COUNT}
use Rattle.list_machine.specs.declared.steps.Step.{Step}
use Rattle.list_machine.specs.declared.steps.Step.TheVariants as step
use Rattle.serial_order.specs.FinishEntries.{ScriptedBody, Scripted, scope_of_body}
use Rattle.serial_order.specs.SerialRuns.{RunsOn, NeverStarts}
use Rattle.script_runs.specs.declared.notes.Note.{Note}
use Rattle.script_handlers.specs.Handling.{Script, ScriptReacts, ScriptWrites}
use Rattle.session_databases.specs.Parts.{without_part}

-- The part is what its scope named of the databases when it began. The turns are the lines that its handlers wrote in each. It has an
-- end when no entry was left to run, or it aborted.
pub record SessionTxState : Type 0 where
  pub number : ℕ
  pub body : ScriptedBody Script
  pub part : Option Database
  pub turns : List (List Note)
  pub end : Option Outcome

abbrev pub scope_of_scripted : ScriptedBody Script → Scope
scope_of_scripted body = scope_of_body (Scripted body)

abbrev pub begun_tx : ℕ → ScriptedBody Script → Items → SessionTxState
begun_tx number body items = record { number = number; body = body; part = part_of (scope_of_scripted body) items; turns = []; end = None }

pub record IsLoggableBody (body : ScriptedBody Script) : Type 0 where
  pub version : is_upgrade_mode body.mode ≡ true → is_logged_version body.schema.version ≡ true
  pub few : length body.schema.entries ≤ GREATEST_STORE_COUNT

-- ---- a step
abbrev pub with_one_turn : List Note → SessionTxState → SessionTxState
with_one_turn lines tx = record tx { turns = tx.turns ++ lines ∷ [] }

abbrev pub ended_tx : Outcome → SessionTxState → SessionTxState
ended_tx outcome tx = record tx { end = Some outcome }

-- the lines of the turn are added to the notes
abbrev pub StepsInto : Step → SessionTxState → List Note → SessionTxState → List Note → Type 0
StepsInto step.Did old before new after = (lines : List Note) × (new ≡ with_one_turn lines old) × (after ≡ before ++ lines)
StepsInto step.Idle old before new after = (new ≡ ended_tx Committed old) × (after ≡ before)
StepsInto (step.Aborted error) old before new after = (lines : List Note) × (new ≡ ended_tx (Aborted error false) (with_one_turn lines old)) × (after ≡ before ++ lines)
StepsInto step.NoMemory old before new after = ⊤

-- ---- its end
-- as it was when the transaction began
pub record PartState : Type 0 where
  pub scope : Scope
  pub part : Option Database
  pub changes : List DeltaTree

abbrev pub part_left : SessionTxState → List DeltaTree → PartState
part_left tx changes = record { scope = scope_of_scripted tx.body; part = tx.part; changes = changes }

-- the databases lack the part, whatever happened to the rest of them since
abbrev pub LeavesItsPart : PartState → List DeltaTree → Items → Items → Type 0
LeavesItsPart left changes old new = (items : Items) → old ≡ without_part left.scope items → left.part ≡ part_of left.scope items → new ≡ applied_all items changes

abbrev pub RanSo : SessionTxState → List DeltaTree → Option SchemaData → Outcome → Type 0
RanSo tx changes kept outcome = RunsOn ScriptReacts ScriptWrites tx.part (Scripted tx.body) tx.turns changes kept false outcome

-- what it would have changed is told
abbrev pub DoubtedRun : SessionTxState → List DeltaTree → Type 0
DoubtedRun tx changes = RanSo tx changes None (Aborted (Some UnknownError) true)

-- deletions are strict
pub record IsTraceOfDeletion (number : ℕ) (deltas : List DeltaTree) (ended : Outcome) (trace : TxTrace) : Type 0 where
  pub number_is : trace.number ≡ number
  pub mode : trace.mode ≡ mode.VersionChange
  pub durability : trace.durability ≡ Strict
  pub changes : trace.deltas ≡ deltas
  pub outcome : trace.outcome ≡ ended

abbrev pub IsDeletionTrace : ℕ → Name → TxTrace → Type 0
IsDeletionTrace number name trace = IsTraceOfDeletion number (DropDatabase name ∷ []) Committed trace

abbrev pub IsDroppedDeletion : ℕ → TxTrace → Type 0
IsDroppedDeletion number trace = IsTraceOfDeletion number [] (Aborted (Some AbortError) false) trace

-- ---- without starting
pub record EndsUnstarted (body : ScriptedBody Script) (by_host : Bool) (outcome : Outcome) (before after : List Note) : Type 0 where
  pub lines : List Note
  pub never : NeverStarts ScriptReacts ScriptWrites (Scripted body) (lines ∷ []) [] None by_host outcome
  pub added : after ≡ before ++ lines
