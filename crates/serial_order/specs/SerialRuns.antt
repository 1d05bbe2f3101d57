-- Transactions that run one by one (Indexed Database API 3.0, "transaction lifetime").
--     GoesBy                turns that go on, with the lines of each
--     joined_lines          the lines of all of them
--     RunsOut               every request has run: the transaction commits, or would have
--     AbortsItself, AbortsBetween   it aborts in a turn;  it is told to between two turns, since the host is faulted
--     schema_kept           the schema that a committed upgrade keeps
--     Commits, EndsInDoubt  every request has run, and it commits;  its commit met a fault of the disk
--     ScriptedRun, DeletionRun, RunsOn      a run that came to this outcome
--     is_aborted_phase, error_at_end        whether its body aborted it, and by which error it ends then
--     NeverStarts           a transaction that finished without starting
--     RunsAlone             one transaction on the items
--     IsSerial, items_after one after another, each on the items that those before it left;  the items at the end
use Rattle.std.specs.Prelude.{◌≡◌, Bool, true, false, not, List, [], ◌∷◌, ◌++◌, Option, Some, None, ⊤}
use Rattle.std.specs.List.{flat_map}
use Rattle.std.specs.Bool.{MatchBool}
use Rattle.idb_keys.specs.declared.names.ErrorName.{ErrorName}
use Rattle.idb_keys.specs.declared.names.ErrorName.TheVariants.{AbortError, UnknownError}
use Rattle.idb_keys.specs.declared.names.Mode.{Mode}
use Rattle.idb_keys.specs.declared.names.Mode.TheVariants as mode
use Rattle.idb_schema.specs.Schemas.{SchemaData}
use Rattle.idb_calls.specs.Deltas.{DeltaTree, DropDatabase}
use Rattle.idb_calls.specs.declared.traces.Outcome.{Outcome}
use Rattle.idb_calls.specs.declared.traces.Outcome.TheVariants.{Committed, Aborted}
use Rattle.item_changes.specs.Items.{Name, Database, Items}
use Rattle.item_changes.specs.Effects.{applied_all}
use Rattle.item_changes.specs.Scopes.{part_of}
use Rattle.request_lists.specs.declared.entries.Phase.{Phase}
use Rattle.request_lists.specs.declared.entries.Phase.TheVariants as phase
use Rattle.request_lists.specs.Fronts.{Front, new_front}
use Rattle.request_lists.specs.Placing.{Becomes, aborted_by}
use Rattle.machine_laws.specs.Step.TheVariants as step
use Rattle.machine_laws.specs.States.{State, fresh_state}
use Rattle.machine_laws.specs.Machine.{Reacts, Writes, Turn, Aborts, Cancels}
use Rattle.serial_order.specs.FinishEntries.{ScriptedBody, TxBody, Scripted, Deletion, FinishEntry, front_left, scope_of_entry, changes_kept}

-- ---- turn by turn
pub data GoesBy {D L : Type 0} (reacts : Reacts D) (writes : Writes D L) (old : State D) : State D → List (List L) → Type 0 where
  Fresh : GoesBy reacts writes old old []
  Further : (mid last : State D) (turns : List (List L)) (lines : List L) → GoesBy reacts writes old mid turns → Turn reacts writes mid step.Did last lines → GoesBy reacts writes old last (turns ++ lines ∷ [])

abbrev pub joined_lines : {L : Type 0} → List (List L) → List L
joined_lines turns = flat_map (λ lines. lines) turns

-- ---- how a run ends
-- no entry is left
pub record RunsOut {D L : Type 0} (reacts : Reacts D) (writes : Writes D L) (old : State D) (turns : List (List L)) (changes : List DeltaTree) : Type 0 where
  pub new : State D
  pub goes : GoesBy reacts writes old new turns
  pub idle : Turn reacts writes new step.Idle new []
  pub changed : changes ≡ new.changes

-- the last turn is the one that aborts
pub record AbortsItself {D L : Type 0} (reacts : Reacts D) (writes : Writes D L) (old : State D) (error : Option ErrorName) (turns : List (List L)) (changes : List DeltaTree) : Type 0 where
  pub mid : State D
  pub new : State D
  pub earlier : List (List L)
  pub lines : List L
  pub goes : GoesBy reacts writes old mid earlier
  pub ends : Turn reacts writes mid (step.Aborted error) new lines
  pub all_turns : turns ≡ earlier ++ lines ∷ []
  pub nothing : changes ≡ []

-- the lines of the aborting stand as a turn of their own
pub record AbortsBetween {D L : Type 0} (reacts : Reacts D) (writes : Writes D L) (old : State D) (error : Option ErrorName) (turns : List (List L)) (changes : List DeltaTree) : Type 0 where
  pub mid : State D
  pub new : State D
  pub earlier : List (List L)
  pub lines : List L
  pub goes : GoesBy reacts writes old mid earlier
  pub aborts : Aborts reacts writes mid error new lines
  pub all_turns : turns ≡ earlier ++ lines ∷ []
  pub by_host : error ≡ Some AbortError
  pub nothing : changes ≡ []

-- of an upgrade alone
abbrev pub schema_kept : Mode → SchemaData → Option SchemaData
schema_kept mode.ReadOnly schema = None
schema_kept mode.ReadWrite schema = None
schema_kept mode.VersionChange schema = Some schema

pub record Commits {D L : Type 0} (reacts : Reacts D) (writes : Writes D L) (old : State D) (turns : List (List L)) (changes : List DeltaTree) (kept : Option SchemaData) : Type 0 where
  pub out : RunsOut reacts writes old turns changes
  pub schema : kept ≡ schema_kept old.front.mode out.new.schema

pub record EndsInDoubt {D L : Type 0} (reacts : Reacts D) (writes : Writes D L) (old : State D) (error : Option ErrorName) (turns : List (List L)) (changes : List DeltaTree) : Type 0 where
  pub out : RunsOut reacts writes old turns changes
  pub by_disk : error ≡ Some UnknownError

abbrev pub RunsTo : {D L : Type 0} → Reacts D → Writes D L → State D → List (List L) → List DeltaTree → Option SchemaData → Bool → Outcome → Type 0
RunsTo reacts writes old turns changes kept by_host Committed = (by_host ≡ false) × Commits reacts writes old turns changes kept
RunsTo reacts writes old turns changes kept by_host (Aborted error true) = (by_host ≡ false) × (kept ≡ None) × EndsInDoubt reacts writes old error turns changes
RunsTo reacts writes old turns changes kept true (Aborted error false) = (kept ≡ None) × AbortsBetween reacts writes old error turns changes
RunsTo reacts writes old turns changes kept false (Aborted error false) = (kept ≡ None) × AbortsItself reacts writes old error turns changes

-- ---- from the part of the items that its scope names
pub record ScriptedRun {D L : Type 0} (reacts : Reacts D) (writes : Writes D L) (part : Option Database) (body : ScriptedBody D) (turns : List (List L)) (changes : List DeltaTree) (kept : Option SchemaData) (by_host : Bool) (outcome : Outcome) : Type 0 where
  pub placed : Becomes (new_front body.mode body.schema body.names) body.front
  pub runs : RunsTo reacts writes (fresh_state (front_left body) body.schema part) turns changes kept by_host outcome

-- a database is deleted in one change
abbrev pub DeletionRun : Name → List DeltaTree → Bool → Outcome → Type 0
DeletionRun name changes by_host Committed = (by_host ≡ false) × (changes ≡ DropDatabase name ∷ [])
DeletionRun name changes by_host (Aborted error true) = (by_host ≡ false) × (error ≡ Some UnknownError) × (changes ≡ DropDatabase name ∷ [])
DeletionRun name changes by_host (Aborted error false) = (by_host ≡ true) × (error ≡ Some AbortError) × (changes ≡ [])

abbrev pub RunsOn : {D L : Type 0} → Reacts D → Writes D L → Option Database → TxBody D → List (List L) → List DeltaTree → Option SchemaData → Bool → Outcome → Type 0
RunsOn reacts writes part (Scripted body) turns changes kept by_host outcome = ScriptedRun reacts writes part body turns changes kept by_host outcome
RunsOn reacts writes part (Deletion name) turns changes kept by_host outcome = (turns ≡ []) × (kept ≡ None) × DeletionRun name changes by_host outcome

-- ---- without starting
-- the lines of the cancelling stand as one turn
-- the body aborted it
abbrev pub is_aborted_phase : Phase → Bool
is_aborted_phase phase.Active = false
is_aborted_phase phase.Inactive = false
is_aborted_phase phase.Committing = false
is_aborted_phase phase.Committed = false
is_aborted_phase (phase.Aborted error) = true

-- the error by which the body aborted, if it did
abbrev pub error_at_end : Phase → Option ErrorName
error_at_end phase.Active = Some AbortError
error_at_end phase.Inactive = Some AbortError
error_at_end phase.Committing = Some AbortError
error_at_end phase.Committed = Some AbortError
error_at_end (phase.Aborted error) = error

pub record ScriptedCancelled {D L : Type 0} (reacts : Reacts D) (writes : Writes D L) (body : ScriptedBody D) (turns : List (List L)) (by_host : Bool) (outcome : Outcome) : Type 0 where
  pub placed : Becomes (new_front body.mode body.schema body.names) body.front
  pub last : Front D
  pub lines : List L
  pub told : Cancels reacts writes (front_left body).waiting (aborted_by (error_at_end (front_left body).phase) (front_left body)) last lines
  pub by_body : by_host ≡ not (is_aborted_phase (front_left body).phase)
  pub one_turn : turns ≡ lines ∷ []
  pub ended : outcome ≡ Aborted (error_at_end (front_left body).phase) false

abbrev pub IsCancelled : {D L : Type 0} → Reacts D → Writes D L → TxBody D → List (List L) → Bool → Outcome → Type 0
IsCancelled reacts writes (Scripted body) turns by_host outcome = ScriptedCancelled reacts writes body turns by_host outcome
IsCancelled reacts writes (Deletion name) turns by_host outcome = (turns ≡ []) × (by_host ≡ true) × (outcome ≡ Aborted (Some AbortError) false)

pub record NeverStarts {D L : Type 0} (reacts : Reacts D) (writes : Writes D L) (body : TxBody D) (turns : List (List L)) (changes : List DeltaTree) (kept : Option SchemaData) (by_host : Bool) (outcome : Outcome) : Type 0 where
  pub cancelled : IsCancelled reacts writes body turns by_host outcome
  pub nothing : changes ≡ []
  pub no_schema : kept ≡ None

-- ---- one by one
abbrev pub RunsAlone : {D L : Type 0} → Reacts D → Writes D L → Items → FinishEntry D L → Type 0
RunsAlone reacts writes items e = MatchBool e.started (RunsOn reacts writes (part_of (scope_of_entry e) items) e.body e.turns e.changes e.kept e.by_host e.outcome) (NeverStarts reacts writes e.body e.turns e.changes e.kept e.by_host e.outcome)

abbrev pub IsSerial : {D L : Type 0} → Reacts D → Writes D L → Items → List (FinishEntry D L) → Type 0
IsSerial reacts writes items [] = ⊤
IsSerial reacts writes items (e ∷ es) = RunsAlone reacts writes items e × IsSerial reacts writes (applied_all items (changes_kept e)) es

abbrev pub items_after : {D L : Type 0} → Items → List (FinishEntry D L) → Items
items_after items [] = items
items_after items (e ∷ es) = items_after (applied_all items (changes_kept e)) es
