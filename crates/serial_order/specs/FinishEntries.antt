-- What a transaction was made with, and what became of it.
--     ScriptedBody          a transaction whose body placed calls on its front
--     TxBody                such a body, or the deletion of a database
--     FinishEntry           a transaction of the finish list
--     front_left            the front with which it begins to run
--     scope_of_body, scope_of_entry         what it may read and change
--     did_commit, changes_kept              what it leaves: an aborted one nothing, also where its commit is in doubt
use Rattle.std.specs.Prelude.{ℕ, Bool, true, false, if◌then◌else◌, List, [], Option}
use Rattle.idb_keys.specs.declared.names.Mode.{Mode}
use Rattle.idb_schema.specs.Schemas.{SchemaData}
use Rattle.idb_calls.specs.Deltas.{DeltaTree}
use Rattle.idb_calls.specs.declared.traces.Outcome.{Outcome}
use Rattle.idb_calls.specs.declared.traces.Outcome.TheVariants.{Committed, Aborted}
use Rattle.item_changes.specs.Items.{Name}
use Rattle.item_changes.specs.Scopes.{Scope, Whole, access_of}
use Rattle.request_lists.specs.Fronts.{Front}
use Rattle.request_lists.specs.Placing.{after_rest, after_throw}

-- The front is as the calls of the body left it. Of an upgrade the schema has the new version.
pub record ScriptedBody (D : Type 0) : Type 0 where
  pub mode : Mode
  pub schema : SchemaData
  pub names : List Name
  pub front : Front D
  pub threw : Bool

pub data TxBody (D : Type 0) : Type 0 where
  Scripted : ScriptedBody D → TxBody D
  Deletion : Name → TxBody D

-- The lines are those that its handlers wrote, turn by turn. The changes are those with which it committed or, in doubt, would have.
-- A committed upgrade keeps the schema that its calls left. One that was ended by the host, which is faulted, says so.
pub record FinishEntry (D L : Type 0) : Type 0 where
  pub number : ℕ
  pub body : TxBody D
  pub started : Bool
  pub turns : List (List L)
  pub changes : List DeltaTree
  pub kept : Option SchemaData
  pub by_host : Bool
  pub outcome : Outcome

abbrev pub front_left : {D : Type 0} → ScriptedBody D → Front D
front_left body = if body.threw then after_throw body.front else after_rest body.front

abbrev pub scope_of_body : {D : Type 0} → TxBody D → Scope
scope_of_body (Scripted body) = record { database = body.schema.name; access = access_of body.mode body.names }
scope_of_body (Deletion name) = record { database = name; access = Whole }

abbrev pub scope_of_entry : {D L : Type 0} → FinishEntry D L → Scope
scope_of_entry e = scope_of_body e.body

abbrev pub did_commit : Outcome → Bool
did_commit Committed = true
did_commit (Aborted error doubt) = false

abbrev pub changes_kept : {D L : Type 0} → FinishEntry D L → List DeltaTree
changes_kept e = if did_commit e.outcome then e.changes else []
